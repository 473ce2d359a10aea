-- Laws of serve, over any store. Assumes nothing.
use Prim.Native.Nat.{ℕ, suc, ◌+◌, ◌≤◌}
use mathlib.Core.Path.{◌≡◌, refl, ap, ◌∙◌}
use mathlib.Core.Bool.{true, false, cond}
use mathlib.Core.List.{List, [], ◌∷◌, ◌++◌}
use native.Mathlib.Omega.{arith}
use lib.ListN.{length}
use lib.Dec.{leb}
use borrow.Author.Tests.{leb-false, le-leb}
use Rattle.model.specs.Waiting.{Entry, insert, blocked, expires, expired, remaining}
use Rattle.model.specs.Rules.{Rules, queued}
use Rattle.model.specs.Calls.{Woken, Store, Served, state, noted, fitting, given, wakes, serve, head_stuck, goes}
use Rattle.model.proofs.Tests.{by, clash, not_t}
use Rattle.model.proofs.Waiting.{open_queued, head-blocks}
use Rattle.model.proofs.Store.{StoreLaws}

module _ (K : Rules) {P : Type 0} (E : Store P) where
  pub serve_stuck : (p : P) (q : List Entry) → head_stuck K E p q ≡ true → serve K E p q ≡ record { woken = []; state = state p q }
  unfolding serve head_stuck
  serve_stuck p [] h = refl
  serve_stuck p (e ∷ q) h = rw (not_t (fitting K E e p) h)

  -- a tick that ends no wait leaves the head's size
  pub stuck_remaining : (p : P) (q : List Entry) → length (expired q) ≡ 0 → head_stuck K E p q ≡ true → head_stuck K E p (remaining q) ≡ true
  unfolding head_stuck expired remaining
  stuck_remaining p [] n h = refl
  stuck_remaining p (e ∷ q) n h = by (expires e) (λ x. absurd (let z : suc (length (expired q)) ≡ 0 = rw x at n in omega arith)) (λ x. rw x h)

  pub serve-ends : (p : P) (q : List Entry) → head_stuck K E (serve K E p q).state.pool (serve K E p q).state.queue ≡ true
  unfolding serve head_stuck
  serve-ends p [] = refl
  serve-ends p (e ∷ q) =
      by (fitting K E e p)
      (λ h. rw h (serve-ends (given K E e p) q))
      (λ h. rw h (rw h))

  pub serve-count : (p : P) (q : List Entry) → length (serve K E p q).woken + length (serve K E p q).state.queue ≡ length q
  unfolding serve
  serve-count p [] = refl
  serve-count p (e ∷ q) =
      by (fitting K E e p)
      (λ h. let ih = serve-count (given K E e p) q in rw h (omega (arith, ih)))
      (λ h. rw h (omega arith))

  -- ---- serving a queue with one entry more

  -- those whom serve wakes have at most the rank r
  unfoldable pub Below : ℕ → P → List Entry → Type 0
  Below r p [] = Unit {0}
  Below r p (e ∷ q) = fitting K E e p ≡ true → (K.rank e ≤ r) × Below r (given K E e p) q

  pub below_stuck : (r : ℕ) (p : P) (q : List Entry) → head_stuck K E p q ≡ true → Below r p q
  unfolding Below head_stuck
  below_stuck r p [] h = tt
  below_stuck r p (e ∷ q) h = λ f. clash (fitting K E e p) f (not_t (fitting K E e p) h)

  -- one more request after what is served: granted if nobody goes before it and a run fits, else in the queue
  abbrev pub more : Served P → Entry → Served P
  more v e =
      cond (goes K E e v.state)
      (record { woken = v.woken ++ (wakes K E e v.state.pool ∷ []); state = state (given K E e v.state.pool) v.state.queue })
      (record { woken = v.woken; state = state v.state.pool (insert K.rank e v.state.queue) })

  noted_more : (w : Woken) (v : Served P) (e : Entry) → noted w (more v e) ≡ more (noted w v) e
  noted_more w v e = by (goes K E e v.state) (λ g. rw g) (λ g. rw g)

  module _ (S : StoreLaws K E) where
    pub below_insert : (r : ℕ) (p : P) (e : Entry) (q : List Entry) → K.rank e ≡ r → Below r p q → Below r p (insert K.rank e q)
    unfolding Below insert
    below_insert r p e [] k b = λ f. (omega arith, tt)
    below_insert r p e (x ∷ q) k b =
        by (leb (K.rank x) (K.rank e))
        (λ h. rw h (λ f. ((b f).0, below_insert r (given K E x p) e q k (b f).1)))
        (λ h. rw h (λ f. (
          omega arith,
          λ g. by (fitting K E x p)
              (λ y. absurd (omega (arith, (b y).0, leb-false (K.rank x) (K.rank e) h)))
              (λ y. clash (fitting K E x (given K E e p)) g (S.grant-fits (K.need e.size) e.task (K.need x.size) p y)),
        )))

    -- to serve a queue with one more is to serve the queue and then to answer the one
    pub serve-insert : (p : P) (e : Entry) (q : List Entry) → queued K q ≡ true → Below (K.rank e) p q → serve K E p (insert K.rank e q) ≡ more (serve K E p q) e
    unfolding Below insert serve blocked
    serve-insert p e [] o b = by (fitting K E e p) (λ f. rw f) (λ f. rw f)
    serve-insert p e (x ∷ q) o b =
        by (fitting K E x p)
        (λ f. let h : leb (K.rank x) (K.rank e) ≡ true = le-leb (K.rank x) (K.rank e) (b f).0 in
        rw h (rw f (ap (λ (v : Served P). noted (wakes K E x p) v) (serve-insert (given K E x p) e q (open_queued K x q o).rest (b f).1) ∙ noted_more (wakes K E x p) (serve K E (given K E x p) q) e)))
        (λ f. by (leb (K.rank x) (K.rank e))
        (λ h. rw h (rw f (rw h)))
        (λ h. let free : blocked K.rank (K.rank e) (x ∷ q) ≡ false = head-blocks K (K.rank e) x q o ∙ h in
        rw h (by (fitting K E e p)
        (λ g. let m = S.grant-fits (K.need e.size) e.task (K.need x.size) p f in rw g (rw (m, f) (rw (free, g))))
        (λ g. rw g (rw f (rw (free, h, g)))))))
