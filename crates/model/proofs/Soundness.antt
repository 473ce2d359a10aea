-- Every call leaves a sound state sound; a refused call leaves it as it was. Over any store. Assumes nothing.
use Prim.Native.Nat.{ℕ, suc, ◌+◌, ◌≤◌}
use mathlib.Core.Path.{◌≡◌, refl, ap, ◌∙◌}
use mathlib.Core.Bool.{Bool, true, false, not, ◌&&◌}
use mathlib.Core.List.{List, [], ◌∷◌}
use mathlib.Core.Option.{Option, none, some}
use native.Mathlib.Omega.{arith}
use lib.ListN.{length, length-append}
use lib.Dec.{leb}
use lib.IntN.{ℤ, pos, negsuc}
use borrow.Author.Tests.{leb-true, le-leb}
use Rattle.model.specs.Limits.{longest_limit, longest_left, e_par, e_id, e_ctx, e_obj, e_tmout}
use Rattle.model.specs.Waiting.{Entry, waits, remove, insert, blocked, ok_left, expired, remaining}
use Rattle.model.specs.Rules.{Rules, Laws, ok_task, queued}
use Rattle.model.specs.Calls.{place_of, Request, Call, get, release, cancel, tick, inquire, Refusal, plain, refuse, deny, ok_limit, left_of, entry_of, leave, Store, State, state, fitting, given, serve, head_stuck, sound, goes, tests, verdict, act, step}
use Rattle.model.proofs.Tests.{by, and_l, and_r, and_i, not_t, not_f}
use Rattle.model.proofs.Waiting.{Asked, asked, entry-asked, open_queued, head-blocks, insert-queued, remove-queued, remaining-queued, queued-length, remove-count, expired-count}
use Rattle.model.proofs.Store.{StoreLaws}
use Rattle.model.proofs.Serving.{serve-ends, serve-count}

-- ---- the tests, opened

pub no_some : {A X : Type 0} {c : A} → some c ≡ none → X
no_some e = absurd (let z : ◌≡◌ {A = ℕ} 0 1 = cc in omega arith)

-- a test that was passed
pub past : {A : Type 0} (b : Bool) (c : A) (rest : Option A) → deny b c rest ≡ none → (b ≡ false) × (rest ≡ none)
past true c rest e = no_some e
past false c rest e = (refl, e)

pub leave-length : (c : ℤ) (ts : List ℕ) → length (leave c ts) ≡ length ts
unfolding leave
leave-length c [] = refl
leave-length c (t ∷ ts) = ap suc (leave-length c ts)

module _ (K : Rules) {P : Type 0} (E : Store P) where
  pub record Sound (s : State P) : Type 0 where
    pub valid : K.valid ≡ true
    pub pool : E.sound s.pool ≡ true
    pub order : queued K s.queue ≡ true
    pub stuck : head_stuck K E s.pool s.queue ≡ true

  pub open_sound : (s : State P) → sound K E s ≡ true → Sound s
  unfolding sound
  open_sound s e =
      let a = K.valid in
      let b = E.sound s.pool in
      let c = queued K s.queue in
      let d = head_stuck K E s.pool s.queue in
      let e1 : b && (c && d) ≡ true = and_r a (b && (c && d)) e in
      let e2 : c && d ≡ true = and_r b (c && d) e1 in
      record { valid = and_l a (b && (c && d)) e; pool = and_l b (c && d) e1; order = and_l c d e2; stuck = and_r c d e2 }

  pub close_sound : (s : State P) → Sound s → sound K E s ≡ true
  unfolding sound
  close_sound s o = and_i K.valid _ o.valid (and_i (E.sound s.pool) _ o.pool (and_i (queued K s.queue) _ o.order o.stuck))

  -- a get that no test refuses
  pub record Passed (r : Request) (s : State P) : Type 0 where
    pub task : ok_task K r.task ≡ true
    pub fair : K.allowed (entry_of r) ≡ true
    pub limit : ok_limit r.limit ≡ true
    pub away : waits r.task s.queue ≡ false

  pub passed : (r : Request) (s : State P) → tests K E (get r) s ≡ none → Passed r s
  unfolding tests
  passed r s e =
      let a = K.allowed (entry_of r) in
      let b = ok_limit r.limit in
      let p = past (not (ok_task K r.task)) (plain e_id) _ e in
      let q = past (not (a && b)) (plain e_par) _ p.1 in
      let w = past (waits r.task s.queue) (plain e_ctx) _ q.1 in
      let ab = not_f (a && b) q.0 in
      record {
        task = not_f (ok_task K r.task) p.0;
        fair = and_l a b ab;
        limit = and_r a b ab;
        away = w.0;
      }

  pub passed_asked : (r : Request) (s : State P) → Passed r s → Asked K (entry_of r)
  passed_asked r s o = asked K (entry_of r) o.task o.fair

  pub passed_cancel : (t : ℕ) (s : State P) → tests K E (cancel t) s ≡ none → waits t s.queue ≡ true
  unfolding tests
  passed_cancel t s e = let p = past (not (ok_task K t)) (plain e_id) _ e in not_f (waits t s.queue) (past (not (waits t s.queue)) (plain e_obj) _ p.1).0

  -- ---- a call is refused, or carried out

  pub step-refused : (c : Call) (s : State P) (k : Refusal) → verdict K E (sound K E s) c s ≡ some k → step K E c s ≡ refuse s k
  unfolding step
  step-refused c s k e = rw e

  pub step_done : (c : Call) (s : State P) → verdict K E (sound K E s) c s ≡ none → step K E c s ≡ act K E c s
  unfolding step
  step_done c s e = rw e

  -- in a sound state the call's own tests decide
  pub verdict-sound : (c : Call) (s : State P) → sound K E s ≡ true → verdict K E (sound K E s) c s ≡ tests K E c s
  verdict-sound c s h = rw h

  -- ---- what is carried out

  module _ (L : Laws K) (S : StoreLaws K E) where
    given-sound : (e : Entry) (p : P) → Asked K e → E.sound p ≡ true → E.sound (given K E e p) ≡ true
    given-sound e p o h = S.grant-sound (K.need e.size) e.task p (L.need_mod e o.fair) (L.need_least e o.fair) o.task-least o.task-most h

    served-pool : (p : P) (q : List Entry) → queued K q ≡ true → E.sound p ≡ true → E.sound (serve K E p q).state.pool ≡ true
    unfolding serve
    served-pool p [] o h = h
    served-pool p (e ∷ q) o h =
        let u = open_queued K e q o in
        by (fitting K E e p) (λ f. rw f (served-pool (given K E e p) q u.rest (given-sound e p (entry-asked K e u.entry) h))) (λ f. rw f h)

    served-queue : (p : P) (q : List Entry) → queued K q ≡ true → queued K (serve K E p q).state.queue ≡ true
    unfolding serve
    served-queue p [] o = o
    served-queue p (e ∷ q) o =
        by (fitting K E e p) (λ f. rw f (served-queue (given K E e p) q (open_queued K e q o).rest)) (λ f. rw f o)

    pub serve-sound : (p : P) (q : List Entry) → K.valid ≡ true → E.sound p ≡ true → queued K q ≡ true → sound K E (serve K E p q).state ≡ true
    serve-sound p q v h o =
        close_sound (serve K E p q).state (record { valid = v; pool = served-pool p q o h; order = served-queue p q o; stuck = serve-ends K E p q })

    stuck_given : (e : Entry) (p : P) (q : List Entry) → head_stuck K E p q ≡ true → head_stuck K E (given K E e p) q ≡ true
    unfolding head_stuck
    stuck_given e p [] h = refl
    stuck_given e p (x ∷ q) h = rw (S.grant-fits (K.need e.size) e.task (K.need x.size) p (not_t (fitting K E x p) h))

    stuck_insert : (e : Entry) (p : P) (q : List Entry) → queued K q ≡ true → goes K E e (state p q) ≡ false → head_stuck K E p q ≡ true → head_stuck K E p (insert K.rank e q) ≡ true
    unfolding head_stuck insert blocked
    stuck_insert e p [] o g h = rw g
    stuck_insert e p (x ∷ q) o g h =
        by (leb (K.rank x) (K.rank e)) (λ l. rw l h) (λ l. rw l (let f : fitting K E e p ≡ false = rw (head-blocks K (K.rank e) x q o, l) at g in rw f))

    left_ok : (l : ℤ) → ok_limit l ≡ true → ok_left (left_of l) ≡ true
    left_ok (pos n) a = and_i (leb 1 (n + 1)) _ (le-leb 1 (n + 1) (omega arith)) (rw (le-leb (n + 1) longest_left (omega (arith, leb-true n longest_limit a))))
    left_ok (negsuc n) a = refl

    act-get-sound : (r : Request) (s : State P) → Sound s → Passed r s → sound K E (act K E (get r) s).state ≡ true
    unfolding act
    act-get-sound r s k o =
        let e = entry_of r in
        by (goes K E e s)
        (λ g. rw g (close_sound (state (given K E e s.pool) s.queue)
        (record { valid = k.valid; pool = given-sound e s.pool (passed_asked r s o) k.pool; order = k.order; stuck = stuck_given e s.pool s.queue k.stuck })))
        (λ g. rw g (close_sound (state s.pool (insert K.rank e s.queue))
        (record {
          valid = k.valid;
          pool = k.pool;
          order = insert-queued K e s.queue (and_i (ok_task K r.task) _ o.task (and_i (K.allowed e) _ o.fair (left_ok r.limit o.limit))) o.away k.order;
          stuck = stuck_insert e s.pool s.queue k.order g k.stuck;
        })))

    pub act-sound : (c : Call) (s : State P) → sound K E s ≡ true → tests K E c s ≡ none → sound K E (act K E c s).state ≡ true
    unfolding act
    act-sound (get r) s h e = act-get-sound r s (open_sound s h) (passed r s e)
    act-sound (release o) s h e = let k = open_sound s h in serve-sound (E.free (place_of o) s.pool) s.queue k.valid (S.free-sound (place_of o) s.pool k.pool) k.order
    act-sound (cancel t) s h e = let k = open_sound s h in serve-sound s.pool (remove t s.queue) k.valid k.pool (remove-queued K t s.queue k.order)
    act-sound tick s h e = let k = open_sound s h in serve-sound s.pool (remaining s.queue) k.valid k.pool (remaining-queued K L s.queue k.order)
    act-sound inquire s h e = h

    pub step-sound : (c : Call) (s : State P) → sound K E s ≡ true → sound K E (step K E c s).state ≡ true
    step-sound c s h = go (tests K E c s) refl
      where
        go : (v : Option Refusal) → tests K E c s ≡ v → sound K E (step K E c s).state ≡ true
        go none e = rw (step_done c s (verdict-sound c s h ∙ e)) (act-sound c s h e)
        go (some k) e = rw (step-refused c s k (verdict-sound c s h ∙ e)) h

    -- ---- nobody is lost: the woken and those who still wait are no more than the tasks

    pub woken-length : (c : Call) (s : State P) → sound K E s ≡ true → tests K E c s ≡ none → length (act K E c s).said.woken ≤ K.tasks
    unfolding act
    woken-length (get r) s h e = by (goes K E (entry_of r) s) (λ g. rw g (omega arith)) (λ g. rw g (omega arith))
    woken-length (release o) s h e = omega (arith, queued-length K s.queue (open_sound s h).order, serve-count K E (E.free (place_of o) s.pool) s.queue)
    woken-length (cancel t) s h e =
        omega (arith, queued-length K s.queue (open_sound s h).order, serve-count K E s.pool (remove t s.queue), remove-count t s.queue (passed_cancel t s e))
    woken-length tick s h e =
        rw (length-append (leave e_tmout (expired s.queue)) (serve K E s.pool (remaining s.queue)).woken)
        (omega (arith, queued-length K s.queue (open_sound s h).order, leave-length e_tmout (expired s.queue), serve-count K E s.pool (remaining s.queue), expired-count s.queue))
    woken-length inquire s h e = omega arith
