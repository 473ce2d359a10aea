-- Demand 3 over any store: a cancelled wait leaves no trace, and a block got and released at once leaves none either. Assumes nothing.
use Prim.Native.Nat.{ℕ, zero, suc, ◌+◌}
use mathlib.Core.Path.{◌≡◌, refl, sym, ap, ◌∙◌}
use mathlib.Core.Bool.{Bool, true, false, not, ◌||◌}
use mathlib.Core.List.{List, [], ◌∷◌, ◌++◌, append_assoc, append-nil}
use mathlib.Core.Option.{Option, none, some}
use native.Mathlib.Omega.{arith}
use lib.Dec.{eqb}
use lib.IntN.{ℤ, pos, negsuc}
use borrow.Author.Tests.{le-leb, ne_eqb}
use Rattle.model.specs.Limits.{e_ok, waiting, e_rlwai}
use Rattle.model.specs.Waiting.{Entry, waits, remove, blocked}
use Rattle.model.specs.Rules.{Rules, Laws, ok_task}
use Rattle.model.specs.Calls.{HeaderPlace, Woken, no_offset, offset_of, place_of, Request, Call, get, release, cancel, Reply, says, Refusal, refuse, is_poll, entry_of, leaves, Store, State, state, Served, wake, fitting, offset, given, wakes, serve, head_stuck, sound, goes, is_live, tests, grants, joins, act, step}
use Rattle.model.specs.Runs.{after, run, gets, refuses, refused_by, refusals, is_zero, winners, Absent, Others, Ranked}
use Rattle.model.specs.Demands.{NoTrace, undo}
use Rattle.model.proofs.Tests.{by, clash, and_r, or_f_l, or_f_r, or_f}
use Rattle.model.proofs.Waiting.{waits_other, remove-queued, remove-insert-same, remove-insert, waits-insert, waits-insert-same, blocked-insert, blocked-more}
use Rattle.model.proofs.Store.{StoreLaws}
use Rattle.model.proofs.Refusals.{verdict-refused, refused-code}
use Rattle.model.proofs.Reasons.{live-released}
use Rattle.model.proofs.Serving.{serve_stuck, Below, below_stuck, below_insert, more, serve-insert}
use Rattle.model.proofs.Soundness.{no_some, open_sound, Passed, passed, passed_asked, step-refused, step_done, verdict-sound, step-sound}

-- ---- a refusal has a code of its own

pub test_refuses : (K : Rules) {P : Type 0} (E : Store P) (c : Call) (s : State P) (x : Refusal) → tests K E c s ≡ some x → refuses x.code ≡ true
test_refuses K E c s x e = refused-code K E true c s x (verdict-refused K E true c s x e)

not_zero : (k : ℤ) → refuses k ≡ true → is_zero k ≡ false
unfolding refuses
not_zero (pos zero) h = clash false h refl
not_zero (pos (suc n)) h = ne_eqb (suc n) 0 (λ e. omega arith)
not_zero (negsuc n) h = refl

module _ (K : Rules) {P : Type 0} (E : Store P) where
  -- ---- how a get ends in a sound state

  pub data Outcome (r : Request) (s : State P) : Type 0 where
    refusal : (k : Refusal) → tests K E (get r) s ≡ some k → step K E (get r) s ≡ refuse s k → Outcome r s
    granting : tests K E (get r) s ≡ none → goes K E (entry_of r) s ≡ true → step K E (get r) s ≡ grants K E (entry_of r) s → Outcome r s
    joining : tests K E (get r) s ≡ none → goes K E (entry_of r) s ≡ false → step K E (get r) s ≡ joins K E (entry_of r) s → Outcome r s

  pub outcome : (r : Request) (s : State P) → sound K E s ≡ true → Outcome r s
  unfolding act
  outcome r s h = go (tests K E (get r) s) refl
    where
      go : (v : Option Refusal) → tests K E (get r) s ≡ v → Outcome r s
      go (some k) e = refusal k e (step-refused K E (get r) s k (verdict-sound K E (get r) s h ∙ e))
      go none e =
          let d = step_done K E (get r) s (verdict-sound K E (get r) s h ∙ e) in
          by (goes K E (entry_of r) s)
          (λ g. granting e g (d ∙ rw g))
          (λ g. joining e g (d ∙ rw g))

  -- an answer that has another code
  code_not : {X : Type 0} (a b : Reply (State P)) (c : ℤ) → a ≡ b → a.said.code ≡ c → (b.said.code ≡ c → ⊥) → X
  code_not a b c e h n = absurd (n (sym (ap (λ (x : Reply (State P)). x.said.code) e) ∙ h))

  refused_not : {X : Type 0} (r : Request) (s : State P) (x : Refusal) (k : ℤ) → tests K E (get r) s ≡ some x → step K E (get r) s ≡ refuse s x
      → (step K E (get r) s).said.code ≡ k → refuses k ≡ false → X
  refused_not r s x k t e z n =
      let q : x.code ≡ k = sym (ap (λ (a : Reply (State P)). a.said.code) e) ∙ z in
      clash (refuses k) (rw q at (test_refuses K E (get r) s x t)) n

  -- a get that is told to wait has passed the tests and joins the queue
  pub record Joined (f : Request) (s : State P) : Type 0 where
    pub fair : Passed K E f s
    pub is : step K E (get f) s ≡ joins K E (entry_of f) s

  pub told-joins : (f : Request) (s : State P) → sound K E s ≡ true → (step K E (get f) s).said.code ≡ waiting → Joined f s
  unfolding refuses
  told-joins f s h z = go (outcome f s h)
    where
      go : Outcome f s → Joined f s
      go (refusal x t e) = refused_not f s x waiting t e z refl
      go (granting n g e) = code_not (step K E (get f) s) (grants K E (entry_of f) s) waiting e z (λ q. let z : ◌≡◌ {A = ℕ} 0 1 = cc in omega arith)
      go (joining n g e) = record { fair = passed K E f s n; is = e }

  -- one that is granted goes
  pub granted-goes : (r : Request) (s : State P) → sound K E s ≡ true → (step K E (get r) s).said.code ≡ e_ok → goes K E (entry_of r) s ≡ true
  unfolding refuses
  granted-goes r s h z = go (outcome r s h)
    where
      go : Outcome r s → goes K E (entry_of r) s ≡ true
      go (refusal x t e) = refused_not r s x e_ok t e z refl
      go (joining n g e) = code_not (step K E (get r) s) (joins K E (entry_of r) s) e_ok e z (λ q. let z : ◌≡◌ {A = ℕ} 0 1 = cc in omega arith)
      go (granting n g e) = g

  module _ (L : Laws K) (S : StoreLaws K E) where
    -- ---- second half

    undone : (e : Entry) (s : State P) → sound K E (grants K E e s).state ≡ true → E.live (E.place (K.need e.size) s.pool) (given K E e s.pool) ≡ true
        → E.free (E.place (K.need e.size) s.pool) (given K E e s.pool) ≡ s.pool → head_stuck K E s.pool s.queue ≡ true
        → step K E (release (offset K E e s.pool)) (grants K E e s).state ≡ record { said = says e_ok no_offset []; state = s }
    unfolding tests act
    undone e s h l f st =
        let a = E.place (K.need e.size) s.pool in
        let after = (grants K E e s).state in
        let d : place_of (offset_of a) ≡ a = ap {B = HeaderPlace} (λ (n : ℕ). record { 0 = n }) (omega arith) in
        let b : is_live K E (offset_of a) after.pool ≡ true = rw (le-leb 8 (a.0 + 8) (omega arith), d) l in
        step_done K E (release (offset_of a)) after (verdict-sound K E (release (offset_of a)) after h ∙ live-released K E S (offset_of a) after.pool (open_sound K E after h).pool b)
        ∙ rw (d, f) (ap (λ (v : Served P). wake [] v) (serve_stuck K E s.pool s.queue st))

    pub get-release : (r : Request) (s : State P) → sound K E s ≡ true → (step K E (get r) s).said.code ≡ e_ok
        → undo (step K E) s r ≡ record { said = says e_ok no_offset []; state = s }
    unfolding refuses
    get-release r s h z = go (outcome r s h)
      where
        go : Outcome r s → undo (step K E) s r ≡ record { said = says e_ok no_offset []; state = s }
        go (refusal x t e) = refused_not r s x e_ok t e z refl
        go (joining n g e) = code_not (step K E (get r) s) (joins K E (entry_of r) s) e_ok e z (λ q. let z : ◌≡◌ {A = ℕ} 0 1 = cc in omega arith)
        go (granting n g e) =
            let k = open_sound K E s h in
            let a = passed_asked K E r s (passed K E r s n) in
            let h2 : sound K E (grants K E (entry_of r) s).state ≡ true = rw e at (step-sound K E L S (get r) s h) in
            let f : fitting K E (entry_of r) s.pool ≡ true = and_r (not (blocked K.rank (K.rank (entry_of r)) s.queue)) _ g in
            rw e (undone (entry_of r) s h2 (S.grant-live (K.need r.size) r.task s.pool a.task-least k.pool f)
            (S.grant-free (K.need r.size) r.task s.pool a.task-least k.pool f) k.stuck)

    -- ---- first half

    unfoldable named : ℕ → List Woken → Bool
    named t [] = false
    named t (w ∷ ws) = eqb w.task t || named t ws

    -- no request is by a task that is named
    unfoldable Fresh : List Request → List Woken → Type 0
    Fresh [] ws = Unit {0}
    Fresh (r ∷ rs) ws = (named r.task ws ≡ false) × Fresh rs ws

    fresh-nil : (rs : List Request) → Fresh rs []
    unfolding Fresh named
    fresh-nil [] = tt
    fresh-nil (r ∷ rs) = (refl, fresh-nil rs)

    named_more : (t : ℕ) (ws : List Woken) (w : Woken) → named t ws ≡ false → (t ≡ w.task → ⊥) → named t (ws ++ (w ∷ [])) ≡ false
    unfolding named
    named_more t [] w h n = rw (ne_eqb w.task t (λ e. n (sym e)))
    named_more t (v ∷ ws) w h n =
        or_f (eqb v.task t) _ (or_f_l (eqb v.task t) (named t ws) h) (named_more t ws w (or_f_r (eqb v.task t) (named t ws) h) n)

    fresh-more : (rs : List Request) (ws : List Woken) (w : Woken) → Fresh rs ws → Absent w.task rs → Fresh rs (ws ++ (w ∷ []))
    unfolding Fresh Absent
    fresh-more [] ws w f a = tt
    fresh-more (r ∷ rs) ws w f a = (named_more r.task ws w f.0 a.0, fresh-more rs ws w f.1 a.1)

    -- who is not woken waits as before
    waits-serve : (t : ℕ) (p : P) (q : List Entry) → named t (serve K E p q).woken ≡ false → waits t (serve K E p q).state.queue ≡ waits t q
    unfolding named serve waits
    waits-serve t p [] h = refl
    waits-serve t p (e ∷ q) h =
        by (fitting K E e p)
        (λ f. let h2 : eqb e.task t || named t (serve K E (given K E e p) q).woken ≡ false = rw f at h in
        let z : eqb e.task t ≡ false = or_f_l (eqb e.task t) (named t (serve K E (given K E e p) q).woken) h2 in
        rw (f, z) (waits-serve t (given K E e p) q (or_f_r (eqb e.task t) (named t (serve K E (given K E e p) q).woken) h2)))
        (λ f. rw f)

    -- The state s₁ of the run with the task t in the queue and the state s₂ of the run without it: to serve the first without t gives the second,
    -- and the woken are the winners so far.
    record Twin (t k : ℕ) (s₁ s₂ : State P) (w : List Woken) : Type 0 where
      with_sound : sound K E s₁ ≡ true
      without-sound : sound K E s₂ ≡ true
      there : waits t s₁.queue ≡ true
      held : blocked K.rank k s₁.queue ≡ true
      below : Below K E k s₁.pool (remove t s₁.queue)
      serves : serve K E s₁.pool (remove t s₁.queue) ≡ record { woken = w; state = s₂ }

    record Same (t : ℕ) (s₁ s₂ : State P) (w : List Woken) (rs : List Request) : Type 0 where
      cancelled : step K E (cancel t) (after (step K E) s₁ (gets rs))
          ≡ record { said = says e_ok no_offset (leaves e_rlwai t ∷ (w ++ winners (run (step K E) s₂ (gets rs)))); state = after (step K E) s₂ (gets rs) }
      refused : refusals (run (step K E) s₁ (gets rs)) ≡ refusals (run (step K E) s₂ (gets rs))

    -- the cancel, when the list is done
    ends : (t k : ℕ) (s₁ s₂ : State P) (w : List Woken) → ok_task K t ≡ true → Twin t k s₁ s₂ w → Same t s₁ s₂ w []
    unfolding step tests act after run gets winners refusals
    ends t k s₁ s₂ w ot o = record { cancelled = rw (o.with_sound, ot, o.there, o.serves) (rw (append-nil w)); refused = refl }

    -- the same, given what the first get of the list answered in each run
    record SameNext (t : ℕ) (a₁ a₂ : Reply (State P)) (w : List Woken) (r : Request) (rs : List Request) : Type 0 where
      cancelled : step K E (cancel t) (after (step K E) a₁.state (gets rs))
          ≡ record { said = says e_ok no_offset (leaves e_rlwai t ∷ (w ++ winners (record { call = get r; said = a₂.said } ∷ run (step K E) a₂.state (gets rs)))); state = after (step K E) a₂.state (gets rs) }
      first : refused_by a₁.said ≡ refused_by a₂.said
      refused : refusals (run (step K E) a₁.state (gets rs)) ≡ refusals (run (step K E) a₂.state (gets rs))

    same-cons : (t : ℕ) (s₁ s₂ : State P) (w : List Woken) (r : Request) (rs : List Request) → SameNext t (step K E (get r) s₁) (step K E (get r) s₂) w r rs → Same t s₁ s₂ w (r ∷ rs)
    unfolding after run gets refusals
    same-cons t s₁ s₂ w r rs o = record { cancelled = o.cancelled; refused = λ i. o.first i ∷ o.refused i }

    not_poll : (l : ℤ) → (l ≡ pos 0 → ⊥) → is_poll l ≡ false
    not_poll (pos n) h = ne_eqb n 0 (λ e. h (ap pos e))
    not_poll (negsuc n) h = refl

    -- both runs test a request alike
    tests_alike : (t k : ℕ) (s₁ s₂ : State P) (w : List Woken) (r : Request) → Twin t k s₁ s₂ w → (r.task ≡ t → ⊥) → is_poll r.limit ≡ false → named r.task w ≡ false
        → tests K E (get r) s₁ ≡ tests K E (get r) s₂
    unfolding tests
    tests_alike t k s₁ s₂ w r o ne p f =
        let x = r.task in
        let m = serve K E s₁.pool (remove t s₁.queue) in
        let f2 : named x m.woken ≡ false = rw o.serves f in
        let e1 : waits x m.state.queue ≡ waits x (remove t s₁.queue) = waits-serve x s₁.pool (remove t s₁.queue) f2 in
        let e2 : waits x s₂.queue ≡ waits x (remove t s₁.queue) = rw o.serves at e1 in
        let e3 : waits x s₁.queue ≡ waits x s₂.queue = sym (waits_other x t ne s₁.queue) ∙ sym e2 in
        rw (p, e3)

    module _ (t k : ℕ) (s₁ s₂ : State P) (w : List Woken) (r : Request) (rs : List Request) (o : Twin t k s₁ s₂ w) (ne : r.task ≡ t → ⊥)
        (fr : Fresh rs w) (again : (z₁ z₂ : State P) (v : List Woken) → Twin t k z₁ z₂ v → Fresh rs v → Same t z₁ z₂ v rs) where
      step-refusal : (c : Refusal) → step K E (get r) s₁ ≡ refuse s₁ c → step K E (get r) s₂ ≡ refuse s₂ c → is_zero c.code ≡ false
          → SameNext t (step K E (get r) s₁) (step K E (get r) s₂) w r rs
      unfolding winners
      step-refusal c g₁ g₂ z =
          let ih = again s₁ s₂ w o fr in
          rw (g₁, g₂) (record { cancelled = rw z ih.cancelled; first = refl; refused = ih.refused })

      -- the run with t: the request waits, and what serve then gives is one request more
      abbrev joined : State P
      joined = (joins K E (entry_of r) s₁).state

      twin_more : K.rank (entry_of r) ≡ k → step K E (get r) s₁ ≡ joins K E (entry_of r) s₁ → (z : State P) (v : List Woken) → sound K E z ≡ true
          → more K E (record { woken = w; state = s₂ }) (entry_of r) ≡ record { woken = v; state = z } → Twin t k joined z v
      twin_more rk g z v sz m =
          let e = entry_of r in
          let ri = remove-insert K t e s₁.queue ne (open_sound K E s₁ o.with_sound).order in
          record {
            with_sound = rw g at (step-sound K E L S (get r) s₁ o.with_sound);
            without-sound = sz;
            there = waits-insert K t e s₁.queue o.there;
            held = blocked-more K k e s₁.queue o.held;
            below = rw ri (below_insert K E S k s₁.pool e (remove t s₁.queue) rk o.below);
            serves = rw ri (serve-insert K E S s₁.pool e (remove t s₁.queue) (remove-queued K t s₁.queue (open_sound K E s₁ o.with_sound).order) (rw rk o.below) ∙ ap (λ (x : Served P). more K E x e) o.serves ∙ m);
          }

      step_joining : K.rank (entry_of r) ≡ k → Absent r.task rs → step K E (get r) s₁ ≡ joins K E (entry_of r) s₁ → Outcome r s₂ → tests K E (get r) s₂ ≡ none
          → SameNext t (step K E (get r) s₁) (step K E (get r) s₂) w r rs
      unfolding winners refuses
      step_joining rk ab g₁ (refusal c u g₂) n = no_some (sym u ∙ n)
      step_joining rk ab g₁ (granting q h g₂) n =
          let e = entry_of r in
          let v : Woken = wakes K E e s₂.pool in
          let z = (grants K E e s₂).state in
          let sz = rw g₂ at (step-sound K E L S (get r) s₂ o.without-sound) in
          let ih = again joined z (w ++ (v ∷ [])) (twin_more rk g₁ z (w ++ (v ∷ [])) sz (rw h)) (fresh-more rs w v fr ab) in
          rw (g₁, g₂) (record { cancelled = rw append_assoc at ih.cancelled; first = refl; refused = ih.refused })
      step_joining rk ab g₁ (joining q h g₂) n =
          let z = (joins K E (entry_of r) s₂).state in
          let sz = rw g₂ at (step-sound K E L S (get r) s₂ o.without-sound) in
          let ih = again joined z w (twin_more rk g₁ z w sz (rw h)) fr in
          rw (g₁, g₂) (record { cancelled = ih.cancelled; first = refl; refused = ih.refused })

      next : K.rank (entry_of r) ≡ k → Absent r.task rs → tests K E (get r) s₁ ≡ tests K E (get r) s₂ → Outcome r s₁
          → SameNext t (step K E (get r) s₁) (step K E (get r) s₂) w r rs
      next rk ab al (refusal c u g₁) =
          let g₂ = step-refused K E (get r) s₂ c (verdict-sound K E (get r) s₂ o.without-sound ∙ (sym al ∙ u)) in
          step-refusal c g₁ g₂ (not_zero c.code (test_refuses K E (get r) s₁ c u))
      next rk ab al (granting q h g₁) =
          let b : blocked K.rank (K.rank (entry_of r)) s₁.queue ≡ true = rw rk o.held in
          clash (goes K E (entry_of r) s₁) h (rw b)
      next rk ab al (joining n h g₁) = step_joining rk ab g₁ (outcome r s₂ o.without-sound) (sym al ∙ n)

    induct : (t k : ℕ) → ok_task K t ≡ true → (rs : List Request) (s₁ s₂ : State P) (w : List Woken) → Twin t k s₁ s₂ w → Others t rs → Ranked K.rank k rs → Fresh rs w → Same t s₁ s₂ w rs
    unfolding Others Ranked Fresh
    induct t k ot [] s₁ s₂ w o os rk fr = ends t k s₁ s₂ w ot o
    induct t k ot (r ∷ rs) s₁ s₂ w o os rk fr =
        same-cons t s₁ s₂ w r rs
        (next t k s₁ s₂ w r rs o os.0 fr.1 (λ z₁ z₂ v tw f. induct t k ot rs z₁ z₂ v tw os.3 rk.1 f) rk.0 os.2
        (tests_alike t k s₁ s₂ w r o os.0 (not_poll r.limit os.1) fr.0) (outcome r s₁ o.with_sound))

    first_twin : (s : State P) (f : Request) → sound K E s ≡ true → Passed K E f s → step K E (get f) s ≡ joins K E (entry_of f) s
        → Twin f.task (K.rank (entry_of f)) (joins K E (entry_of f) s).state s []
    first_twin s f h q g =
        let e = entry_of f in
        let o = open_sound K E s h in
        let ri = remove-insert-same K e s.queue q.away in
        record {
          with_sound = rw g at (step-sound K E L S (get f) s h);
          without-sound = h;
          there = waits-insert-same K e s.queue;
          held = blocked-insert K e s.queue;
          below = rw ri (below_stuck K E (K.rank e) s.pool s.queue o.stuck);
          serves = rw ri (serve_stuck K E s.pool s.queue o.stuck);
        }

    pub no_trace : (s : State P) (f : Request) (rs : List Request) → sound K E s ≡ true → (step K E (get f) s).said.code ≡ waiting
        → Others f.task rs → Ranked K.rank (K.rank (entry_of f)) rs → NoTrace (step K E) s f rs
    no_trace s f rs h z os rk =
        let o = told-joins f s h z in
        let e = o.is in
        let r = induct f.task (K.rank (entry_of f)) o.fair.task rs (joins K E (entry_of f) s).state s [] (first_twin s f h o.fair e) os rk (fresh-nil rs) in
        record { cancelled = rw e r.cancelled; refused = rw e r.refused }
