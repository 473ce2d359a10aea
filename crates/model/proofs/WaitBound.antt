-- How many successful releases a wait can last, over any store. Assumes nothing.
use Prim.Native.Nat.{ℕ, zero, suc, ◌+◌, ◌-◌, ◌≤◌}
use mathlib.Core.Path.{◌≡◌, refl, sym, ap, subst, ◌∙◌}
use mathlib.Core.Bool.{true, false, ◌&&◌, ◌||◌}
use mathlib.Core.List.{List, [], ◌∷◌}
use mathlib.Core.Option.{Option, none, some}
use native.Mathlib.Omega.{arith}
use lib.Dec.{leb, eqb}
use lib.IntN.{ℤ, pos, negsuc}
use borrow.Author.Tests.{leb-true, ltb-false, eqb-true, eqb-false, le-leb, ne_eqb}
use Rattle.model.specs.Limits.{longest_left, forever, e_ok, e_rlwai, e_tmout}
use Rattle.model.specs.Waiting.{Entry, entry_in, place_in, remove, insert, blocked, ok_left, with_left, expires, expired, remaining}
use Rattle.model.specs.Rules.{Rules, Laws, ok_task, queued}
use Rattle.model.specs.Calls.{place_of, Call, get, release, cancel, tick, inquire, Reply, Refusal, entry_of, leaves, leave, Store, State, fitting, given, serve, head_stuck, sound, goes, tests, act, step}
use Rattle.model.specs.Runs.{Turn, after, run, is_zero, refuses, wake_code, end_code, passes, is_release, released, releases, outranks, Unpassed}
use Rattle.model.specs.Demands.{EndsWithin}
use Rattle.model.proofs.Tests.{by, clash, and_l, and_r, and_f_r, or_t_r, not_t}
use Rattle.model.proofs.Waiting.{entry-asked, open_queued, head-blocks, remove-queued, remaining-queued}
use Rattle.model.proofs.Store.{StoreLaws, CountLaws}
use Rattle.model.proofs.Soundness.{no_some, open_sound, step-refused, step_done, verdict-sound, step-sound}
use Rattle.model.proofs.Refusals.{verdict-refused, refused-code, done_code}
use Rattle.model.proofs.Reasons.{released-live}
use Rattle.model.proofs.Fates.{older, wake_past, wake-head, wake_other, wake-expired, ended, Fate, served, cancelled, lapsed, lasts, last-tick, step_fate}

-- ---- the task t, its entry e and its place

-- another that leaves does not put it back
place-remove : (t x : ℕ) (q : List Entry) → (x ≡ t → ⊥) → place_in t (remove x q) ≤ place_in t q
unfolding remove place_in
place-remove t x [] n = omega arith
place-remove t x (y ∷ q) n =
    by (eqb y.task x)
    (λ h. rw (h, ne_eqb y.task t (λ g. n (sym (eqb-true y.task x h) ∙ g))) (omega arith))
    (λ h. rw h (by (eqb y.task t) (λ g. rw g (omega arith)) (λ g. rw g (omega (arith, place-remove t x q n)))))

module _ (t : ℕ) (e : Entry) where
  entry-task : (q : List Entry) → entry_in t q ≡ some e → e.task ≡ t
  unfolding entry_in
  entry-task [] h = no_some (sym h)
  entry-task (x ∷ q) h =
      by (eqb x.task t)
      (λ g. let same : some x ≡ some e = rw g at h in
      let task : x.task ≡ e.task = cc in
      sym task ∙ eqb-true x.task t g)
      (λ g. entry-task q (rw g at h))

  place-least : (q : List Entry) → entry_in t q ≡ some e → 1 ≤ place_in t q
  unfolding entry_in place_in
  place-least [] h = no_some (sym h)
  place-least (x ∷ q) h = by (eqb x.task t) (λ g. rw g (omega arith)) (λ g. rw g (omega arith))

  place-remaining : (q : List Entry) → entry_in t q ≡ some e → expires e ≡ false → place_in t (remaining q) ≤ place_in t q
  unfolding entry_in place_in remaining
  place-remaining [] h n = omega arith
  place-remaining (y ∷ q) h n =
      by (eqb y.task t)
      (λ g. let same : some y ≡ some e = rw g at h in
      let stays : expires y ≡ false = cc in
      rw (stays, g) (omega arith))
      (λ g. let ih = place-remaining q (rw g at h) n in by (expires y) (λ x. rw (x, g) (omega (arith, ih))) (λ x. rw (x, g) (omega (arith, ih))))

  module _ (K : Rules) where
    -- a newcomer of its rank or a higher one has to wait
    pub held_up : (r : ℕ) (q : List Entry) → K.rank e ≤ r → entry_in t q ≡ some e → blocked K.rank r q ≡ true
    unfolding entry_in blocked
    held_up r [] k h = no_some (sym h)
    held_up r (x ∷ q) k h =
        by (eqb x.task t)
        (λ g. let same : some x ≡ some e = rw g at h in
        let rank : K.rank x ≡ K.rank e = cc in
        rw (le-leb (K.rank x) r (omega (arith, rank))))
        (λ g. or_t_r (leb (K.rank x) r) _ (held_up r q k (rw g at h)))

    -- its time left is not 0
    entry_left : (q : List Entry) → queued K q ≡ true → entry_in t q ≡ some e → 1 ≤ e.left
    unfolding entry_in
    entry_left [] o h = no_some (sym h)
    entry_left (x ∷ q) o h =
        let u = open_queued K x q o in
        by (eqb x.task t)
        (λ g. let same : some x ≡ some e = rw g at h in
        let left : ok_left x.left ≡ true = and_r (K.allowed x) (ok_left x.left) (and_r (ok_task K x.task) (K.allowed x && ok_left x.left) u.entry) in
        let mine : ok_left e.left ≡ true = cc in
        leb-true 1 e.left (and_l (leb 1 e.left) (leb e.left longest_left || eqb e.left forever) mine))
        (λ g. entry_left q u.rest (rw g at h))

    place-insert : (x : Entry) (q : List Entry) → K.rank e ≤ K.rank x → queued K q ≡ true → entry_in t q ≡ some e → place_in t (insert K.rank x q) ≡ place_in t q
    unfolding entry_in place_in insert
    place-insert x [] k o h = no_some (sym h)
    place-insert x (y ∷ q) k o h =
        rw (sym (head-blocks K (K.rank x) y q o) ∙ held_up (K.rank x) (y ∷ q) k h) (by (eqb y.task t)
        (λ g. rw g)
        (λ g. rw g (ap (λ (n : ℕ). 1 + n) (place-insert x q k (open_queued K y q o).rest (rw g at h)))))

refused-zero : (c : ℤ) → refuses c ≡ true → is_zero c ≡ false
unfolding refuses
refused-zero (pos zero) e = sym e
refused-zero (pos (suc n)) e = ne_eqb (suc n) 0 (λ z. omega (arith, z))
refused-zero (negsuc n) e = refl

-- ---- a call that does not wake the task of the entry `own`: live blocks and place together do not grow, and a successful release takes one

abbrev weight : {P : Type 0} → (P → ℕ) → ℕ → State P → ℕ
weight count t s = count s.pool + place_in t s.queue

module _ (K : Rules) {P : Type 0} (E : Store P) (count : P → ℕ) (C : CountLaws K E count) (own : Entry) where
  serve_weight : (p : P) (q : List Entry) → queued K q ≡ true → wake_code own.task (serve K E p q).woken ≡ none → weight count own.task (serve K E p q).state ≡ count p + place_in own.task q
  unfolding serve place_in wake_code
  serve_weight p [] o w = refl
  serve_weight p (e ∷ q) o w =
      let u = open_queued K e q o in
      by (fitting K E e p)
      (λ f. by (eqb e.task own.task)
      (λ g. no_some (rw (f, g) at w))
      (λ g. let more = C.grant-count (K.need e.size) e.task p (entry-asked K e u.entry).task-least f in
      rw (f, g) (omega (arith, serve_weight (given K E e p) q u.rest (rw (f, g) at w), more))))
      (λ f. rw f)

  module _ (L : Laws K) (s : State P) (l : ℕ) (h : sound K E s ≡ true) (here : entry_in own.task s.queue ≡ some (with_left l own)) where
    abbrev q : List Entry
    q = s.queue

    abbrev Lowers : Call → Reply (State P) → Type 0
    Lowers c a =
        outranks K.rank (K.rank own) a.said c ≡ false → wake_code own.task a.said.woken ≡ none
        → released (record { call = c; said = a.said }) + weight count own.task a.state ≤ weight count own.task s

    act_lowers : (c : Call) → tests K E c s ≡ none → Lowers c (act K E c s)
    unfolding act tests
    act_lowers (get r) u n w =
        let e = entry_of r in
        let order = (open_sound K E s h).order in
        let rank = ltb-false (K.rank e) (K.rank own) (rw (done_code K E (get r) s) at n) in
        let behind : K.rank (with_left l own) ≤ K.rank e = omega (arith, rank, L.rank_left l own) in
        let held : goes K E e s ≡ false = rw (held_up own.task (with_left l own) K (K.rank e) q behind here) in
        rw held (omega (arith, place-insert own.task (with_left l own) K e q behind order here))
    act_lowers (release o) u n w =
        let live = and_r (leb 8 o.0) (E.live (place_of o) s.pool) (released-live K E o s.pool u) in
        omega (arith, serve_weight (E.free (place_of o) s.pool) q (open_sound K E s h).order w, C.free-count (place_of o) s.pool live)
    act_lowers (cancel x) u n w =
        let rest = (serve K E s.pool (remove x q)).woken in
        by (eqb x own.task)
        (λ g. no_some (sym (wake-head own.task (leaves e_rlwai x) rest (eqb-true x own.task g)) ∙ w))
        (λ g. let other = eqb-false x own.task g in
        let later = sym (wake_past own.task (leaves e_rlwai x ∷ []) rest (wake_other own.task (leaves e_rlwai x) other)) ∙ w in
        omega (arith, serve_weight s.pool (remove x q) (remove-queued K x q (open_sound K E s h).order) later, place-remove own.task x q other))
    act_lowers tick u n w =
        let order = (open_sound K E s h).order in
        by (eqb l 1)
        (λ g. no_some (sym (last-tick K E own s l h here (eqb-true l 1 g)).woken ∙ w))
        (λ g. let first = wake-expired K own.task e_tmout q order ∙ ap (ended e_tmout) here ∙ rw g in
        let later = sym (wake_past own.task (leave e_tmout (expired q)) (serve K E s.pool (remaining q)).woken first) ∙ w in
        omega (arith, serve_weight s.pool (remaining q) (remaining-queued K L q order) later, place-remaining own.task (with_left l own) q here g))
    act_lowers inquire u n w = omega arith

    step_lowers : (c : Call) → Lowers c (step K E c s)
    step_lowers c = go (tests K E c s) refl
      where
        go : (v : Option Refusal) → tests K E c s ≡ v → Lowers c (step K E c s)
        go none u = rw (step_done K E c s (verdict-sound K E c s h ∙ u)) (act_lowers c u)
        go (some k) u =
            let e = verdict-sound K E c s h ∙ u in
            let none-released = and_f_r (is_release c) (is_zero k.code) (refused-zero k.code (refused-code K E (sound K E s) c s k (verdict-refused K E (sound K E s) c s k e))) in
            rw (step-refused K E c s k e) (λ n w. rw none-released (omega arith))

    -- somebody waits, so there is a live block: one free run would fit the head
    some-live : 1 ≤ count s.pool
    unfolding entry_in head_stuck
    some-live = go q (open_sound K E s h).order (open_sound K E s h).stuck here
      where
        go : (q : List Entry) → queued K q ≡ true → head_stuck K E s.pool q ≡ true → entry_in own.task q ≡ some (with_left l own) → 1 ≤ count s.pool
        go [] o k e = no_some (sym e)
        go (x ∷ q) o k e =
            let ok = open_sound K E s h in
            let fair = (entry-asked K x (open_queued K x q o).entry).fair in
            by (eqb (count s.pool) 0)
            (λ z. clash (fitting K E x s.pool)
            (C.none_fits (K.need x.size) s.pool (omega (arith, L.need_least x fair)) (L.need_most ok.valid x fair) ok.pool (eqb-true (count s.pool) 0 z))
            (not_t (fitting K E x s.pool) k))
            (λ z. omega (arith, eqb-false (count s.pool) 0 z))

    weight_least : 2 ≤ weight count own.task s
    weight_least = omega (arith, some-live, place-least own.task (with_left l own) q here)

-- ---- a run, and the wait of the entry `own`

module _ (K : Rules) {P : Type 0} (E : Store P) (count : P → ℕ) (L : Laws K) (S : StoreLaws K E) (C : CountLaws K E count) where
  module _ (own : Entry) (n : ℕ) (s : State P) (c : Call) (cs : List Call) where
    abbrev next : State P
    next = (step K E c s).state

    abbrev turn : Turn
    turn = record { call = c; said = (step K E c s).said }

    ends_now : (k : ℤ) → 1 ≤ n → wake_code own.task turn.said.woken ≡ some k → ((k ≡ e_rlwai → ⊥) → (k ≡ e_tmout → ⊥) → k ≡ e_ok) → EndsWithin (step K E) s own.task n (c ∷ cs)
    unfolding run after end_code releases
    ends_now k m e v = record { before = []; call = c; rest = cs; is = refl; waiting = refl; soon = omega arith; code = k; woken = e; served = v }

    ends_later : wake_code own.task turn.said.woken ≡ none → EndsWithin (step K E) next own.task (n - released turn) cs → EndsWithin (step K E) s own.task n (c ∷ cs)
    unfolding run after end_code releases
    ends_later e o =
        record {
          before = c ∷ o.before;
          call = o.call;
          rest = o.rest;
          is = ap (λ (l : List Call). c ∷ l) o.is;
          waiting = rw e o.waiting;
          soon = omega (arith, o.soon);
          code = o.code;
          woken = o.woken;
          served = o.served;
        }

    -- the first call ends the wait, or one of the rest
    ends-from : (l : ℕ) → 1 ≤ n → Fate K E own l turn.said.woken next.queue
        → (1 ≤ l → wake_code own.task turn.said.woken ≡ none → entry_in own.task next.queue ≡ some (with_left l own) → EndsWithin (step K E) next own.task (n - released turn) cs)
        → EndsWithin (step K E) s own.task n (c ∷ cs)
    ends-from l m (served e) again = ends_now e_ok m e (λ a b. refl)
    ends-from l m (cancelled e) again = ends_now e_rlwai m e (λ a b. absurd (a refl))
    ends-from l m (lapsed z e) again = ends_now e_tmout m e (λ a b. absurd (b refl))
    ends-from l m (lasts k e here) again = ends_later e (again k e here)

  bound : (own : Entry) (cs : List Call) (s : State P) (l n : ℕ) → sound K E s ≡ true → 1 ≤ l → entry_in own.task s.queue ≡ some (with_left l own)
      → Unpassed K.rank own.task (K.rank own) (run (step K E) s cs)
      → weight count own.task s ≤ n + 1 → n ≤ releases (run (step K E) s cs) → EndsWithin (step K E) s own.task n cs
  unfolding run releases Unpassed
  bound own [] s l n h m here up k j = absurd (omega (arith, weight_least K E count C own L s l h here))
  bound own (c ∷ cs) s l n h m here up k j =
      ends-from own n s c cs (older (passes c) l) (omega (arith, weight_least K E count C own L s l h here)) (step_fate K E own s l h m here c)
      (λ m₁ e here₁.
      let low = step_lowers K E count C own L s l h here c up.0 e in
      bound own cs (next own n s c cs) (older (passes c) l) (n - released (turn own n s c cs)) (step-sound K E L S c s h) m₁ here₁ (up.1 e) (omega (arith, low)) (omega arith))

  -- with L live blocks and the task t, which has the entry e, at place k: at the latest in the (L + k - 1)-th successful release
  abbrev Bounded : State P → Entry → List Call → ℕ → Type 0
  Bounded s e cs t =
      Unpassed K.rank t (K.rank e) (run (step K E) s cs) → weight count t s - 1 ≤ releases (run (step K E) s cs)
      → EndsWithin (step K E) s t (weight count t s - 1) cs

  pub wait_bound_lem : (t : ℕ) (e : Entry) (s : State P) (cs : List Call) → sound K E s ≡ true → entry_in t s.queue ≡ some e → Bounded s e cs t
  wait_bound_lem t e s cs h here =
      let task = entry-task t e s.queue here in
      let left = entry_left t e K s.queue (open_sound K E s h).order here in
      let own : Bounded s e cs e.task = λ up j. bound e cs s e.left (weight count e.task s - 1) h left (rw (← task) at here) up (omega arith) j in
      subst (λ (t : ℕ). Bounded s e cs t) task own
