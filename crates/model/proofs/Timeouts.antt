-- How long a wait lasts in a run that neither serves nor cancels it, over any store. Assumes nothing.
use Prim.Native.Nat.{ℕ, ◌+◌, ◌-◌, ◌≤◌, ◌<◌}
use mathlib.Core.Path.{◌≡◌, refl, sym, ap, ◌∙◌}
use mathlib.Core.Bool.{true}
use mathlib.Core.List.{List, [], ◌∷◌}
use mathlib.Core.Option.{none, some}
use native.Mathlib.Omega.{arith}
use lib.IntN.{ℤ, pos, negsuc}
use borrow.Author.Tests.{leb-true, le-leb, lt-leb}
use Rattle.model.specs.Limits.{longest_limit, forever, minus, e_ok, waiting, e_rlwai, e_tmout}
use Rattle.model.specs.Waiting.{Entry, entry_in, with_left}
use Rattle.model.specs.Rules.{Rules, Laws}
use Rattle.model.specs.Calls.{Request, Call, get, Reply, left_of, entry_of, Store, State, sound, step}
use Rattle.model.specs.Runs.{after, run, wake_code, end_code, Spared, passes, ticks}
use Rattle.model.specs.Demands.{Timeout, Untimed}
use Rattle.model.proofs.Store.{StoreLaws}
use Rattle.model.proofs.Soundness.{no_some, step-sound}
use Rattle.model.proofs.NoTrace.{told-joins}
use Rattle.model.proofs.Fates.{spared_none, older, older_zero, older_older, older_most, older_less, older_limited, entry-waits, entry-insert-same, Fate, served, cancelled, lapsed, lasts, Expired, last-tick, tick_done, step_fate}

-- ---- a run, and the wait of the entry `own`

module _ (K : Rules) {P : Type 0} (E : Store P) (own : Entry) (L : Laws K) (S : StoreLaws K E) where
  abbrev t : ℕ
  t = own.task

  -- after the calls cs it waits with l left, woken by none of them; or, where l is 0, its time has ended it
  data Course (s : State P) (cs : List Call) (l : ℕ) : Type 0 where
    waiting_still : 1 ≤ l → end_code t (run (step K E) s cs) ≡ none → entry_in t (after (step K E) s cs).queue ≡ some (with_left l own) → sound K E (after (step K E) s cs) ≡ true → Course s cs l
    timed_out : l ≡ 0 → end_code t (run (step K E) s cs) ≡ some e_tmout → Course s cs l

  module _ (s : State P) (c : Call) (cs : List Call) where
    abbrev next : State P
    next = (step K E c s).state

    -- the first call wakes it, or the rest of the run decides
    ended_at : (k : ℤ) → wake_code t (step K E c s).said.woken ≡ some k → end_code t (run (step K E) s (c ∷ cs)) ≡ some k
    unfolding run end_code
    ended_at k e = rw e

    ended_on : wake_code t (step K E c s).said.woken ≡ none → end_code t (run (step K E) s (c ∷ cs)) ≡ end_code t (run (step K E) next cs)
    unfolding run end_code
    ended_on e = rw e

    course_on : (j l : ℕ) → l ≤ forever → wake_code t (step K E c s).said.woken ≡ none → Course next cs (older (ticks cs) (older j l)) → Course s (c ∷ cs) (older (j + ticks cs) l)
    unfolding after
    course_on j l f e (waiting_still m u here h) = rw (sym (older_older j (ticks cs) l f)) (waiting_still m (ended_on e ∙ u) here h)
    course_on j l f e (timed_out z u) = rw (sym (older_older j (ticks cs) l f)) (timed_out z (ended_on e ∙ u))

    course_from : (l : ℕ) → l ≤ forever → Spared t (run (step K E) s (c ∷ cs)) → Fate K E own (older (passes c) l) (step K E c s).said.woken next.queue
        → (1 ≤ older (passes c) l → entry_in t next.queue ≡ some (with_left (older (passes c) l) own) → Spared t (run (step K E) next cs) → Course next cs (older (ticks cs) (older (passes c) l)))
        → Course s (c ∷ cs) (older (passes c + ticks cs) l)
    course_from l f sp (served e) again = absurd (sp.unserved (ended_at e_ok e))
    course_from l f sp (cancelled e) again = absurd (sp.uncancelled (ended_at e_rlwai e))
    course_from l f sp (lapsed z e) again = timed_out (omega (arith, z, older_less (passes c) (ticks cs) l)) (ended_at e_tmout e)
    course_from l f sp (lasts m e here) again =
        let spared : Spared t (run (step K E) next cs) = record { unserved = λ z. sp.unserved (ended_on e ∙ z); uncancelled = λ z. sp.uncancelled (ended_on e ∙ z) } in
        course_on (passes c) l f e (again m here spared)

  course : (cs : List Call) (s : State P) (l : ℕ) → sound K E s ≡ true → 1 ≤ l → l ≤ forever → entry_in t s.queue ≡ some (with_left l own) → Spared t (run (step K E) s cs) → Course s cs (older (ticks cs) l)
  unfolding run after end_code ticks
  course [] s l h m f here sp = rw (older_zero l) (waiting_still m refl here h)
  course (c ∷ cs) s l h m f here sp =
      course_from s c cs l f sp (step_fate K E own s l h m here c)
      (λ n there spared. course cs (step K E c s).state (older (passes c) l) (step-sound K E L S c s h) n (older_most (passes c) l f) there spared)

-- ---- from the get that is told to wait

module _ (K : Rules) {P : Type 0} (E : Store P) (L : Laws K) (S : StoreLaws K E) (s : State P) (f : Request) (cs : List Call)
    (h : sound K E s ≡ true) (told : (step K E (get f) s).said.code ≡ waiting) where
  abbrev asked : Entry
  asked = entry_of f

  -- the states before and after the calls cs
  abbrev begun : State P
  begun = (step K E (get f) s).state

  abbrev later : State P
  later = after (step K E) begun cs

  begins : (l : ℤ) → f.limit ≡ l → entry_in f.task begun.queue ≡ some (with_left (left_of l) asked)
  begins l e =
      let o = told-joins K E f s h told in
      ap (λ (a : Reply (State P)). entry_in f.task a.state.queue) o.is ∙ entry-insert-same K.rank asked s.queue o.fair.away
      ∙ ap (λ (x : ℤ). some (with_left (left_of x) asked)) e

  -- whom nothing has woken still waits, with some time left
  pub record Still : Type 0 where
    pub left : ℕ
    pub here : entry_in f.task later.queue ≡ some (with_left left asked)
    pub good : sound K E later ≡ true

  module _ (sp : Spared f.task (run (step K E) begun cs)) where
    runs : (l : ℤ) → f.limit ≡ l → 1 ≤ left_of l → left_of l ≤ forever → Course K E asked L S begun cs (older (ticks cs) (left_of l))
    runs l e m n = course K E asked L S cs begun (left_of l) (step-sound K E L S (get f) s h) m n (begins l e) sp

    -- a limit of n ticks
    pub timeout : (n : ℕ) → f.limit ≡ pos n → Timeout (step K E) (λ z. z.queue) begun f.task n cs
    timeout n e = go (runs (pos n) e (omega arith) (omega (arith, most)))
      where
        most : n ≤ longest_limit
        most = leb-true n longest_limit (rw e at (told-joins K E f s h told).fair.limit)

        left : older (ticks cs) (n + 1) ≡ n + 1 - ticks cs
        left = older_limited (ticks cs) (n + 1) (omega (arith, most))

        go : Course K E asked L S begun cs (older (ticks cs) (n + 1)) → Timeout (step K E) (λ z. z.queue) begun f.task n cs
        go (timed_out z u) =
            let late : n < ticks cs = omega (arith, z, left) in
            record { ends = rw (lt-leb (ticks cs) n late) u; waiting = λ k. absurd (omega (arith, late, k)); woken = λ k. absurd (omega (arith, late, k)); gone = λ k. absurd (omega (arith, late, k)) }
        go (waiting_still m u here good) =
            let last : ticks cs ≡ n → Expired K E asked later = λ k. last-tick K E asked later (older (ticks cs) (n + 1)) good here (omega (arith, left, k)) in
            record {
              ends = rw (le-leb (ticks cs) n (omega (arith, m, left))) u;
              waiting = λ k. entry-waits f.task (with_left (older (ticks cs) (n + 1)) asked) later.queue here;
              woken = λ k. rw (tick_done K E later good) (last k).woken;
              gone = λ k. rw (tick_done K E later good) (last k).gone;
            }

    -- no limit
    pub unlimited : f.limit ≡ minus 1 → Untimed (step K E) (λ z. z.queue) begun f.task cs
    unfolding older
    unlimited e = go (runs (minus 1) e (omega arith) (omega arith))
      where
        go : Course K E asked L S begun cs forever → Untimed (step K E) (λ z. z.queue) begun f.task cs
        go (timed_out z u) = absurd (omega (arith, z))
        go (waiting_still m u here good) = record { ends = u; waiting = entry-waits f.task (with_left forever asked) later.queue here }

  pub still_waits : end_code f.task (run (step K E) begun cs) ≡ none → Still
  still_waits u = go f.limit refl
    where
      by_course : (l : ℕ) → Course K E asked L S begun cs l → Still
      by_course l (waiting_still m e here good) = record { left = l; here = here; good = good }
      by_course l (timed_out z e) = no_some (sym e ∙ u)

      sp : Spared f.task (run (step K E) begun cs)
      sp = spared_none f.task (run (step K E) begun cs) u

      go : (l : ℤ) → f.limit ≡ l → Still
      go (pos n) e = by_course _ (runs sp (pos n) e (omega arith) (omega (arith, leb-true n longest_limit (rw e at (told-joins K E f s h told).fair.limit))))
      go (negsuc n) e = by_course _ (runs sp (negsuc n) e (omega arith) (omega arith))
