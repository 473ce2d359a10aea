-- What a call does to the wait of one task, over any store. Assumes nothing.
use Prim.Native.Nat.{ℕ, zero, suc, ◌+◌, ◌-◌, ◌≤◌, ◌<◌}
use mathlib.Core.Path.{◌≡◌, refl, sym, ap, ◌∙◌}
use mathlib.Core.Bool.{true, false, cond}
use mathlib.Core.List.{List, [], ◌∷◌, ◌++◌}
use mathlib.Core.Option.{Option, none, some}
use native.Mathlib.Omega.{arith}
use lib.ListN.{length}
use lib.Dec.{leb, eqb}
use lib.IntN.{ℤ}
use borrow.Author.Tests.{eqb-true, eqb-false, eq-eqb, ne_eqb}
use Rattle.model.specs.Limits.{forever, e_ok, e_rlwai, e_tmout}
use Rattle.model.specs.Waiting.{Entry, waits, entry_in, remove, insert, with_left, expires, aged, expired, remaining}
use Rattle.model.specs.Rules.{Rules, queued}
use Rattle.model.specs.Calls.{Woken, place_of, Call, get, release, cancel, tick, inquire, Refusal, entry_of, leaves, leave, Store, State, fitting, given, wakes, serve, sound, goes, tests, act, step}
use Rattle.model.specs.Runs.{Turn, wake_code, end_code, Spared, passes}
use Rattle.model.specs.Places.{no_woken, pad}
use Rattle.model.proofs.Tests.{by, clash, or_f_l, or_f_r}
use Rattle.model.proofs.Waiting.{open_queued, lead_waits}
use Rattle.model.proofs.Soundness.{no_some, open_sound, passed, step-refused, step_done, verdict-sound}

-- ---- who is woken

pub wake_past : (t : ℕ) (a b : List Woken) → wake_code t a ≡ none → wake_code t (a ++ b) ≡ wake_code t b
unfolding wake_code
wake_past t [] b e = refl
wake_past t (w ∷ a) b e = by (eqb w.task t) (λ h. no_some (rw h at e)) (λ h. rw h (wake_past t a b (rw h at e)))

wake-first : (t : ℕ) (c : ℤ) (a b : List Woken) → wake_code t a ≡ some c → wake_code t (a ++ b) ≡ some c
unfolding wake_code
wake-first t c [] b e = no_some (sym e)
wake-first t c (w ∷ a) b e = by (eqb w.task t) (λ h. rw h (rw h at e)) (λ h. rw h (wake-first t c a b (rw h at e)))

pub wake_none : (t : ℕ) → wake_code t [] ≡ none
unfolding wake_code
wake_none t = refl

pub wake-head : (t : ℕ) (w : Woken) (ws : List Woken) → w.task ≡ t → wake_code t (w ∷ ws) ≡ some w.code
unfolding wake_code
wake-head t w ws e = rw (eq-eqb w.task t e)

pub wake_other : (t : ℕ) (w : Woken) → (w.task ≡ t → ⊥) → wake_code t (w ∷ []) ≡ none
unfolding wake_code
wake_other t w n = rw (ne_eqb w.task t n)

-- unused places wake no task
pub wake-pad : (t n : ℕ) (ws : List Woken) → 1 ≤ t → length ws ≤ n → wake_code t (pad no_woken n ws) ≡ wake_code t ws
unfolding wake_code pad
wake-pad t zero [] h l = refl
wake-pad t zero (w ∷ ws) h l = absurd (omega arith)
wake-pad t (suc n) [] h l = rw (ne_eqb 0 t (λ e. omega arith)) (wake-pad t n [] h (omega arith))
wake-pad t (suc n) (w ∷ ws) h l = by (eqb w.task t) (λ g. rw g) (λ g. rw g (wake-pad t n ws h (omega arith)))

-- who is not woken is neither served nor cancelled
pub spared_none : (t : ℕ) (l : List Turn) → end_code t l ≡ none → Spared t l
spared_none t l e = record { unserved = λ z. no_some (sym z ∙ e); uncancelled = λ z. no_some (sym z ∙ e) }

-- ---- the time left, k ticks later; forever stays

unfoldable pub older : ℕ → ℕ → ℕ
older k l = cond (eqb l forever) forever (l - k)

pub older_zero : (l : ℕ) → older 0 l ≡ l
unfolding older
older_zero l = by (eqb l forever) (λ h. rw h (sym (eqb-true l forever h))) (λ h. rw h (omega arith))

pub older_older : (j k l : ℕ) → l ≤ forever → older k (older j l) ≡ older (j + k) l
unfolding older
older_older j k l m =
    by (eqb l forever)
    (λ h. rw h)
    (λ h. let n = eqb-false l forever h in
    let z : eqb (l - j) forever ≡ false = ne_eqb (l - j) forever (λ e. n (omega arith)) in
    rw h (rw z (omega arith)))

pub older_most : (k l : ℕ) → l ≤ forever → older k l ≤ forever
unfolding older
older_most k l m = by (eqb l forever) (λ h. rw h (omega arith)) (λ h. rw h (omega arith))

pub older_less : (j k l : ℕ) → older (j + k) l ≤ older j l
unfolding older
older_less j k l = by (eqb l forever) (λ h. rw h (omega arith)) (λ h. rw h (omega arith))

pub older_limited : (k l : ℕ) → l < forever → older k l ≡ l - k
unfolding older
older_limited k l m = rw (ne_eqb l forever (λ e. omega arith))

-- a tick leaves nothing of a time left of 1, and something of any other
older_tick : (l : ℕ) → 1 ≤ l → (l ≡ 1 → ⊥) → 1 ≤ older 1 l
unfolding older
older_tick l m n = by (eqb l forever) (λ h. rw h (omega arith)) (λ h. rw h (omega (arith, m, n)))

older_last : (l : ℕ) → l ≡ 1 → older 1 l ≡ 0
unfolding older
older_last l e = rw e

-- ---- the entry of the task t, if it waits

pub entry-waits : (t : ℕ) (x : Entry) (q : List Entry) → entry_in t q ≡ some x → waits t q ≡ true
unfolding entry_in waits
entry-waits t x [] h = no_some (sym h)
entry-waits t x (e ∷ q) h = by (eqb e.task t) (λ g. rw g) (λ g. rw g (entry-waits t x q (rw g at h)))

away_none : (t : ℕ) (q : List Entry) → waits t q ≡ false → entry_in t q ≡ none
unfolding entry_in waits
away_none t [] w = refl
away_none t (e ∷ q) w = rw (or_f_l (eqb e.task t) (waits t q) w) (away_none t q (or_f_r (eqb e.task t) (waits t q) w))

pub none_away : (t : ℕ) (q : List Entry) → entry_in t q ≡ none → waits t q ≡ false
unfolding entry_in waits
none_away t [] h = refl
none_away t (e ∷ q) h = by (eqb e.task t) (λ g. no_some (rw g at h)) (λ g. rw g (none_away t q (rw g at h)))

entry-remove : (t x : ℕ) (q : List Entry) → (x ≡ t → ⊥) → entry_in t (remove x q) ≡ entry_in t q
unfolding entry_in remove
entry-remove t x [] n = refl
entry-remove t x (e ∷ q) n =
    by (eqb e.task x)
    (λ h. let z : eqb e.task t ≡ false = ne_eqb e.task t (λ g. n (sym (eqb-true e.task x h) ∙ g)) in rw (h, z))
    (λ h. rw h (by (eqb e.task t) (λ g. rw g) (λ g. rw g (entry-remove t x q n))))

module _ (rank : Entry → ℕ) where
  entry-insert : (t : ℕ) (e : Entry) (q : List Entry) → (e.task ≡ t → ⊥) → entry_in t (insert rank e q) ≡ entry_in t q
  unfolding entry_in insert
  entry-insert t e [] n = rw (ne_eqb e.task t n)
  entry-insert t e (x ∷ q) n =
      by (leb (rank x) (rank e))
      (λ h. rw h (by (eqb x.task t) (λ g. rw g) (λ g. rw g (entry-insert t e q n))))
      (λ h. rw (h, ne_eqb e.task t n))

  pub entry-insert-same : (e : Entry) (q : List Entry) → waits e.task q ≡ false → entry_in e.task (insert rank e q) ≡ some e
  unfolding entry_in insert waits
  entry-insert-same e [] w = rw (eq-eqb e.task e.task refl)
  entry-insert-same e (x ∷ q) w =
      let n : eqb x.task e.task ≡ false = or_f_l (eqb x.task e.task) (waits e.task q) w in
      by (leb (rank x) (rank e))
      (λ h. rw (h, n) (entry-insert-same e q (or_f_r (eqb x.task e.task) (waits e.task q) w)))
      (λ h. rw (h, eq-eqb e.task e.task refl))

-- ---- a tick: a time left of 1 ends, any other is a tick less

abbrev ticked : Option Entry → Option Entry
ticked none = none
ticked (some e) = cond (expires e) none (some (aged e))

abbrev pub ended : ℤ → Option Entry → Option ℤ
ended c none = none
ended c (some e) = cond (expires e) (some c) none

module _ (K : Rules) (t : ℕ) where
  -- in a queue each task stands once
  behind_none : (e : Entry) (q : List Entry) → queued K (e ∷ q) ≡ true → eqb e.task t ≡ true → entry_in t q ≡ none
  behind_none e q o g = away_none t q (rw (eqb-true e.task t g) at (lead_waits K e q (open_queued K e q o).lead))

  entry-remaining : (q : List Entry) → queued K q ≡ true → entry_in t (remaining q) ≡ ticked (entry_in t q)
  unfolding entry_in remaining
  entry-remaining [] o = refl
  entry-remaining (e ∷ q) o =
      let ih = entry-remaining q (open_queued K e q o).rest in
      by (eqb e.task t)
      (λ g. by (expires e) (λ x. rw (x, g) (rw x (ih ∙ ap ticked (behind_none e q o g)))) (λ x. rw (x, g) (rw x)))
      (λ g. by (expires e) (λ x. rw (x, g) ih) (λ x. rw (x, g) ih))

  pub wake-expired : (c : ℤ) (q : List Entry) → queued K q ≡ true → wake_code t (leave c (expired q)) ≡ ended c (entry_in t q)
  unfolding entry_in expired leave wake_code
  wake-expired c [] o = refl
  wake-expired c (e ∷ q) o =
      let ih = wake-expired c q (open_queued K e q o).rest in
      by (eqb e.task t)
      (λ g. by (expires e) (λ x. rw (x, g) (rw x)) (λ x. rw (x, g) (rw x (ih ∙ ap (ended c) (behind_none e q o g)))))
      (λ g. by (expires e) (λ x. rw (x, g) ih) (λ x. rw (x, g) ih))

-- no test refuses a tick
pub tick_done : (K : Rules) {P : Type 0} (E : Store P) (s : State P) → sound K E s ≡ true → step K E tick s ≡ act K E tick s
unfolding tests
tick_done K E s h = step_done K E tick s (verdict-sound K E tick s h)

-- ---- a call, and the wait of the entry `own`

module _ (K : Rules) {P : Type 0} (E : Store P) (own : Entry) where
  abbrev t : ℕ
  t = own.task

  -- the tasks ws are woken and the queue q is left: the wait ends by a block, a cancellation or, where l is 0, by its time; or it lasts, with l left
  pub data Fate (l : ℕ) (ws : List Woken) (q : List Entry) : Type 0 where
    served : wake_code t ws ≡ some e_ok → Fate l ws q
    cancelled : wake_code t ws ≡ some e_rlwai → Fate l ws q
    lapsed : l ≡ 0 → wake_code t ws ≡ some e_tmout → Fate l ws q
    lasts : 1 ≤ l → wake_code t ws ≡ none → entry_in t q ≡ some (with_left l own) → Fate l ws q

  fate_past : (l : ℕ) (first ws : List Woken) (q : List Entry) → wake_code t first ≡ none → Fate l ws q → Fate l (first ++ ws) q
  fate_past l first ws q n (served e) = served (wake_past t first ws n ∙ e)
  fate_past l first ws q n (cancelled e) = cancelled (wake_past t first ws n ∙ e)
  fate_past l first ws q n (lapsed z e) = lapsed z (wake_past t first ws n ∙ e)
  fate_past l first ws q n (lasts m e h) = lasts m (wake_past t first ws n ∙ e) h

  serve_fate : (l : ℕ) (p : P) (q : List Entry) → 1 ≤ l → entry_in t q ≡ some (with_left l own) → Fate l (serve K E p q).woken (serve K E p q).state.queue
  unfolding entry_in serve
  serve_fate l p [] m h = no_some (sym h)
  serve_fate l p (e ∷ q) m h =
      by (fitting K E e p)
      (λ f. rw f (by (eqb e.task t)
      (λ g. served (wake-head t (wakes K E e p) (serve K E (given K E e p) q).woken (eqb-true e.task t g)))
      (λ g. fate_past l (wakes K E e p ∷ []) (serve K E (given K E e p) q).woken (serve K E (given K E e p) q).state.queue
      (wake_other t (wakes K E e p) (eqb-false e.task t g)) (serve_fate l (given K E e p) q m (rw g at h)))))
      (λ f. rw f (lasts m (wake_none t) h))

  serve-away : (p : P) (q : List Entry) → waits t q ≡ false → waits t (serve K E p q).state.queue ≡ false
  unfolding waits serve
  serve-away p [] w = w
  serve-away p (e ∷ q) w =
      by (fitting K E e p) (λ f. rw f (serve-away (given K E e p) q (or_f_r (eqb e.task t) (waits t q) w))) (λ f. rw f w)

  -- the tick that ends the wait
  pub record Expired (s : State P) : Type 0 where
    pub woken : wake_code t (act K E tick s).said.woken ≡ some e_tmout
    pub gone : waits t (act K E tick s).state.queue ≡ false

  pub last-tick : (s : State P) (l : ℕ) → sound K E s ≡ true → entry_in t s.queue ≡ some (with_left l own) → l ≡ 1 → Expired s
  unfolding act
  last-tick s l h left one =
      let order = (open_sound K E s h).order in
      let q = s.queue in
      let here = left ∙ ap (λ (n : ℕ). some (with_left n own)) one in
      record {
        woken = wake-first t e_tmout (leave e_tmout (expired q)) (serve K E s.pool (remaining q)).woken (wake-expired K t e_tmout q order ∙ ap (ended e_tmout) here);
        gone = serve-away s.pool (remaining q) (none_away t (remaining q) (entry-remaining K t q order ∙ ap ticked here));
      }

  module _ (s : State P) (l : ℕ) (h : sound K E s ≡ true) (m : 1 ≤ l) (here : entry_in t s.queue ≡ some (with_left l own)) where
    -- no tick passes
    kept : Fate (older 0 l) [] s.queue
    kept = rw (older_zero l) (lasts m (wake_none t) here)

    act_fate : (c : Call) → tests K E c s ≡ none → Fate (older (passes c) l) (act K E c s).said.woken (act K E c s).state.queue
    unfolding act older
    act_fate (get r) u =
        by (goes K E (entry_of r) s)
        (λ g. rw g kept)
        (λ g. let other : r.task ≡ t → ⊥ = λ z. clash (waits t s.queue) (entry-waits t (with_left l own) s.queue here) (rw z at (passed K E r s u).away) in
        rw (g, older_zero l) (lasts m (wake_none t) (entry-insert K.rank t (entry_of r) s.queue other ∙ here)))
    act_fate (release o) u = rw (older_zero l) (serve_fate l (E.free (place_of o) s.pool) s.queue m here)
    act_fate (cancel x) u =
        let v = serve K E s.pool (remove x s.queue) in
        by (eqb x t)
        (λ g. cancelled (wake-head t (leaves e_rlwai x) v.woken (eqb-true x t g)))
        (λ g. let n = eqb-false x t g in
        rw (older_zero l) (fate_past l (leaves e_rlwai x ∷ []) v.woken v.state.queue (wake_other t (leaves e_rlwai x) n)
        (serve_fate l s.pool (remove x s.queue) m (entry-remove t x s.queue n ∙ here))))
    act_fate tick u =
        let order = (open_sound K E s h).order in
        let q = s.queue in
        let v = serve K E s.pool (remaining q) in
        by (eqb l 1)
        (λ g. let e = eqb-true l 1 g in lapsed (older_last l e) (last-tick s l h here e).woken)
        (λ g. fate_past (older 1 l) (leave e_tmout (expired q)) v.woken v.state.queue (wake-expired K t e_tmout q order ∙ ap (ended e_tmout) here ∙ rw g)
        (serve_fate (older 1 l) s.pool (remaining q) (older_tick l m (eqb-false l 1 g)) (entry-remaining K t q order ∙ ap ticked here ∙ rw g)))
    act_fate inquire u = kept

    refused_fate : (c : Call) (k : Refusal) → tests K E c s ≡ some k → Fate (older (passes c) l) [] s.queue
    unfolding tests
    refused_fate (get r) k u = kept
    refused_fate (release o) k u = kept
    refused_fate (cancel x) k u = kept
    refused_fate tick k u = no_some (sym u)
    refused_fate inquire k u = kept

    pub step_fate : (c : Call) → Fate (older (passes c) l) (step K E c s).said.woken (step K E c s).state.queue
    step_fate c = go (tests K E c s) refl
      where
        go : (v : Option Refusal) → tests K E c s ≡ v → Fate (older (passes c) l) (step K E c s).said.woken (step K E c s).state.queue
        go none u = rw (step_done K E c s (verdict-sound K E c s h ∙ u)) (act_fate c u)
        go (some k) u = rw (step-refused K E c s k (verdict-sound K E c s h ∙ u)) (refused_fate c k u)
