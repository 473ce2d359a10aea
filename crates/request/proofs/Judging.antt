-- Requests: the tests, and what follows where none refuses. Assumes nothing.
use Prim.Native.Nat.{ℕ, ◌+◌, ◌≤◌}
use mathlib.Core.Path.{◌≡◌, refl, sym, ap, ◌∙◌}
use mathlib.Core.Bool.{Bool, true, false, not, cond, ◌&&◌}
use mathlib.Core.List.{List, []}
use mathlib.Core.Option.{none, some}
use mathlib.Core.Option as maybe
use lib.ListN.{length}
use lib.Dec.{leb}
use lib.IntN.{ℤ}
use borrow.Author.Tests.{leb-true}
use Rattle.std.specs.Prelude.{Option, Some, None, Result, Ok, Err, is_some}
use Rattle.model.specs.declared.Attributes.{Attributes}
use Rattle.model.specs.declared.BlockOffset.{BlockOffset}
use Rattle.model.specs.declared.Entry.{Entry}
use Rattle.model.specs.declared.Queue.{Queue}
use Rattle.model.specs.declared.Woken.{Woken}
use Rattle.model.specs.declared.Answer.{Answer}
use Rattle.model.specs.declared.errors.CallError.{CallError}
use Rattle.model.specs.declared.errors.CallError.TheVariants.{UnknownTask, Parameter, AlreadyWaiting}
use Rattle.model.specs.Errors.{refusal_of}
use Rattle.model.specs.Limits.{most_tasks, lowest_priority, e_ok, e_tmout}
use Rattle.model.specs.Blocks.{Block, fits, first_fit, granted}
use Rattle.model.specs.Bytes.{blocks_of}
use Rattle.model.specs.Waiting.{waits}
use Rattle.model.specs.Rules.{Rules, ok_task, most_asked, ok_size, ok_priority, need_of, rank_by, rules}
use Rattle.model.specs.Calls.{offset_of, no_place, Request, get, plain, deny, ok_limit, is_poll, left_of, entry_of, State, blocks, goes, tests, act}
use Rattle.model.specs.Places.{entries_of, tidy, woken_of}
use Rattle.model.specs.Pool.{Stored, stored, view, perform_by, rules_of, is_sound, result_of, answered, called}
use Rattle.model.proofs.Tests.{by, and_l, and_r, and_f_r, not_f}
use Rattle.model.proofs.Bytes.{Bytes}
use Rattle.model.proofs.Soundness.{no_some, past}
use Rattle.model.proofs.Rules.{rules_laws}
use Rattle.layout.specs.declared.Spot.{Spot}
use Rattle.layout.specs.declared.Target.TheVariants as target
use Rattle.layout.specs.Layout.{seek, sought, changed, Grantable}
use Rattle.layout.proofs.Finding.{no_spot, found-run, no_run}
use Rattle.queue.specs.declared.Limit.{Limit}
use Rattle.queue.specs.declared.Limit.TheVariants.{Poll, Left}
use Rattle.queue.specs.Entries.{found, limit_of}
use Rattle.queue.proofs.Entries.{head_decides}
use Rattle.state.specs.State.{rules_in}
use Rattle.request.specs.Request.{request, entry, asked, judged, unblocked, run_for, held, admitted, Fair}
use Rattle.state.proofs.Inspecting.{State as Parts, open_state, clash_none, clash_ok, kept_bytes, kept_queue}

-- ---- the tests but for the last

module _ (a : Attributes) (n t s : ℕ) (l : ℤ) (k : ℕ) (q : List Entry) where
  abbrev verdict_of : Result Limit CallError
  verdict_of = judged (asked (rules a n) (request t s l k) q) l

  module _ (h : ok_task (rules a n) t ≡ true) where
    pub size-refused : ok_size (most_asked a n) s && ok_priority k ≡ false → Err Parameter ≡ verdict_of
    unfolding rules
    size-refused b = rw (h, b)

    module _ (b : ok_size (most_asked a n) s && ok_priority k ≡ true) where
      module _ (w : Limit) (d : limit_of l ≡ Some w) where
        pub waiter-refused : waits t q ≡ true → Err AlreadyWaiting ≡ verdict_of
        unfolding rules
        waiter-refused u = by (ok_limit l) (λ e. rw (h, b, e, u)) (λ e. let n : None ≡ Some w = rw e at d in clash_none n)

        pub none-refused : waits t q ≡ false → Ok w ≡ verdict_of
        unfolding rules
        none-refused u =
            by (ok_limit l)
            (λ e. let m : Some (cond (is_poll l) Poll (Left (left_of l))) ≡ Some w = rw e at d in
            let k : w ≡ cond (is_poll l) Poll (Left (left_of l)) = cc in
            rw (h, b, e, u) (ap (λ (x : Limit). Ok x) k))
            (λ e. let n : None ≡ Some w = rw e at d in clash_none n)

-- the task's entry is found exactly if it waits
pub found_waits : (t : ℕ) (q : List Entry) (o : Option ℕ) (b : Bool) → o ≡ found t q → b ≡ is_some o → b ≡ waits t q
found_waits t q o b eo eb = eb ∙ ap is_some eo ∙ by (waits t q) (λ w. rw w) (λ w. rw w)

-- ---- tests of a get

told-some : (x e : CallError) → some x ≡ some e → some (refusal_of x) ≡ some (refusal_of e)
told-some x e h = let g : x ≡ e = cc in ap (λ (y : CallError). some (refusal_of y)) g

module _ (K : Rules) (r : Request) (s : State (List Block)) where
  pub asked-some : (e : CallError) → asked K r s.queue ≡ some e → tests K (blocks K) (get r) s ≡ some (refusal_of e)
  unfolding tests
  asked-some x e =
      let a = ok_task K r.task in
      let b = K.allowed (entry_of r) && ok_limit r.limit in
      let w = waits r.task s.queue in
      by a
      (λ ha. by b
      (λ hb. by w
      (λ hw. rw (ha, hb, hw) (told-some AlreadyWaiting x (rw (ha, hb, hw) at e)))
      (λ hw. no_some (sym (rw (ha, hb, hw) at e))))
      (λ hb. rw (ha, hb) (told-some Parameter x (rw (ha, hb) at e))))
      (λ ha. rw ha (told-some UnknownTask x (rw ha at e)))

  pub asked_none : asked K r s.queue ≡ none → tests K (blocks K) (get r) s ≡ deny (is_poll r.limit && not (goes K (blocks K) (entry_of r) s)) (plain e_tmout) none
  unfolding tests
  asked_none e =
      let p = past (not (ok_task K r.task)) UnknownTask _ e in
      let q = past (not (K.allowed (entry_of r) && ok_limit r.limit)) Parameter _ p.1 in
      let w = past (waits r.task s.queue) AlreadyWaiting none q.1 in
      rw (not_f (ok_task K r.task) p.0, not_f (K.allowed (entry_of r) && ok_limit r.limit) q.0, w.0)

pub judged-refuse : (v : maybe.Option CallError) (l : ℤ) (e : CallError) → Err e ≡ judged v l → v ≡ some e
judged-refuse (some x) l e h = let g : x ≡ e = cc in ap some g
judged-refuse none l e h = clash_ok (sym h)

pub record Goes (v : maybe.Option CallError) (l : ℤ) (w : Limit) : Type 0 where
  pub passes : v ≡ none
  pub wait : w ≡ cond (is_poll l) Poll (Left (left_of l))

pub judged_go : (v : maybe.Option CallError) (l : ℤ) (w : Limit) → Ok w ≡ judged v l → Goes v l w
judged_go (some x) l w h = clash_ok h
judged_go none l w h = record { passes = refl; wait = cc }

-- a poll never stands in the queue, so its time left does not matter
poll-admitted : (s : Stored) (t n a b k : ℕ) → admitted s (entry t n a k) true ≡ admitted s (entry t n b k) true
unfolding rules
poll-admitted s t n a b k = by (goes (rules_of rules s) (blocks (rules_of rules s)) (entry t n a k) (view s)) (λ g. rw g) (λ g. rw g)

admitted_left : (s : Stored) (t n left k : ℕ) (l : ℤ) → left ≡ cond (is_poll l) 0 (left_of l) → admitted s (entry t n left k) (is_poll l) ≡ admitted s (entry t n (left_of l) k) (is_poll l)
admitted_left s t n left k l e =
    by (is_poll l)
    (λ h. rw h (poll-admitted s t n left (left_of l) k))
    (λ h. let time : left ≡ left_of l = rw h at e in rw time)

module _ (l : List ℕ) (q : Queue) (t n : ℕ) (limit : ℤ) (k : ℕ) where
  abbrev K : Rules
  K = rules_in l q

  abbrev r : Request
  r = request t n limit k

  pub get_refused : (e : CallError) → Err e ≡ judged (asked K r (entries_of q)) limit → tests K (blocks K) (get r) (view (stored l q)) ≡ some (refusal_of e)
  unfolding view
  get_refused e h = asked-some K r (view (stored l q)) e (judged-refuse (asked K r (entries_of q)) limit e h)

  pub get-admitted : (p : Bool) (left : ℕ) → is_sound rules (stored l q) ≡ true → asked K r (entries_of q) ≡ none → p ≡ is_poll limit → left ≡ cond (is_poll limit) 0 (left_of limit)
      → answered (admitted (stored l q) (entry t n left k) p) ≡ called (get r) l q
  unfolding perform_by act view
  get-admitted p left h passes poll time = rw (poll, admitted_left (stored l q) t n left k limit time, h, asked_none K r (view (stored l q)) passes)

  pub get_fair : (left : ℕ) (f : Option Spot) → is_sound rules (stored l q) ≡ true → asked K r (entries_of q) ≡ none
      → f ≡ seek (sought (target.Run (need_of q.attributes n))) 0 0 (blocks_of l) → Fair l q (entry t n left k) f
  unfolding rules
  get_fair left f h g run =
      let a = past (not (ok_task K t)) UnknownTask _ g in
      let b = past (not (K.allowed (entry_of r) && ok_limit limit)) Parameter _ a.1 in
      let w = past (waits t (entries_of q)) AlreadyWaiting none b.1 in
      record {
        state = h;
        task = not_f (ok_task K t) a.0;
        size = and_l (K.allowed (entry_of r)) (ok_limit limit) (not_f _ b.0);
        away = w.0;
        run = run;
      }

-- ---- a request that no test refused

module _ (l : List ℕ) (q : Queue) (e : Entry) (f : Option Spot) (fair : Fair l q e f) where
  abbrev S : Rules
  S = rules_in l q

  abbrev need : ℕ
  need = need_of q.attributes e.size

  parts : Parts l q
  parts = open_state l q fair.state

  -- its task and its priority are small numbers
  pub fair_small : (e.task ≤ most_tasks) × (e.priority ≤ lowest_priority)
  unfolding rules
  fair_small =
      let k = and_r (ok_size (most_asked q.attributes (length l)) e.size) (ok_priority e.priority) fair.size in (
        leb-true e.task most_tasks (and_r (leb 1 e.task) (leb e.task most_tasks) fair.task),
        leb-true e.priority lowest_priority (and_r (leb 1 e.priority) (leb e.priority lowest_priority) k),
      )

  pub fair_held : (tidy q.entries ≡ true) × (e.priority ≤ lowest_priority)
  fair_held = (parts.places, fair_small.1)

  abbrev order : ℕ
  order = q.attributes.order

  abbrev before_head : Bool
  before_head = unblocked order q.entries e

  -- the head, if any, comes after it, and the run found
  goes-is : goes S (blocks S) e (view (stored l q)) ≡ before_head && fits need (blocks_of l)
  unfolding view rules
  goes-is =
      let h = head_decides q.entries q.attributes (length l) (rank_by order e) parts.queue in
      by before_head (λ z. rw (h, z)) (λ z. rw (h, z))

  none_goes : run_for order q.entries e f ≡ None → goes S (blocks S) e (view (stored l q)) ≡ false
  none_goes n =
      goes-is ∙ by before_head
      (λ z. let g : f ≡ None = rw z at n in rw (z, no_run need (blocks_of l) (sym fair.run ∙ g)))
      (λ z. rw z)

  pub admit_held : (a : Answer) (p : Bool) → length q.entries ≡ most_tasks → Bytes l → run_for order q.entries e f ≡ None → a ≡ held q e p → result_of a l ≡ answered (admitted (stored l q) e p)
  unfolding view rules
  admit_held a p n w o ea =
      let g = none_goes o in
      by p
      (λ h. rw (ea, h, g))
      (λ h. rw (ea, h, g) (ap (λ (y : List ℕ). result_of (held q e false) y) (sym (kept_bytes l q w parts))))

  module _ (s : Spot) (o : run_for order q.entries e f ≡ Some s) where
    ran : (before_head ≡ true) × (f ≡ Some s)
    ran = by before_head (λ z. (z, rw z at o)) (λ z. no_spot (rw z at o))

    fit : (fits need (blocks_of l) ≡ true) × (s.place.0 ≡ first_fit need (blocks_of l))
    fit = found-run need (blocks_of l) s (sym fair.run ∙ ran.1)

    pub admit_grantable : Grantable l s.place need
    unfolding rules
    admit_grantable = record { pool = parts.pool; least = (rules_laws q.attributes (length l)).need_least e fair.size; run = fit.0; place_is = fit.1 }

    pub admit_granted : (a : BlockOffset) (w : List Woken) (l' : List ℕ) (p : Bool) → length q.entries ≡ most_tasks → a ≡ offset_of s.place → w ≡ woken_of []
        → l' ≡ changed (granted need e.task) l → result_of (record { code = e_ok; offset = a; reason = 0; place = no_place; woken = w; queue = q }) l' ≡ answered (admitted (stored l q) e p)
    unfolding view rules
    admit_granted a w l' p n ea ew el =
        let g : goes S (blocks S) e (view (stored l q)) ≡ true = goes-is ∙ rw (ran.0, fit.0) in
        let place : a ≡ offset_of (record { 0 = first_fit need (blocks_of l) }) = ea ∙ ap {B = BlockOffset} (λ (i : ℕ). record { 0 = i + 8 }) fit.1 in
        rw (g, and_f_r p false refl) (λ i. result_of (record { code = e_ok; offset = place i; reason = 0; place = no_place; woken = ew i; queue = sym (kept_queue l q n parts) i }) (el i))
