-- Demands 1 to 3, timeouts, the order and the wait bound about what the contracts of the calls cite: `created`, `called` and `inquired`. Assumes nothing.
use Prim.Native.Nat.{ℕ, ◌+◌, ◌-◌, ◌≤◌}
use mathlib.Core.Path.{◌≡◌, refl, sym, ap, ◌∙◌}
use mathlib.Core.Logic.{◌↔◌, ◌⊎◌, ⊎_elim}
use mathlib.Core.Bool.{true, false, cond, ◌&&◌}
use mathlib.Core.List.{List, [], ◌∷◌}
use mathlib.Core.Option.{Option, none, some}
use native.Mathlib.Omega.{arith}
use lib.ListN.{length}
use lib.Dec.{leb}
use lib.IntN.{pos}
use borrow.Author.Tests.{leb-true}
use Rattle.model.specs.declared.Attributes.{Attributes}
use Rattle.model.specs.declared.BlockOffset.{BlockOffset}
use Rattle.model.specs.declared.Entry.{Entry}
use Rattle.model.specs.declared.Queue.{Queue}
use Rattle.model.specs.declared.Answer.{Answer}
use Rattle.model.specs.Limits.{most_tasks, minus, e_ok, waiting, e_sys, e_par, e_id, e_rlwai, e_tmout, already_free}
use Rattle.model.specs.Blocks.{block, live_count, sum_free, greatest_free}
use Rattle.model.specs.Bytes.{blocks_of, render}
use Rattle.model.specs.Waiting.{waits, entry_in, place_in, head_task}
use Rattle.model.specs.Rules.{Rules, ok_task, ok_long, ok_attributes, rules}
use Rattle.model.specs.Calls.{no_offset, no_place, Request, Call, get, release, cancel, tick, inquire, Reply, Refusal, plain, leaves, blocks, sound, is_live, tests, act, step}
use Rattle.model.specs.Refusals.{Refused, get_id}
use Rattle.model.specs.Runs.{after, run, refuses, wakings, served_before, wake_code, end_code, Spared, ticks, releases, NoneBetter, gets, refusals, winners, Others, OfPriority}
use Rattle.model.specs.Places.{tidy, entries_of, queue_of, woken_of}
use Rattle.model.specs.Pool.{Stored, stored, Typed, Fifo, view, waiters, settled, defaults, sound_by, is_sound, perform, create, Result, result_of, answered, created, called, inquired, totals}
use Rattle.model.specs.Demands.{NoTrace, undo, Undone, Timeout, StaysBehind, EndsWithin, OneHolder}
use Rattle.model.proofs.Tests.{by, and_l}
use Rattle.model.proofs.Waiting.{waits-least, head-place}
use Rattle.model.proofs.Pool.{by_unsound, by_done}
use Rattle.model.proofs.Fates.{wake-pad, entry-waits}
use Rattle.model.proofs.Theorems.{pool_attributes_kept, pool-call-sound, pool-run-sound, pool_refusal_keeps, pool_refusal_when, pool_release_refused_when, pool_done_no_reason, pool-release-refused-live, pool-release-place, pool-call-seen, fifo_cancel_no_trace, pool_cancel_no_trace, pool_release_undoes, pool_timeout, pool_unlimited, fifo_never_passed, pool_never_passed, fifo_wait_bound, pool_wait_bound}
pub use Rattle.model.proofs.Theorems.{kind_number, top_kind_lem, pool_rounds, pool_sizes_asked, pool-priorities-asked, pool_best_first, pool_blocks_of_render, pool_render_of_blocks, pool_entries_of_queue, pool_queue_of_entries, pool_woken_fit, pool_bound_reached}
use Rattle.state.specs.State.{rules_in, refusal}
use Rattle.pool.specs.Steps.{refused_in}
use Rattle.state.proofs.Inspecting.{State as Parts, open_state, kept_unsound, called-refused, called_done, kept_bytes, kept_queue}

-- ---- demand 1, for any bytes, queue and numbers

module _ (a : Attributes) (l : List ℕ) where
  -- a refused create hands out an empty queue, every number kept with it zero
  pub create-refused : ok_long (length l) && ok_attributes a (length l) ≡ false → created a l ≡ result_of (refusal (plain e_par) (queue_of defaults [])) l
  unfolding create rules
  create-refused h = rw h

  pub create_done : ok_long (length l) && ok_attributes a (length l) ≡ true → created a l ≡ result_of (refusal (plain e_ok) (queue_of a [])) (render (block (length l) 0 ∷ []) l)
  unfolding create rules
  create_done h = rw h

-- a state whose kept numbers create would refuse is not sound
pub kept_refused : (l : List ℕ) (q : Queue) → ok_attributes q.attributes (length l) ≡ false → is_sound rules (stored l q) ≡ false
kept_refused = kept_unsound

module _ (c : Call) (l : List ℕ) (q : Queue) where
  abbrev K : Rules
  K = rules_in l q

  -- a code other than 0 and 1 comes with offset 0 and nobody woken, and leaves every byte and the queue
  pub call-refused : (k : Refusal) → refused_in (called c l q).answer ≡ some k → called c l q ≡ result_of (refusal k q) l
  call-refused k e = ap answered (pool_refusal_keeps c (stored l q) k e)

  -- and is answered exactly as the table of refusals says
  pub call_refused_when : (k : Refusal) → (refused_in (called c l q).answer ≡ some k) ↔ Refused K (blocks K) (is_sound rules (stored l q)) (view (stored l q)) c k
  call_refused_when k = pool_refusal_when c (stored l q) k

  -- a call that is not refused gives no reason
  pub call_no_reason : refused_in (called c l q).answer ≡ none → ((called c l q).answer.reason ≡ 0) × ((called c l q).answer.place ≡ no_place)
  call_no_reason e = pool_done_no_reason c (stored l q) e

  -- every call, refused or not, leaves the attributes as they were
  pub call_attributes : (called c l q).answer.queue.attributes ≡ q.attributes
  call_attributes = pool_attributes_kept c (stored l q)

  -- ---- demand 2

  -- what a run goes on from is what the contract says that the call left
  pub call-leaves : (perform rules c (stored l q)).state ≡ stored (called c l q).bytes (called c l q).answer.queue
  call-leaves = refl

  module _ (h : is_sound rules (stored l q) ≡ true) where
    -- the block list and the entries that the call leaves
    pub call_lists : view (stored (called c l q).bytes (called c l q).answer.queue) ≡ (step K (blocks K) c (view (stored l q))).state
    call_lists = (pool-call-seen c (stored l q) h).state

    -- every answer, pool byte, queue and list of woken tasks is what the block list and the queue give, refused calls too
    pub call-given : Typed (stored l q) → called c l q ≡ answered (settled (stored l q) (step K (blocks K) c (view (stored l q))))
    unfolding step view sound_by
    call-given t = go (tests K (blocks K) c (view (stored l q))) refl
      where
        s : sound K (blocks K) (view (stored l q)) ≡ true
        s = and_l (sound K (blocks K) (view (stored l q))) (tidy q.entries) h

        o : Parts l q
        o = open_state l q h

        go : (v : Option Refusal) → tests K (blocks K) c (view (stored l q)) ≡ v → called c l q ≡ answered (settled (stored l q) (step K (blocks K) c (view (stored l q))))
        go none e = sym (called_done c l q h e) ∙ rw (s, e)
        go (some k) e =
            sym (called-refused c l q k h e) ∙ rw (s, e) (λ i. result_of (refusal k (sym (kept_queue l q t.places o) i)) (sym (kept_bytes l q t.byte o) i))

-- ---- the reasons of a refused release

module _ (o : BlockOffset) (l : List ℕ) (q : Queue) where
  abbrev told : Answer
  told = (called (release o) l q).answer

  -- a release is refused exactly if it gives a reason or the state is not sound
  pub release_refused_when : (refuses told.code ≡ true) ↔ (((told.reason ≡ 0) → ⊥) ⊎ (is_sound rules (stored l q) ≡ false))
  release_refused_when = pool_release_refused_when o (stored l q)

  -- in a sound state: exactly if the offset is not that of a live block
  pub release-refused-live : is_sound rules (stored l q) ≡ true → (refuses told.code ≡ true) ↔ (is_live (rules_in l q) (blocks (rules_in l q)) o (blocks_of l) ≡ false)
  unfolding view
  release-refused-live h = pool-release-refused-live o (stored l q) h

  -- with the reasons 3 and 4 the place is the header of the one block whose bytes hold the offset
  pub release-place : already_free ≤ told.reason → OneHolder o.0 (blocks_of l) told.place.0
  release-place h = pool-release-place o (stored l q) h

-- inquire gives the totals of the block list and the head's task
module _ (l : List ℕ) (q : Queue) where
  pub inquire-refused : is_sound rules (stored l q) ≡ false → inquired l q ≡ record { code = e_sys; sum = 0; greatest = 0; head = 0 }
  inquire-refused h = ap (λ (r : Reply Stored). totals r.said) (by_unsound (rules_in l q) inquire (stored l q) h)

  pub inquire-given : is_sound rules (stored l q) ≡ true
      → inquired l q ≡ record { code = e_ok; sum = sum_free (blocks_of l); greatest = greatest_free (blocks_of l); head = head_task (entries_of q) }
  unfolding tests act view
  inquire-given h = ap (λ (r : Reply Stored). totals r.said) (by_done (rules_in l q) inquire (stored l q) h refl)

-- ---- demand 3

module _ (l : List ℕ) (q : Queue) (h : is_sound rules (stored l q) ≡ true) (t : Typed (stored l q)) where
  -- first half: the get f is told to wait, the gets rs follow, by priority with that of f, and the wait is cancelled
  module _ (f : Request) (rs : List Request) (z : (called (get f) l q).answer.code ≡ waiting) (others : Others f.task rs) (equal : Fifo (stored l q) ⊎ OfPriority f.priority rs) where
    -- the state after the get f and the gets rs, and after the gets rs alone
    abbrev waited : Stored
    waited = after (perform rules) (stored (called (get f) l q).bytes (called (get f) l q).answer.queue) (gets rs)

    abbrev alone : Stored
    alone = after (perform rules) (stored l q) (gets rs)

    no_trace : NoTrace (perform rules) (stored l q) f rs
    no_trace = ⊎_elim (λ o. fifo_cancel_no_trace (stored l q) f rs o h t z others) (λ k. pool_cancel_no_trace (stored l q) f rs h t z others k) equal

    -- bytes and queue are those that the gets alone leave; the task is woken with -49, then those whom the gets alone grant
    pub cancel_leaves_no_trace : called (cancel f.task) waited.bytes waited.queue
        ≡ result_of (record { code = e_ok; offset = no_offset; reason = 0; place = no_place; woken = woken_of (leaves e_rlwai f.task ∷ winners (run (perform rules) (stored l q) (gets rs))); queue = alone.queue }) alone.bytes
    cancel_leaves_no_trace = ap answered no_trace.cancelled

    -- the same gets are refused, by the same codes
    pub same-refusals : refusals (run (perform rules) (stored (called (get f) l q).bytes (called (get f) l q).answer.queue) (gets rs)) ≡ refusals (run (perform rules) (stored l q) (gets rs))
    same-refusals = no_trace.refused

  -- second half: a block that is got, or polled, and released at once
  module _ (r : Request) (z : (called (get r) l q).answer.code ≡ e_ok) where
    abbrev got : Result
    got = called (get r) l q

    abbrev back : Result
    back = called (release got.answer.offset) got.bytes got.answer.queue

    undone : Undone (stored l q) (undo (perform rules) (stored l q) r)
    undone = pool_release_undoes (stored l q) r h t z

    -- the release answers 0, wakes nobody and gives the former queue
    pub release_restores_queue : back.answer ≡ refusal (plain e_ok) q
    release_restores_queue = λ i. record { code = (undone.said i).code; offset = (undone.said i).offset; reason = (undone.said i).reason; place = (undone.said i).place; woken = woken_of (undone.said i).woken; queue = undone.queue i }

    -- and the former block list
    pub release_restores_blocks : blocks_of back.bytes ≡ blocks_of l
    release_restores_blocks = undone.blocks

-- ---- timeouts: the get f is told to wait, and then a run that neither serves nor cancels its task

module _ (l : List ℕ) (q : Queue) (h : is_sound rules (stored l q) ≡ true) (f : Request) (cs : List Call) (z : (called (get f) l q).answer.code ≡ waiting) where
  -- the state that the get left, and the state after the run
  abbrev begun : Stored
  begun = stored (called (get f) l q).bytes (called (get f) l q).answer.queue

  abbrev later : Stored
  later = after (perform rules) begun cs

  task-least : 1 ≤ f.task
  task-least =
      by (ok_task (rules_in l q) f.task)
      (λ a. leb-true 1 f.task (and_l (leb 1 f.task) (leb f.task (rules_in l q).tasks) a))
      (λ a. let e = call-refused (get f) l q (plain e_id) ((call_refused_when (get f) l q (plain e_id)).1 (get_id h a)) in
      let k : e_id ≡ waiting = sym (ap (λ (x : Result). x.answer.code) e) ∙ z in
      absurd (let z : ◌≡◌ {A = ℕ} 0 1 = cc in omega arith))

  module _ (spared : Spared f.task (run (perform rules) begun cs)) where
    -- no limit: no call of the run wakes the task, which still waits
    pub unlimited_ends : f.limit ≡ minus 1 → end_code f.task (run (perform rules) begun cs) ≡ none
    unlimited_ends e = (pool_unlimited (stored l q) f cs h e z spared).ends

    pub unlimited_waits : f.limit ≡ minus 1 → waits f.task (entries_of later.queue) ≡ true
    unlimited_waits e = (pool_unlimited (stored l q) f cs h e z spared).waiting

    module _ (n : ℕ) (limit : f.limit ≡ pos n) where
      timed : Timeout (perform rules) waiters begun f.task n cs
      timed = pool_timeout (stored l q) f n cs h limit z spared

      -- a limit of n: with at most n ticks in the run no call of it wakes the task, which still waits; with more, the wait has ended with -50
      pub limited-ends : end_code f.task (run (perform rules) begun cs) ≡ cond (leb (ticks cs) n) none (some e_tmout)
      limited-ends = timed.ends

      pub limited-waits : ticks cs ≤ n → waits f.task (entries_of later.queue) ≡ true
      limited-waits k = timed.waiting k

      -- after n it is the next tick that wakes it with -50, and it waits no more
      pub next_tick_wakes : ticks cs ≡ n → wake_code f.task (called tick later.bytes later.queue).answer.woken ≡ some e_tmout
      next_tick_wakes k =
          wake-pad f.task most_tasks (perform rules tick later).said.woken task-least (pool_woken_fit tick later (pool-run-sound begun cs (pool-call-sound (get f) (stored l q) h))) ∙ timed.woken k

      pub next_tick_ends : ticks cs ≡ n → waits f.task (entries_of (called tick later.bytes later.queue).answer.queue) ≡ false
      next_tick_ends k = timed.gone k

-- ---- the order: the get f is told to wait, a run follows that does not wake its task, and then the request r is made, by priority one of no better priority

module _ (l : List ℕ) (q : Queue) (h : is_sound rules (stored l q) ≡ true) (f : Request) (cs : List Call) (z : (called (get f) l q).answer.code ≡ waiting)
    (still : end_code f.task (run (perform rules) (stored (called (get f) l q).bytes (called (get f) l q).answer.queue) cs) ≡ none)
    (r : Request) (equal : Fifo (stored l q) ⊎ (f.priority ≤ r.priority)) (ds : List Call) where
  abbrev at : Stored
  at = after (perform rules) (stored (called (get f) l q).bytes (called (get f) l q).answer.queue) cs

  behind : StaysBehind (perform rules) at f.task r ds
  behind = ⊎_elim (λ o. fifo_never_passed (stored l q) f cs r ds o h z still) (λ k. pool_never_passed (stored l q) f cs r ds h z still k) equal

  -- it is not granted
  pub not_granted : (called (get r) at.bytes at.queue).answer.code ≡ e_ok → ⊥
  not_granted = behind.not_at_once

  -- if it is told to wait, then in whatever calls ds follow, its wait does not end with a block before that of f's task has ended
  pub not_served_before : (called (get r) at.bytes at.queue).answer.code ≡ waiting
      → served_before r.task f.task (wakings (run (perform rules) (stored (called (get r) at.bytes at.queue).bytes (called (get r) at.bytes at.queue).answer.queue) ds)) ≡ false
  not_served_before = behind.not_before

-- ---- the wait bound: the task t waits with the entry e, and a run follows, by priority one in which nobody better is granted or told to wait meanwhile

module _ (l : List ℕ) (q : Queue) (h : is_sound rules (stored l q) ≡ true) (t : ℕ) (e : Entry) (here : entry_in t (entries_of q) ≡ some e) (cs : List Call)
    (none_better : Fifo (stored l q) ⊎ NoneBetter t e.priority (run (perform rules) (stored l q) cs)) where
  -- the successful releases of the run
  abbrev made : ℕ
  made = releases (run (perform rules) (stored l q) cs)

  w : waits t (entries_of q) ≡ true
  w = entry-waits t e (entries_of q) here

  -- with L live blocks and the task at place k of the queue, its wait ends at the latest in the (L + k - 1)-th
  pub wait_ends : live_count (blocks_of l) + place_in t (entries_of q) - 1 ≤ made → EndsWithin (perform rules) (stored l q) t (live_count (blocks_of l) + place_in t (entries_of q) - 1) cs
  wait_ends n = ⊎_elim (λ o. fifo_wait_bound (stored l q) t cs o h w n) (λ b. pool_wait_bound (stored l q) t e cs h here b n) none_better

  -- that of the head in the L-th
  pub head-ends : head_task (entries_of q) ≡ t → live_count (blocks_of l) ≤ made → EndsWithin (perform rules) (stored l q) t (live_count (blocks_of l)) cs
  head-ends i =
      let bound : live_count (blocks_of l) + place_in t (entries_of q) - 1 ≡ live_count (blocks_of l) = omega (arith, head-place t (entries_of q) i w) in
      rw bound at wait_ends

  module _ (n : ℕ) (o : EndsWithin (perform rules) (stored l q) t n cs) where
    -- the state that the call which ends it is handed
    abbrev last : Stored
    last = after (perform rules) (stored l q) o.before

    -- its answer has the task among the woken; with code 0, if it is neither cancelled nor timed out
    pub ending_answer : wake_code t (called o.call last.bytes last.queue).answer.woken ≡ some o.code
    ending_answer =
        let least = waits-least (rules_in l q) t (entries_of q) (open_state l q h).queue w in
        wake-pad t most_tasks (perform rules o.call last).said.woken least (pool_woken_fit o.call last (pool-run-sound (stored l q) o.before h)) ∙ o.woken

    pub served-answer : (o.code ≡ e_rlwai → ⊥) → (o.code ≡ e_tmout → ⊥) → wake_code t (called o.call last.bytes last.queue).answer.woken ≡ some e_ok
    served-answer a b = ending_answer ∙ ap some (o.served a b)
