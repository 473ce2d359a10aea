-- What demands 2 and 3 say of the calls, how long a wait lasts, and what a refused release says of its offset.
use Rattle.std.specs.Prelude.{ℕ, ◌+◌, ◌≤◌, ◌<◌, ◌≡◌, true, false, cond, List, [], ◌∷◌, ◌++◌, leb, ℤ}
use Rattle.std.proofs.Math.Option.{none, some}
use Rattle.model.specs.Limits.{e_ok, waiting, e_rlwai, e_tmout}
use Rattle.model.specs.Blocks.{Block, total, live_count}
use Rattle.model.specs.Waiting.{Entry, waits, place_in}
use Rattle.model.specs.Rules.{Rules, Attributes, rules}
use Rattle.model.specs.Calls.{BlockOffset, no_offset, Request, Call, get, release, cancel, tick, Reply, says, leaves, blocks, step}
use Rattle.model.specs.Runs.{after, run, wakings, served_before, wake_code, end_code, ticks, releases, gets, refusals, winners}
use Rattle.model.specs.Bytes.{blocks_of}
use Rattle.model.specs.Pool.{Stored, view, waiters, wait_bound, defaults, rules_of, is_sound, perform}

-- Demand 2: a call on bytes and places is told what the call on block list and entries is told, and leaves what that leaves.
pub record Seen (R : Attributes → ℕ → Rules) (c : Call) (p : Stored) : Type 0 where
  pub said : (perform R c p).said ≡ (step (rules_of R p) (blocks (rules_of R p)) c (view p)).said
  pub state : view (perform R c p).state ≡ (step (rules_of R p) (blocks (rules_of R p)) c (view p)).state

-- Demand 3, first half: after the get f and then the gets rs, the cancel of f's task answers 0, leaves what the gets rs alone leave, and wakes that
-- task with -49 and then those whom the gets alone grant; and the same gets are refused.
pub record NoTrace {S : Type 0} (step : Call → S → Reply S) (s : S) (f : Request) (rs : List Request) : Type 0 where
  pub cancelled : step (cancel f.task) (after step (step (get f) s).state (gets rs))
      ≡ record { said = says e_ok no_offset (leaves e_rlwai f.task ∷ winners (run step s (gets rs))); state = after step s (gets rs) }
  pub refused : refusals (run step (step (get f) s).state (gets rs)) ≡ refusals (run step s (gets rs))

-- Demand 3, second half: the release of the offset that the get r answered, on what that get left.
abbrev pub undo : {S : Type 0} → (Call → S → Reply S) → S → Request → Reply S
undo step s r = step (release (step (get r) s).said.offset) (step (get r) s).state

-- It answers 0 and wakes nobody, and the block list and the queue of p are back.
pub record Undone (p : Stored) (a : Reply Stored) : Type 0 where
  pub said : a.said ≡ says e_ok no_offset []
  pub blocks : blocks_of a.state.bytes ≡ blocks_of p.bytes
  pub queue : a.state.queue ≡ p.queue

-- Timeouts: a get of the task t with a limit of n ticks was told to wait and left the state s, and the calls cs follow. With at most n ticks among
-- them none wakes it, and it still waits; with more, its wait has ended with -50. After n, it is the next tick that wakes it, and it waits no more.
pub record Timeout {S : Type 0} (step : Call → S → Reply S) (entries : S → List Entry) (s : S) (t n : ℕ) (cs : List Call) : Type 0 where
  pub ends : end_code t (run step s cs) ≡ cond (leb (ticks cs) n) none (some e_tmout)
  pub waiting : ticks cs ≤ n → waits t (entries (after step s cs)) ≡ true
  pub woken : ticks cs ≡ n → wake_code t (step tick (after step s cs)).said.woken ≡ some e_tmout
  pub gone : ticks cs ≡ n → waits t (entries (step tick (after step s cs)).state) ≡ false

-- The same of a get without a limit: none of the calls wakes it, and it still waits.
pub record Untimed {S : Type 0} (step : Call → S → Reply S) (entries : S → List Entry) (s : S) (t : ℕ) (cs : List Call) : Type 0 where
  pub ends : end_code t (run step s cs) ≡ none
  pub waiting : waits t (entries (after step s cs)) ≡ true

-- Nobody is passed: the task t waits in the state s. A request r that is made there is not granted at once; and if it is told to wait, then in whatever
-- calls follow, its wait does not end with a block before that of t has ended.
pub record StaysBehind {S : Type 0} (step : Call → S → Reply S) (s : S) (t : ℕ) (r : Request) (cs : List Call) : Type 0 where
  pub not_at_once : (step (get r) s).said.code ≡ e_ok → ⊥
  pub not_before : (step (get r) s).said.code ≡ waiting → served_before r.task t (wakings (run step (step (get r) s).state cs)) ≡ false

-- The wait bound: one of the calls cs, made from the state s, ends the wait of the task t. None before it wakes the task, and fewer than n of those are
-- successful releases: the wait ends at the latest in the n-th. If it is neither cancelled nor timed out, the task is served.
pub record EndsWithin {S : Type 0} (step : Call → S → Reply S) (s : S) (t n : ℕ) (cs : List Call) : Type 0 where
  pub before : List Call
  pub call : Call
  pub rest : List Call
  pub is : cs ≡ before ++ (call ∷ rest)
  pub waiting : end_code t (run step s before) ≡ none
  pub soon : releases (run step s before) < n
  pub code : ℤ
  pub woken : wake_code t (step call (after step s before)).said.woken ≡ some code
  pub served : (code ≡ e_rlwai → ⊥) → (code ≡ e_tmout → ⊥) → code ≡ e_ok

-- It takes exactly n: calls that do not wake the task t, n - 1 of them successful releases, and then a release that wakes it with code 0.
pub record ServedAt {S : Type 0} (step : Call → S → Reply S) (s : S) (t n : ℕ) : Type 0 where
  pub before : List Call
  pub last : BlockOffset
  pub count : releases (run step s before) + 1 ≡ n
  pub waiting : end_code t (run step s before) ≡ none
  pub woken : wake_code t (step (release last) (after step s before)).said.woken ≡ some e_ok

-- The bound is reached from a sound state of a pool without choices with so many live blocks and a task at the place k of the queue.
pub record Reached (live k : ℕ) : Type 0 where
  pub from : Stored
  pub task : ℕ
  pub made : from.queue.attributes ≡ defaults
  pub good : is_sound rules from ≡ true
  pub count : live_count (blocks_of from.bytes) ≡ live
  pub waiting : waits task (waiters from) ≡ true
  pub place : place_in task (waiters from) ≡ k
  pub served : ServedAt (perform rules) from task (wait_bound from task)

-- a block of the list, with its header at the place a, has the byte i among its bytes
pub record HolderOf (i : ℕ) (bs : List Block) (a : ℕ) : Type 0 where
  pub pre : List Block
  pub b : Block
  pub post : List Block
  pub is : bs ≡ pre ++ (b ∷ post)
  pub place : a ≡ total pre
  pub from : a ≤ i
  pub to : i < a + b.size

-- and no block at another place has
pub record OneHolder (i : ℕ) (bs : List Block) (a : ℕ) : Type 0 where
  pub holds : HolderOf i bs a
  pub only : (x : ℕ) → HolderOf i bs x → x ≡ a
