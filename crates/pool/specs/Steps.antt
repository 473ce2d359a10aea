-- The refusal that an answer tells, and the tests of the calls.
use Rattle.std.specs.Prelude.{ℕ, ◌≡◌, true, List, length, Result, Ok, Err}
use Rattle.std.specs.Prelude as std
use Rattle.std.proofs.Math.Option.{Option, none, some}
use Rattle.model.specs.declared.BlockOffset.{BlockOffset}
use Rattle.model.specs.declared.Queue.{Queue}
use Rattle.model.specs.declared.Answer.{Answer}
use Rattle.model.specs.declared.errors.Misplaced.{Misplaced}
use Rattle.model.specs.Blocks.{greatest_free}
use Rattle.model.specs.Bytes.{blocks_of}
use Rattle.model.specs.Rules.{ok_task, need_of, rules}
use Rattle.model.specs.Calls.{Request, Call, Refusal, blocks, misplaced, verdict}
use Rattle.model.specs.Errors.{misplaced_of}
use Rattle.model.specs.Places.{entries_of}
use Rattle.model.specs.Runs.{refusing}
use Rattle.model.specs.Pool.{stored, view, defaults, is_sound}
use Rattle.layout.specs.declared.Spot.{Spot}
use Rattle.layout.specs.declared.Target.TheVariants as target
use Rattle.layout.specs.Layout.{seek, sought}
use Rattle.queue.specs.declared.Limit.{Limit}
use Rattle.queue.specs.declared.Limit.TheVariants.{Poll, Left}
use Rattle.queue.specs.Entries.{found}
use Rattle.state.specs.State.{rules_in}
use Rattle.request.specs.Request.{asked, judged}

-- the refusal that an answer tells, if it is one
abbrev pub refused_in : Answer → Option Refusal
refused_in a = refusing (record { code = a.code; reason = a.reason; place = a.place })

-- why an offset is not that of a live block; the attributes do not matter
abbrev pub misplaced_in : BlockOffset → List ℕ → Option Refusal
misplaced_in o l = misplaced (rules defaults (length l)) (blocks (rules defaults (length l))) o (blocks_of l)

-- the refusal that a test of an offset tells, if there is one
abbrev pub told_by : Result Unit Misplaced → Option Refusal
told_by (Ok x) = none
told_by (Err why) = some (misplaced_of why)

-- how a call is refused, if it is
abbrev pub verdict_in : Call → List ℕ → Queue → Option Refusal
verdict_in c l q = verdict (rules_in l q) (blocks (rules_in l q)) (is_sound rules (stored l q)) c (view (stored l q))

-- the time left of an entry, 0 for a poll
abbrev pub time_of : Limit → ℕ
time_of Poll = 0
time_of (Left left) = left

-- a sound state, and a request that no test but the last refuses: the run found for it, and how long it may wait
pub record Requested (l : List ℕ) (q : Queue) (r : Request) (f : std.Option Spot) (w : Limit) : Type 0 where
  pub state : is_sound rules (stored l q) ≡ true
  pub run : f ≡ seek (sought (target.Run (need_of q.attributes r.size))) 0 0 (blocks_of l)
  pub wait : judged (asked (rules_in l q) r (entries_of q)) r.limit ≡ Ok w

-- a sound state, and the offset of a live block: that block, and the greatest free run
pub record Freeable (l : List ℕ) (q : Queue) (o : BlockOffset) (s : Spot) (g : ℕ) : Type 0 where
  pub state : is_sound rules (stored l q) ≡ true
  pub live : misplaced_in o l ≡ none
  pub found : seek (sought (target.Holder o)) 0 0 (blocks_of l) ≡ std.Some s
  pub greatest : g ≡ greatest_free (blocks_of l)

-- a sound state, and a task that waits: the place of its entry, and the greatest free run
pub record Cancellable (l : List ℕ) (q : Queue) (t i g : ℕ) : Type 0 where
  pub state : is_sound rules (stored l q) ≡ true
  pub task : ok_task (rules_in l q) t ≡ true
  pub place : std.Some i ≡ found t (entries_of q)
  pub greatest : g ≡ greatest_free (blocks_of l)
