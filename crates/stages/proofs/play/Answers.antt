-- `stages::play` meets its contract: each turn of its loop keeps `Playing`. Assumes nothing.
use Rattle.std.proofs.Common.{arith, rules, sym}
use Rattle.call_log.proofs.Reading.{suffix}
use Rattle.call_log.proofs.Theorems.{record-length}
use Rattle.output.proofs.Wrote.{wrote-length}
use Rattle.player.proofs.Stepping.{read_taken}
use Rattle.stages.proofs.Playing.{playing_taken, playing_last}
use Rattle.stages.proofs.play.Goals as goal
use Rattle.stages.proofs.play.Goals.{in_default-via-in-Ok+in_default, in_default-via-in_default}

pub last-requires : goal.last-requires
last-requires c = omega (arith, wrote-length c.loop-out.invariant.text.wrote)

pub step-queue-requires : goal.step-queue-requires
step-queue-requires c = omega (arith, wrote-length c.loop-out.invariant.text.wrote)

pub returns-in_default : goal.returns-in_default
returns-in_default c =
    playing_last c.loop-out.invariant c.read_record-read.result (sym (rw suffix at c.read_record-read.ensures))
    (elim c.in_default.branch [ in_default-via-in-Ok+in_default w ↦ λ r n e. search rules | in_default-via-in_default w ↦ λ r n e. search rules ])
    c.last.ensures.0 c.last.ensures.1 (omega arith)

-- the record at the place, and the loop behind it
pub loop-out-preserved : goal.loop-out-preserved
loop-out-preserved c =
    let read = rw suffix at (read_taken _ c.read_record-read.ensures c.in-Ok-Some.is (rw c.in-Ok-Some.is at c.in-Ok-Some.field-0-is)) in
    playing_taken c.loop-out.invariant _ _ c.step-queue.result read c.step-queue.ensures (omega arith)

pub overflow_add-rest : goal.overflow_add-rest
overflow_add-rest c =
    let read = rw suffix at (read_taken _ c.read_record-read.ensures c.in-Ok-Some.is (rw c.in-Ok-Some.is at c.in-Ok-Some.field-0-is)) in
    omega (arith, record-length _ _ _ read, c.requires.short_log)

pub loop-out-smaller : goal.loop-out-smaller
loop-out-smaller c =
    let read = rw suffix at (read_taken _ c.read_record-read.ensures c.in-Ok-Some.is (rw c.in-Ok-Some.is at c.in-Ok-Some.field-0-is)) in
    omega (arith, (loop-out-preserved c).stage.place, record-length _ _ _ read)
