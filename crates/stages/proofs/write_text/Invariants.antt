-- What is gathered lies within the buffer, and each stage that leaves something of the log has taken a record.
use Rattle.stages.proofs.Playing.{Gathered, left}
use Rattle.stages.proofs.write_text.Given as goal

abbrev pub invariant-loop-left : goal.invariant-loop-left
invariant-loop-left l = Gathered l.log l.out l.left

abbrev pub decreases-loop-left : goal.decreases-loop-left
decreases-loop-left l = left l.log l.left
