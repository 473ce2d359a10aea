-- The measure is what is left of the log; what the loop keeps is `Playing`.
use Rattle.std.proofs.Common.{◌-◌, length}
use Rattle.stages.proofs.Playing.{Playing}
use Rattle.stages.proofs.play.Given as goal

abbrev pub invariant-loop-out : goal.invariant-loop-out
invariant-loop-out l = Playing l.log l.initial.rest l.initial.pool l.initial.out l.pool l.out l.rest

abbrev pub decreases-loop-out : goal.decreases-loop-out
decreases-loop-out l = length l.log - l.rest.at
