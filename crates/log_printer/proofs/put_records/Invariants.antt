-- The loop keeps `Putting`, the text that is left to write.
use Rattle.std.proofs.Common.{length, ◌-◌}
use Rattle.log_printer.proofs.Putting.{Putting}
use Rattle.log_printer.proofs.put_records.Given as goal

abbrev pub invariant-loop-taken : goal.invariant-loop-taken
invariant-loop-taken l = Putting l.log l.place l.initial.out l.out l.next

abbrev pub decreases-loop-taken : goal.decreases-loop-taken
decreases-loop-taken l = length l.log - l.next
