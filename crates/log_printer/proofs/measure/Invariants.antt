-- The loop keeps `Measuring`, the length up to the record.
use Rattle.std.proofs.Common.{length, ◌-◌}
use Rattle.log_printer.proofs.Measuring.{Measuring}
use Rattle.log_printer.proofs.measure.Given as goal

abbrev pub invariant-loop-read : goal.invariant-loop-read
invariant-loop-read l = Measuring l.log l.place l.first l.at l.count l.length

abbrev pub decreases-loop-read : goal.decreases-loop-read
decreases-loop-read l = length l.log - l.at
