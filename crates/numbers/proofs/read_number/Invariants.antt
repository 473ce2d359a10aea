-- The groups read so far stand in front of the rest.
use Rattle.std.proofs.Common.{◌+◌}
use Rattle.numbers.proofs.Reading.{Reading}
use Rattle.numbers.proofs.read_number.Given as goal

abbrev pub invariant-loop-i : goal.invariant-loop-i
invariant-loop-i l = Reading l.s l.value l.weight (l.i + 1)
