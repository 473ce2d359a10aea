-- The loop keeps `Filling`: the arguments taken so far.
use Rattle.log_line.proofs.Filling.{Filling}
use Rattle.log_line.proofs.read_slots.Given as goal

abbrev pub invariant-loop-i : goal.invariant-loop-i
invariant-loop-i l = Filling l.s l.from l.keyword l.arguments l.at l.i
