-- What is left to write makes up what is to be written.
use Rattle.numbers.specs.Number.{encode}
use Rattle.output.proofs.Puts.{Putting}
use Rattle.numbers.proofs.write_number.Given as goal

abbrev pub invariant-loop-n : goal.invariant-loop-n
invariant-loop-n l = Putting l.initial.out (encode l.v) l.out (encode l.n)

abbrev pub decreases-loop-n : goal.decreases-loop-n
decreases-loop-n l = l.n
