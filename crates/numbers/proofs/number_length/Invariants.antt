-- The bytes counted and those left make up the length.
use Rattle.std.proofs.Common.{◌+◌, ◌≡◌, length}
use Rattle.numbers.specs.Number.{encode}
use Rattle.numbers.proofs.number_length.Given as goal

abbrev pub invariant-loop-n : goal.invariant-loop-n
invariant-loop-n l = l.count + length (encode l.n) ≡ length (encode l.v) + 1

abbrev pub decreases-loop-n : goal.decreases-loop-n
decreases-loop-n l = l.n
