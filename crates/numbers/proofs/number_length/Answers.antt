use Rattle.std.proofs.Common.{arith}
use Rattle.numbers.proofs.Theorems.{encode-length}
use Rattle.numbers.proofs.Writing.{length_last, length_more}
use Rattle.numbers.proofs.number_length.Goals as goal

pub overflow_add-count : goal.overflow_add-count
overflow_add-count c = omega (arith, encode-length c.args.v (omega arith))

pub loop-n-preserved : goal.loop-n-preserved
loop-n-preserved c = omega (arith, length_more c.loop-n.n c.loop-n-test.true)

pub returns : goal.returns
returns c = omega (arith, length_last c.loop-n.n c.loop-n-test.false)
