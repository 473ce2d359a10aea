use Rattle.std.proofs.Common.{arith}
use Rattle.log_writer.proofs.Counting.{counting_next, counting_end}
use Rattle.log_writer.proofs.numbers_length.Goals as goal

pub loop-value-preserved : goal.loop-value-preserved
loop-value-preserved c =
    rw c.number_length-sum.ensures (counting_next c.loop-value.invariant c.loop-value-test.true (c.type_inv.values c.loop-value.value-index).fits)

pub overflow_add-sum : goal.overflow_add-sum
overflow_add-sum c = omega (arith, (loop-value-preserved c).few)

pub returns : goal.returns
returns c = counting_end c.loop-value.invariant c.loop-value-test.false
