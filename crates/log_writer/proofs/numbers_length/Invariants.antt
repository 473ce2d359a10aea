-- The bytes of the numbers passed.
use Rattle.log_writer.proofs.Counting.{Counting}
use Rattle.log_writer.proofs.numbers_length.Given as goal

abbrev pub invariant-loop-value : goal.invariant-loop-value
invariant-loop-value l = Counting l.values l.value-index l.sum
