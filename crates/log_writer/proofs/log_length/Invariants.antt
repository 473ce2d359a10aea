-- The length up to the row.
use Rattle.log_writer.specs.Writer.{lent}
use Rattle.log_writer.proofs.Writing.{Measuring}
use Rattle.log_writer.proofs.log_length.Given as goal

abbrev pub invariant-loop-i : goal.invariant-loop-i
invariant-loop-i l = Measuring l.n l.order (lent l.columns) l.i l.length
