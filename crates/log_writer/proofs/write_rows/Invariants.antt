-- The rows that are left to write.
use Rattle.std.proofs.Common.{◌-◌, length}
use Rattle.output.proofs.Puts.{Putting}
use Rattle.log_writer.specs.Writer.{lent}
use Rattle.log_writer.specs.Steps.{rows_bytes}
use Rattle.log_writer.proofs.write_rows.Given as goal

abbrev pub invariant-loop-i : goal.invariant-loop-i
invariant-loop-i l =
    let c = lent l.columns in
    Putting l.initial.out (rows_bytes c 0 (length c.kinds)) l.out (rows_bytes c l.i (length c.kinds - l.i))
