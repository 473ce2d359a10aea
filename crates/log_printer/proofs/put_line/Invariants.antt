-- The loop keeps `Putting`, the slots and the newline that are left to write.
use Rattle.output.proofs.Puts.{Putting}
use Rattle.log_printer.proofs.Lines.{left_from}
use Rattle.log_printer.proofs.put_line.Given as goal

abbrev pub invariant-loop-i : goal.invariant-loop-i
invariant-loop-i l =
    let parts = l.fn.parts in
    Putting l.initial.line (left_from parts.keyword parts.arguments 0) l.line (left_from parts.keyword parts.arguments l.i)
