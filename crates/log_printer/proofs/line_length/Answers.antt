-- `line_length` meets its contract: what is written in a space of the longest line.
use Rattle.std.proofs.Common.{arith}
use Rattle.output.proofs.Puts.{holds_room, puts-size}
use Rattle.log_printer.proofs.line_length.Goals as goal

pub put_line-requires : goal.put_line-requires
put_line-requires c = holds_room _ c.new-out.ensures.empty (omega (arith, c.requires))

pub returns : goal.returns
returns c = puts-size c.put_line.ensures c.new-out.ensures.empty
