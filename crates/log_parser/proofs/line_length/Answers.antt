-- `line_length` meets its contract: what is written in a space of the longest record.
use Rattle.std.proofs.Common.{arith}
use Rattle.output.proofs.Puts.{holds_room, puts-size}
use Rattle.log_parser.proofs.line_length.Goals as goal

pub write_line-requires : goal.write_line-requires
write_line-requires c = holds_room _ c.new-out.ensures.empty (omega (arith, c.requires))

pub returns : goal.returns
returns c = puts-size c.write_line.ensures c.new-out.ensures.empty
