-- `refused_line` meets its contract: the number, then the reason, at most 51 bytes.
use Rattle.std.proofs.Common.{arith, length-append}
use Rattle.output.proofs.Puts.{puts-append, puts_room}
use Rattle.text.proofs.Decimal.{length_word}
use Rattle.log_parser.proofs.Responding.{why_short, line-parts}
use Rattle.log_parser.proofs.response.refused_line.Goals as goal

pub put_why-requires : goal.put_why-requires
put_why-requires c =
    let number = length_word c.args.number c.ranges.number.fits in
    puts_room _ c.put_around.ensures (simp length-append (omega (arith, number, why_short c.args.why, c.requires)))

pub returns : goal.returns
returns c =
    let number = length_word c.args.number c.ranges.number.fits in
    let line = rw (line-parts c.args.number c.args.why) at (puts-append c.put_around.ensures c.put_why.ensures) in
    (line, omega (arith, simp length-append at line.wrote.place, number, why_short c.args.why))
