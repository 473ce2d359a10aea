-- `put_around` meets its contract: one write after another.
use Rattle.std.proofs.Common.{arith}
use Rattle.output.proofs.Puts.{puts-append, puts_room}
use Rattle.text.proofs.Decimal.{length_word}
use Rattle.text.proofs.put_around.Goals as goal

pub put_decimal-requires : goal.put_decimal-requires
put_decimal-requires c = puts_room _ c.put.ensures (omega (arith, length_word c.args.n c.ranges.n.fits, c.requires))

pub put-requires-2 : goal.put-requires-2
put-requires-2 c =
    puts_room _ c.put_decimal.ensures (puts_room _ c.put.ensures (omega (arith, length_word c.args.n c.ranges.n.fits, c.requires)))

pub returns : goal.returns
returns c = puts-append c.put.ensures (puts-append c.put_decimal.ensures c.put-2.ensures)
