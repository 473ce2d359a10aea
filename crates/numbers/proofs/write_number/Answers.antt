-- `write_number` meets its contract: byte by byte, where all of them fit.
use Rattle.std.proofs.Common.{arith, [], ◌∷◌, ◌/◌, ◌%◌, ◌+◌}
use Rattle.numbers.specs.Number.{encode}
use Rattle.output.proofs.Wrote.{fitted-all}
use Rattle.output.proofs.Puts.{puts_none, putting_start, putting_room}
use Rattle.numbers.proofs.Encode.{encode-last, encode-more}
use Rattle.numbers.proofs.Theorems.{encode-length}
use Rattle.numbers.proofs.Writing.{putting_more, putting_last}
use Rattle.numbers.proofs.write_number.Goals as goal

pub returns-then-is_short : goal.returns-then-is_short
returns-then-is_short c = puts_none _ _ (omega arith)

pub loop-n-init : goal.loop-n-init
loop-n-init c = putting_start _ _ (omega (arith, (encode-length c.args.v c.ranges.v.fits).0))

pub put_byte-requires : goal.put_byte-requires
put_byte-requires c = putting_room c.loop-n.invariant ((c.loop-n.n % 128 + 128) ∷ []) (encode (c.loop-n.n / 128)) (encode-more c.loop-n.n c.loop-n-test.true)

pub loop-n-preserved : goal.loop-n-preserved
loop-n-preserved c = putting_more c.loop-n.invariant c.loop-n-test.true c.put_byte.ensures

pub put_byte-requires-2 : goal.put_byte-requires-2
put_byte-requires-2 c = putting_room c.loop-n.invariant (c.loop-n.n ∷ []) [] (encode-last c.loop-n.n c.loop-n-test.false)

pub returns : goal.returns
returns c =
    rw (fitted-all _ _ _ c.loop-n.invariant.writing.fits) (putting_last c.loop-n.invariant c.loop-n-test.false c.put_byte-2.ensures)
