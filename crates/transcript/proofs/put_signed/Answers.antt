-- `put_signed` has room for its digits: an i32 has at most 10. Assumes nothing.
use Rattle.std.proofs.Common.{arith}
use Rattle.output.proofs.Puts.{puts_room}
use Rattle.text.proofs.Decimal.{length_half}
use Rattle.transcript.proofs.put_signed.Goals as goal

pub put_decimal-requires : goal.put_decimal-requires
put_decimal-requires c = puts_room _ c.put_byte.ensures (omega (arith, length_half c.unsigned_abs-digits.result (omega arith), c.requires))

pub put_decimal-requires-2 : goal.put_decimal-requires-2
put_decimal-requires-2 c = omega (arith, length_half c.unsigned_abs-digits.result (omega arith), c.requires)
