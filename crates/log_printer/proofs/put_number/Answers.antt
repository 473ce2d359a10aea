-- `put_number` meets its contract: a space, then the digits.
use Rattle.output.proofs.Puts.{puts-append, puts_room}
use Rattle.log_printer.proofs.put_number.Goals as goal

pub put_decimal-requires : goal.put_decimal-requires
put_decimal-requires c = puts_room _ c.put_byte.ensures c.requires

pub returns : goal.returns
returns c = puts-append c.put_byte.ensures c.put_decimal.ensures
