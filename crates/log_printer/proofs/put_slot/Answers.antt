-- `put_slot` meets its contract, a case for each slot.
use Rattle.std.proofs.Common.{arith}
use Rattle.log_printer.proofs.Lines.{spaced_one}
use Rattle.log_printer.proofs.put_slot.Goals as goal

pub put_number-requires : goal.put_number-requires
put_number-requires c = omega (arith, rw (c.in-Number.is, spaced_one) at c.requires)

pub returns-in-Number : goal.returns-in-Number
returns-in-Number c = rw (c.in-Number.is, spaced_one) c.put_number.ensures
