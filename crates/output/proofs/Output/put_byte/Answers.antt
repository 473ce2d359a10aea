-- `put_byte` meets its contract.
use Rattle.std.proofs.Common.{refl}
use Rattle.output.proofs.Wrote.{wrote-byte}
use Rattle.output.proofs.Output.put_byte.Goals as goal

pub returns : goal.returns
returns c = record { same_reference = refl; wrote = wrote-byte _ _ _ }
