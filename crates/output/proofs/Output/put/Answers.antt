-- `put` meets its contract: one copy.
use Rattle.std.proofs.Common.{refl, arith}
use Rattle.output.proofs.Puts.{wrote_copy}
use Rattle.output.proofs.Output.put.Goals as goal

pub returns : goal.returns
returns c = record { same_reference = refl; wrote = wrote_copy _ c.copy_from_slice.ensures.after (omega arith) c.requires }
