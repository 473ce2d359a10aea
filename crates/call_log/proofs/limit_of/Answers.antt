use Rattle.std.proofs.Common.{arith}
use Rattle.std.proofs.lemmas.Grind.{common_steps}
use Rattle.call_log.specs.Record.{limit_of}
use Rattle.call_log.proofs.limit_of.Goals as goal

pub returns : goal.returns
unfolding limit_of
returns c = grind (arith, common_steps)
