use Rattle.std.proofs.Common.{rules}
use Rattle.call_log.specs.Record.{limit_field}
use Rattle.call_log.proofs.limit_field.Goals as goal

pub returns : goal.returns
unfolding limit_field
returns c = search rules
