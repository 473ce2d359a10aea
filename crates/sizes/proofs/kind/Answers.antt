-- The table is that of the rule, by computation.
use Rattle.std.proofs.Common.{zero-add, rules}
use Rattle.model.specs.Sizes.{kinds_from}
use Rattle.model.proofs.Sizes.{kinds-at}
use Rattle.sizes.proofs.kind.Goals as goal

pub returns : goal.returns
unfolding kinds_from
returns c = rw (zero-add c.args.place) at (kinds-at 0 24 c.args.place (search rules))
