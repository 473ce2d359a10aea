use Rattle.layout.proofs.Walking.{pass-live, pass-free}
use Rattle.layout.proofs.Seen.passed.Goals as goal

pub returns-then-header-ne0 : goal.returns-then-header-ne0
returns-then-header-ne0 c = pass-live c.args.self c.args.header.size c.args.header.owner c.if-header-ne0.true

pub returns : goal.returns
returns c = pass-free c.args.self c.args.header.size c.args.header.owner c.max.result c.if-header-ne0.false c.max.ensures
