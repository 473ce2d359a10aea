-- `pool::create` meets its contract.
use Rattle.std.proofs.Common.{length, arith, sym, ◌∙◌}
use Rattle.model.proofs.Rules.{rules_laws, rules-long}
use Rattle.pool.proofs.Changing.{create-refused, create_done}
use Rattle.pool.proofs.create.Goals as goal

pub returns-then-not-is_valid : goal.returns-then-not-is_valid
returns-then-not-is_valid c =
    rw c.deny.ensures (create-refused c.args.attributes c.args.pool.now c.empty.result c.empty.ensures (sym c.is_valid.ensures ∙ c.if-not-is_valid.true))

pub write_header-requires : goal.write_header-requires
write_header-requires c =
    let n = length c.args.pool.now in
    omega (arith, (rules_laws c.args.attributes n).long_least (sym c.is_valid.ensures ∙ c.if-not-is_valid.false), rules-long c.args.attributes n)

pub returns : goal.returns
returns c =
    rw c.refuse.ensures
    (create_done c.args.attributes c.args.pool.now c.empty-2.result c.empty-2.ensures (sym c.is_valid.ensures ∙ c.if-not-is_valid.false) c.write_header.new.s c.write_header.ensures)
