-- `pool::tick` meets its contract.
use Rattle.std.proofs.Common.{◌+◌, sym, ◌∙◌, arith, rules, refl}
use Rattle.model.specs.Calls as calls
use Rattle.model.specs.Pool.{result_of}
use Rattle.layout.specs.declared.Target.TheVariants as target
use Rattle.state.proofs.Inspecting.{told, told-small}
use Rattle.pool.proofs.Changing.{denied, verdict_unsound, tick_ready, tick_done, tick_none}
use Rattle.pool.proofs.tick.Goals as goal

pub returns-in-Err : goal.returns-in-Err
returns-in-Err c =
    rw c.deny.ensures (denied calls.tick c.args.pool.now c.args.queue c.in-Err.error (verdict_unsound calls.tick c.args.pool.now c.args.queue target.Nothing c.in-Err.error (sym c.in-Err.is ∙ c.inspect.ensures)))

-- nobody leaves
pub returns-then-nobody_left : goal.returns-then-nobody_left
returns-then-nobody_left c =
    rw c.answer.ensures (tick_none c.args.pool.now c.args.queue c.in-Ok.seen (told target.Nothing c.args.pool.now c.args.queue c.in-Ok.seen (sym c.in-Ok.is ∙ c.inspect.ensures))
    c.tick-count.result c.tick-count.ensures c.if-nobody_left.true (search rules))

pub overflow_add-most : goal.overflow_add-most
overflow_add-most c =
    omega (arith, told-small target.Nothing c.args.pool.now c.args.queue c.in-Ok.seen (told target.Nothing c.args.pool.now c.args.queue c.in-Ok.seen (sym c.in-Ok.is ∙ c.inspect.ensures)))

pub serve-requires : goal.serve-requires
serve-requires c =
    tick_ready c.args.pool.now c.args.queue c.in-Ok.seen (told target.Nothing c.args.pool.now c.args.queue c.in-Ok.seen (sym c.in-Ok.is ∙ c.inspect.ensures))
    c.tick-count.result c.tick-count.ensures (c.in-Ok.seen.greatest + 8) refl

pub returns : goal.returns
returns c =
    tick_done c.args.pool.now c.args.queue c.in-Ok.seen (told target.Nothing c.args.pool.now c.args.queue c.in-Ok.seen (sym c.in-Ok.is ∙ c.inspect.ensures))
    c.tick-count.result c.tick-count.ensures (result_of c.serve.result c.serve.new.pool) c.serve.ensures
