-- `pool::release` meets its contract.
use Rattle.std.proofs.Common.{arith}
use Rattle.model.specs.Calls as calls
use Rattle.model.specs.Pool.{result_of}
use Rattle.pool.proofs.Changing.{denied, greatest-small, releasable, release_ready, release_done}
use Rattle.pool.proofs.release.Goals as goal

pub returns-in-Err : goal.returns-in-Err
returns-in-Err c = rw c.deny.ensures (denied (calls.release c.args.offset) c.args.pool.now c.args.queue c.in-Err.error c.in-Err.ensures)

-- ---- the block becomes free, and the queue is served

pub release_at-run-requires : goal.release_at-run-requires
release_at-run-requires c = releasable c.args.pool.now c.args.queue c.args.offset c.in-Ok.passed.0 c.in-Ok.passed.1 c.in-Ok.ensures

pub overflow_add-greatest : goal.overflow_add-greatest
overflow_add-greatest c = omega (arith, greatest-small c.args.pool.now c.args.queue c.in-Ok.passed.1 c.in-Ok.ensures.state c.in-Ok.ensures.greatest)

pub serve-requires : goal.serve-requires
serve-requires c =
    release_ready c.args.pool.now c.args.queue c.args.offset c.in-Ok.passed.0 c.in-Ok.passed.1 c.in-Ok.ensures c.release_at-run.new.s c.release_at-run.result c.release_at-run.ensures c.max-most.result c.max-most.ensures

pub returns : goal.returns
returns c =
    release_done c.args.pool.now c.args.queue c.args.offset c.in-Ok.passed.0 c.in-Ok.passed.1 c.in-Ok.ensures c.release_at-run.new.s c.release_at-run.result c.release_at-run.ensures
    (result_of c.serve.result c.serve.new.pool) c.nobody-woken.result c.nobody-woken.ensures c.serve.ensures
