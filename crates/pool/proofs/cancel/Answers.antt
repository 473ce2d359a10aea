-- `pool::cancel` meets its contract.
use Rattle.std.proofs.Common.{List, set, arith, ap}
use Rattle.model.specs.Calls as calls
use Rattle.model.specs.declared.Woken.{Woken}
use Rattle.model.specs.Limits.{e_rlwai}
use Rattle.model.specs.Places.{pad}
use Rattle.model.specs.Pool.{result_of}
use Rattle.pool.proofs.Changing.{denied, greatest-small, cancel_room, cancel_ready, cancel_done}
use Rattle.pool.proofs.cancel.Goals as goal

pub returns-in-Err : goal.returns-in-Err
returns-in-Err c = rw c.deny.ensures (denied (calls.cancel c.args.task) c.args.pool.now c.args.queue c.in-Err.error c.in-Err.ensures)

-- ---- the entry leaves, and the queue is served

pub remove-entries-requires : goal.remove-entries-requires
remove-entries-requires c = cancel_room c.args.pool.now c.args.queue c.args.task c.in-Ok.passed.0 c.in-Ok.passed.1 c.in-Ok.ensures

pub overflow_add-greatest : goal.overflow_add-greatest
overflow_add-greatest c = omega (arith, greatest-small c.args.pool.now c.args.queue c.in-Ok.passed.1 c.in-Ok.ensures.state c.in-Ok.ensures.greatest)

pub serve-requires : goal.serve-requires
serve-requires c = cancel_ready c.args.pool.now c.args.queue c.args.task c.in-Ok.passed.0 c.in-Ok.passed.1 c.in-Ok.ensures c.remove-entries.result c.remove-entries.ensures

pub returns : goal.returns
unfolding pad
returns c =
    cancel_done c.args.pool.now c.args.queue c.args.task c.in-Ok.passed.0 c.in-Ok.passed.1 c.in-Ok.ensures c.remove-entries.result c.remove-entries.ensures
    (result_of c.serve.result c.serve.new.pool) _ (ap (λ (w : List Woken). set w 0 (calls.leaves e_rlwai c.args.task)) c.nobody-woken.ensures) c.serve.ensures
