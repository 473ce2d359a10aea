-- `pool::get` meets its contract.
use Rattle.std.proofs.Common.{◌∙◌, w32, arith}
use Rattle.std.proofs.lemmas.Int.{to_z-of_z}
use Rattle.model.specs.Calls as calls
use Rattle.request.specs.Request.{request}
use Rattle.request.proofs.Judging.{fair_small}
use Rattle.pool.proofs.Changing.{denied, limit_polls, requested_fair, requested_admitted}
use Rattle.pool.proofs.get.Goals as goal

pub returns-in-Err : goal.returns-in-Err
returns-in-Err c =
    let a = c.args in
    rw c.deny.ensures (denied (calls.get (request a.task a.size a.limit a.priority)) a.pool.now a.queue c.in-Err.error (rw (to_z-of_z w32 a.limit c.ranges.limit) at c.in-Err.ensures))

-- the request has passed the tests

pub overflow_cast-e : goal.overflow_cast-e
overflow_cast-e c =
    let a = c.args in
    let f = requested_fair a.pool.now a.queue a.task a.size _ a.priority c.in-Ok.passed.0 c.in-Ok.passed.1 c.in-Ok.ensures 0 in
    omega (arith, (fair_small _ _ _ _ f).0)

pub overflow_cast-e-2 : goal.overflow_cast-e-2
overflow_cast-e-2 c =
    let a = c.args in
    let f = requested_fair a.pool.now a.queue a.task a.size _ a.priority c.in-Ok.passed.0 c.in-Ok.passed.1 c.in-Ok.ensures 0 in
    omega (arith, (fair_small _ _ _ _ f).1)

pub admit-requires : goal.admit-requires
admit-requires c =
    let a = c.args in
    requested_fair a.pool.now a.queue a.task a.size _ a.priority c.in-Ok.passed.0 c.in-Ok.passed.1 c.in-Ok.ensures c.time_of.result

pub returns : goal.returns
returns c =
    let a = c.args in
    c.admit.ensures ∙ requested_admitted a.pool.now a.queue a.task a.size a.limit a.priority c.in-Ok.passed.0 c.in-Ok.passed.1 (rw (to_z-of_z w32 a.limit c.ranges.limit) at c.in-Ok.ensures) _ c.time_of.result
    (limit_polls a.limit c.ranges.limit) c.time_of.ensures
