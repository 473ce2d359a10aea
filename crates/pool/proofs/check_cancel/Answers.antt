-- `pool::check_cancel` meets its contract: each error is the refusal of a test.
use Rattle.std.proofs.Common.{◌≡◌, None, sym, ◌∙◌, length, arith}
use Rattle.std.proofs.lemmas.Result.{err_from_is_err_and}
use Rattle.model.specs.declared.errors.CallError.TheVariants as error
use Rattle.model.specs.Calls as calls
use Rattle.layout.specs.declared.Target.TheVariants as target
use Rattle.state.proofs.Inspecting.{told}
use Rattle.pool.proofs.Changing.{verdict_unsound, cancel-unknown, cancel-idle}
use Rattle.pool.proofs.check_cancel.Goals as goal

pub returns-in_err-seen : goal.returns-in_err-seen
returns-in_err-seen c =
    let a = c.args in
    let p = err_from_is_err_and c.from_residual.result c.from_residual.ensures.1 in
    rw (p.1, p.2) (verdict_unsound (calls.cancel a.task) a.pool.now a.queue.now target.Nothing c.in_err-seen.field-0.0 (sym c.in_err-seen.was ∙ c.inspect.ensures))

pub returns-then-not-is_task : goal.returns-then-not-is_task
returns-then-not-is_task c =
    let a = c.args in
    let t = told target.Nothing a.pool.now a.queue.now c.in_ok-seen.seen (sym c.in_ok-seen.was ∙ c.inspect.ensures) in
    cancel-unknown a.pool.now a.queue.now a.task t.state (sym (c.is_task.ensures a.queue.now.attributes (length a.pool.now)) ∙ c.if-not-is_task.true)

pub returns-in_err-place : goal.returns-in_err-place
returns-in_err-place c =
    let a = c.args in
    let t = told target.Nothing a.pool.now a.queue.now c.in_ok-seen.seen (sym c.in_ok-seen.was ∙ c.inspect.ensures) in
    let p = err_from_is_err_and c.from_residual-in_err-place.result c.from_residual-in_err-place.ensures.1 in
    let n : c.find.result ≡ None = grind arith in
    let e : c.in_err-place.field-0.0 ≡ error.NotWaiting = grind arith in
    rw (p.1, p.2, e) (cancel-idle a.pool.now a.queue.now a.task t.state (sym (c.is_task.ensures a.queue.now.attributes (length a.pool.now)) ∙ c.if-not-is_task.false) (sym n ∙ c.find.ensures))
