-- `pool::check_get` meets its contract: each error is the refusal of a test.
use Rattle.std.proofs.Common.{ℤ, sym, ap, ◌∙◌, w32}
use Rattle.std.proofs.lemmas.Int.{to_z-of_z}
use Rattle.std.proofs.lemmas.Result.{err_from_is_err_and}
use Rattle.model.specs.Calls as calls
use Rattle.layout.specs.declared.Target.TheVariants as target
use Rattle.model.specs.Places.{entries_of}
use Rattle.state.specs.State.{rules_in}
use Rattle.state.proofs.Inspecting.{told}
use Rattle.request.specs.Request.{request, asked, judged}
use Rattle.request.proofs.Judging.{get_refused}
use Rattle.pool.proofs.Changing.{verdict_unsound, verdict_test}
use Rattle.pool.proofs.check_get.Goals as goal

pub returns-in_err-seen : goal.returns-in_err-seen
returns-in_err-seen c =
    let a = c.args in
    let p = err_from_is_err_and c.from_residual.result c.from_residual.ensures.1 in
    rw (p.1, p.2) (verdict_unsound (calls.get (request a.task a.size a.limit a.priority)) a.pool.now a.queue.now (target.Run c.need-need.result) c.in_err-seen.field-0.0 (sym c.in_err-seen.was ∙ c.inspect.ensures))

pub returns-in_err-wait : goal.returns-in_err-wait
returns-in_err-wait c =
    let a = c.args in
    let t = told (target.Run c.need-need.result) a.pool.now a.queue.now c.in_ok-seen.seen (sym c.in_ok-seen.was ∙ c.inspect.ensures) in
    let p = err_from_is_err_and c.from_residual-in_err-wait.result c.from_residual-in_err-wait.ensures.1 in
    rw (p.1, p.2) (verdict_test (calls.get (request a.task a.size a.limit a.priority)) a.pool.now a.queue.now _ t.state (get_refused a.pool.now a.queue.now a.task a.size a.limit a.priority c.in_err-wait.field-0.0 (sym c.in_err-wait.was ∙ c.judge.ensures ∙ ap (λ (z : ℤ). judged (asked (rules_in a.pool.now a.queue.now) (request a.task a.size z a.priority) (entries_of a.queue.now)) z) (to_z-of_z w32 a.limit c.ranges.limit))))
