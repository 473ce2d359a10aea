-- `pool::check_release` meets its contract: each error is the refusal of a test.
use Rattle.std.proofs.Common.{◌≡◌, None, sym, ◌∙◌, arith}
use Rattle.std.proofs.lemmas.Result.{err_from_is_err_and}
use Rattle.model.specs.declared.errors.Misplaced.TheVariants.{OutOfRange}
use Rattle.model.specs.declared.errors.CallError.TheVariants as error
use Rattle.model.specs.Calls as calls
use Rattle.model.specs.Errors.{refusal_of}
use Rattle.layout.specs.declared.Target.TheVariants as target
use Rattle.state.proofs.Inspecting.{told}
use Rattle.pool.proofs.Changing.{verdict_unsound, reason_nowhere, release-refused}
use Rattle.pool.proofs.check_release.Goals as goal

pub returns-in_err-seen : goal.returns-in_err-seen
returns-in_err-seen c =
    let a = c.args in
    let p = err_from_is_err_and c.from_residual.result c.from_residual.ensures.1 in
    rw (p.1, p.2) (verdict_unsound (calls.release a.offset) a.pool.now a.queue.now (target.Holder a.offset) c.in_err-seen.field-0.0 (sym c.in_err-seen.was ∙ c.inspect.ensures))

pub returns-in_err-spot : goal.returns-in_err-spot
returns-in_err-spot c =
    let a = c.args in
    let t = told (target.Holder a.offset) a.pool.now a.queue.now c.in_ok-seen.seen (sym c.in_ok-seen.was ∙ c.inspect.ensures) in
    let p = err_from_is_err_and c.from_residual-in_err-spot.result c.from_residual-in_err-spot.ensures.1 in
    let n : c.in_ok-seen.seen.found ≡ None = grind arith in
    let e : c.in_err-spot.field-0.0 ≡ OutOfRange = grind arith in
    rw (p.1, p.2, e) (release-refused a.offset a.pool.now a.queue.now (refusal_of (error.Misplaced OutOfRange)) t.state (reason_nowhere a.pool.now a.offset t.parts.pool (sym t.found ∙ n)))

pub returns-in_err-check_offset : goal.returns-in_err-check_offset
returns-in_err-check_offset c =
    let a = c.args in
    let t = told (target.Holder a.offset) a.pool.now a.queue.now c.in_ok-seen.seen (sym c.in_ok-seen.was ∙ c.inspect.ensures) in
    let p = err_from_is_err_and c.from_residual-in_err-check_offset.result c.from_residual-in_err-check_offset.ensures.1 in
    rw (p.1, p.2) (release-refused a.offset a.pool.now a.queue.now _ t.state (sym (rw c.in_err-check_offset.was at c.check_offset.ensures)))
