-- `pool::inquire` meets its contract.
use Rattle.std.proofs.Common.{◌≡◌, sym, ap, ◌∙◌}
use Rattle.model.specs.declared.errors.CallError.{CallError}
use Rattle.model.specs.Limits.{e_sys}
use Rattle.model.specs.Errors.{refusal_of}
use Rattle.layout.specs.declared.Target.TheVariants as target
use Rattle.state.proofs.Inspecting.{told, unsound}
use Rattle.pool.proofs.Changing.{inquire_unsound, inquire_done}
use Rattle.pool.proofs.inquire.Goals as goal

pub returns-in-Ok : goal.returns-in-Ok
returns-in-Ok c =
    rw c.from.ensures (inquire_done c.args.pool.now c.args.queue c.in-Ok.seen (told target.Nothing c.args.pool.now c.args.queue c.in-Ok.seen (sym c.in-Ok.is ∙ c.inspect.ensures)))

pub returns-in-Err : goal.returns-in-Err
returns-in-Err c =
    let u = unsound target.Nothing c.args.pool.now c.args.queue c.in-Err.error (sym c.in-Err.is ∙ c.inspect.ensures) in
    let e : c.code.result ≡ e_sys = c.code.ensures ∙ ap (λ (x : CallError). (refusal_of x).code) u.is in
    rw e (inquire_unsound c.args.pool.now c.args.queue u.state)
