-- A slot that is refused, the loop's `Filling`, and the line of the arguments that are left to it.
use Rattle.std.proofs.Common.{◌∙◌, sym}
use Rattle.std.proofs.lemmas.Result.{err_from_is_err_and}
use Rattle.log_line.proofs.Filling.{filling_refused, filling_more, filling_bounded, filling_done}
use Rattle.log_line.proofs.read_slots.Goals as goal

pub returns-in_err-argument : goal.returns-in_err-argument
returns-in_err-argument c =
    let here = rw c.form-slot-items.ensures at c.loop-i-test.true in
    let read = rw c.form-slot-items.ensures at c.in_err-argument.ensures in
    let p = err_from_is_err_and c.from_residual.result c.from_residual.ensures.1 in
    rw (p.1, p.2) (filling_refused c.loop-i.invariant here (sym read))

pub loop-i-preserved : goal.loop-i-preserved
loop-i-preserved c =
    let here = rw c.form-slot-items.ensures at c.loop-i-test.true in
    let read = rw c.form-slot-items.ensures at c.in_ok-argument.ensures in
    filling_more c.loop-i.invariant here _ _ (sym read)

pub finish-requires : goal.finish-requires
finish-requires c = filling_bounded c.loop-i.invariant (rw c.form-slot-items.ensures at c.loop-i-test.false)

pub returns : goal.returns
returns c = c.finish.ensures ∙ filling_done c.loop-i.invariant (rw c.form-slot-items.ensures at c.loop-i-test.false)
