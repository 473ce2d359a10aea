use Rattle.std.proofs.Common.{ℕ, [], ◌∷◌, sym, ap, ◌∙◌, arith, length-take}
use borrow.Author.Tests.{eqb-true, eqb-false}
use Rattle.call_log.specs.Record.{field_count, read_as}
use Rattle.call_log.proofs.Forms.{count-few}
use Rattle.call_log.proofs.Reading.{suffix, read_err, record_none, record-refused, reading_start, reading_refused, reading_more, reading_done}
use Rattle.call_log.proofs.read_record.Goals as goal

pub returns-then-is_empty : goal.returns-then-is_empty
returns-then-is_empty c = record_none _ (eqb-true _ _ (sym c.if-is_empty.ensures))

pub returns-in_err-number : goal.returns-in_err-number
returns-in_err-number c =
    read_err _ c.from_residual.ensures.0
    ∙ record-refused _ (eqb-false _ _ (sym c.if-is_empty.ensures)) (sym c.read_number.ensures ∙ c.in_err-number.ensures.ok_part)

pub loop-field-init : goal.loop-field-init
loop-field-init c =
    rw c.kind_of-kind.ensures
    (reading_start _ (eqb-false _ _ (sym c.if-is_empty.ensures)) _ _ _ (sym c.read_number.ensures ∙ c.in_ok-number.ensures.ok_part)
    (omega (arith, length-take {A = ℕ} c.field_count.result (0 ∷ 0 ∷ 0 ∷ 0 ∷ []), count-few c.kind_of-kind.result, ap field_count c.kind_of-kind.ensures)))

pub returns-in_err-number-2 : goal.returns-in_err-number-2
returns-in_err-number-2 c =
    read_err _ c.from_residual-in_err-number-2.ensures.0
    ∙ reading_refused c.loop-field.invariant (omega arith) (sym (rw suffix at c.read_number-in-loop-field.ensures) ∙ c.in_err-number-2.ensures.ok_part)

pub loop-field-preserved : goal.loop-field-preserved
loop-field-preserved c = reading_more c.loop-field.invariant _ _ (omega arith) (sym (rw suffix at c.read_number-in-loop-field.ensures) ∙ c.in_ok-number-2.ensures.ok_part)

pub overflow_add-size : goal.overflow_add-size
overflow_add-size c = omega (arith, (loop-field-preserved c).inside)

pub returns-in_err-record : goal.returns-in_err-record
returns-in_err-record c =
    read_err _ c.from_residual-in_err-record.ensures.0
    ∙ ap (read_as c.loop-field.size) (sym c.in_err-record.ensures.ok_part ∙ c.record_from.ensures)
    ∙ reading_done c.loop-field.invariant _ (omega arith)

pub returns : goal.returns
returns c = ap (read_as c.loop-field.size) (sym c.in_ok-record.ensures.ok_part ∙ c.record_from.ensures) ∙ reading_done c.loop-field.invariant _ (omega arith)
