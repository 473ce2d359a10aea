use Rattle.std.proofs.Common.{sym, rules, arith, ◌∙◌}
use Rattle.numbers.proofs.Theorems.{number_five, number_within}
use Rattle.call_log.proofs.Reading.{suffix}
use Rattle.call_log.proofs.Starts.{start_bad, start_alone, start_other, start_marked}
use Rattle.call_log.proofs.read_start.Goals as goal

pub returns-in_err-length : goal.returns-in_err-length
returns-in_err-length c = c.from_residual.ensures ∙ start_bad _ (sym c.in_err-length.ensures)

pub slice_bounds-read_number-count : goal.slice_bounds-read_number-count
slice_bounds-read_number-count c = (number_within _ _ _ (sym c.in_ok-length.ensures)).1

pub slice_bounds-read_number-start : goal.slice_bounds-read_number-start
slice_bounds-read_number-start c = let i = slice_bounds-read_number-count c in search rules

pub overflow_add-order : goal.overflow_add-order
overflow_add-order c = omega (arith, number_five _ _ _ (sym c.in_ok-length.ensures), number_five _ _ _ (sym c.in-Some.ensures))

pub returns-in-Some : goal.returns-in-Some
returns-in-Some c =
    start_marked _ _ _ (sym c.in_ok-length.ensures) _ _ (sym (rw suffix at c.in-Some.ensures)) c.if-mark-eq-ORDER_MARK.true

pub returns-in_default : goal.returns-in_default
returns-in_default c =
    start_other _ _ _ (sym c.in_ok-length.ensures) _ _ (sym (rw suffix at c.in-Some.ensures)) c.if-mark-eq-ORDER_MARK.false

pub returns-in_default-2 : goal.returns-in_default-2
returns-in_default-2 c = start_alone _ _ _ (sym c.in_ok-length.ensures) (sym (rw suffix at c.in_default.ensures))
