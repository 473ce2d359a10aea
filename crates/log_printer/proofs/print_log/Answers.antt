-- `print_log` meets its contract: no start, refused, too long for the buffer, or written.
use Rattle.std.proofs.Common.{List, ℕ, ◌≡◌, ◌≤◌, length, sym, ◌∙◌, Some, None, Err, rules}
use Rattle.call_log.specs.declared.Start.{Start}
use Rattle.call_log.specs.Log.{start_of}
use Rattle.log_text.specs.declared.Parts.{Parts}
use Rattle.log_text.specs.Printing.{pool_parts, parts_text, longest_log}
use Rattle.log_printer.specs.declared.PrintError.TheVariants.{Bad}
use Rattle.log_printer.proofs.Printing.{Started, first_short, measure_requires, print_too_long, print_no_start, print-refused, print-measured, print-short, line_room, records_fit, print_done}
use Rattle.log_printer.proofs.print_log.Goals as goal

-- the start is read and the first line measured
started : {log : List ℕ} {head : Start} {first : ℕ} {p : Parts} → length log ≤ longest_log → start_of log ≡ Some head → p ≡ pool_parts head.length head.order
    → first ≡ length (parts_text p) → Started log head first
started short read line size = record { short = short; taken = read; line = size ∙ rw line }

pub returns-then-log-gt-LONGEST_LOG : goal.returns-then-log-gt-LONGEST_LOG
returns-then-log-gt-LONGEST_LOG c = print_too_long _ _ c.if-log-gt-LONGEST_LOG.true

pub returns-in_err-start : goal.returns-in_err-start
returns-in_err-start c =
    let e : c.from_residual.result ≡ Err (Bad 0) = search rules in
    let none : c.read_start.result ≡ None = search rules in
    rw e (print_no_start _ _ c.if-log-gt-LONGEST_LOG.false (sym c.read_start.ensures ∙ none))

pub line_length-requires : goal.line_length-requires
line_length-requires c =
    let some : c.read_start.result ≡ Some c.in_ok-start.start = search rules in
    rw c.pool_parts-first.ensures (first_short _ _ (sym c.read_start.ensures ∙ some))

pub measure-requires : goal.measure-requires
measure-requires c =
    let some : c.read_start.result ≡ Some c.in_ok-start.start = search rules in
    measure_requires (started c.if-log-gt-LONGEST_LOG.false (sym c.read_start.ensures ∙ some) c.pool_parts-first.ensures c.line_length.ensures)

pub returns-in_err-length : goal.returns-in_err-length
returns-in_err-length c =
    let some : c.read_start.result ≡ Some c.in_ok-start.start = search rules in
    let e : c.from_residual-in_err-length.result ≡ Err c.in_err-length.field-0.0 = search rules in
    let g = started c.if-log-gt-LONGEST_LOG.false (sym c.read_start.ensures ∙ some) c.pool_parts-first.ensures c.line_length.ensures in
    rw e (print-refused g _ c.in_err-length.ensures)

pub returns-then-buf-length : goal.returns-then-buf-length
returns-then-buf-length c =
    let some : c.read_start.result ≡ Some c.in_ok-start.start = search rules in
    let g = started c.if-log-gt-LONGEST_LOG.false (sym c.read_start.ensures ∙ some) c.pool_parts-first.ensures c.line_length.ensures in
    print-short g (print-measured g _ c.in_ok-length.ensures) _ c.if-buf-length.true

pub put_line-requires : goal.put_line-requires
put_line-requires c =
    let some : c.read_start.result ≡ Some c.in_ok-start.start = search rules in
    let g = started c.if-log-gt-LONGEST_LOG.false (sym c.read_start.ensures ∙ some) c.pool_parts-first.ensures c.line_length.ensures in
    rw c.pool_parts-first.ensures (line_room g (print-measured g _ c.in_ok-length.ensures) _ c.if-buf-length.false c.new-out.ensures.empty)

pub put_records-requires : goal.put_records-requires
put_records-requires c =
    let some : c.read_start.result ≡ Some c.in_ok-start.start = search rules in
    let g = started c.if-log-gt-LONGEST_LOG.false (sym c.read_start.ensures ∙ some) c.pool_parts-first.ensures c.line_length.ensures in
    records_fit g (print-measured g _ c.in_ok-length.ensures) _ c.if-buf-length.false c.new-out.ensures.empty (rw c.pool_parts-first.ensures at c.put_line.ensures)

pub returns : goal.returns
returns c =
    let some : c.read_start.result ≡ Some c.in_ok-start.start = search rules in
    let g = started c.if-log-gt-LONGEST_LOG.false (sym c.read_start.ensures ∙ some) c.pool_parts-first.ensures c.line_length.ensures in
    print_done g (print-measured g _ c.in_ok-length.ensures) _ c.if-buf-length.false c.new-out.ensures.empty (rw c.pool_parts-first.ensures at c.put_line.ensures)
    c.put_records.ensures (search rules)
