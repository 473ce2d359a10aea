-- `measure` meets its contract.
use Rattle.std.proofs.Common.{arith, sym, ◌∙◌, ◌≡◌, Ok, Err, Some, None, rules}
use Rattle.call_log.proofs.Reading.{suffix}
use Rattle.call_log.proofs.Theorems.{record-length, record_expressible}
use Rattle.log_text.proofs.Widths.{record-short}
use Rattle.log_printer.proofs.Measuring.{measuring_start, measuring_end, measuring_bad, measuring_many, measuring_next}
use Rattle.log_printer.proofs.measure.Goals as goal

pub loop-read-init : goal.loop-read-init
loop-read-init c = measuring_start _ _ _ c.requires.0 c.requires.1

pub returns-in_default : goal.returns-in_default
returns-in_default c =
    let bad : c.read_record.result ≡ Err (record {}) = search rules in
    measuring_bad c.loop-read.invariant (sym (rw suffix at c.read_record.ensures) ∙ bad)

pub returns-in_default-read : goal.returns-in_default-read
returns-in_default-read c =
    let last : c.read_record.result ≡ Ok None = search rules in
    measuring_end c.loop-read.invariant (sym (rw suffix at c.read_record.ensures) ∙ last)

pub returns-then-count-ge-MOST_RECORDS : goal.returns-then-count-ge-MOST_RECORDS
returns-then-count-ge-MOST_RECORDS c =
    let read : c.read_record.result ≡ Ok (Some c.in-Some.taken) = search rules in
    measuring_many c.loop-read.invariant _ _ (sym (rw suffix at c.read_record.ensures) ∙ read) c.if-count-ge-MOST_RECORDS.true

pub line_length-length-requires : goal.line_length-length-requires
line_length-length-requires c =
    let read : c.read_record.result ≡ Ok (Some c.in-Some.taken) = search rules in
    rw c.parts_of.ensures (record-short _ (record_expressible _ _ _ (sym (rw suffix at c.read_record.ensures) ∙ read)))

pub loop-read-preserved : goal.loop-read-preserved
loop-read-preserved c =
    let read : c.read_record.result ≡ Ok (Some c.in-Some.taken) = search rules in
    measuring_next c.loop-read.invariant _ _ (sym (rw suffix at c.read_record.ensures) ∙ read) c.if-count-ge-MOST_RECORDS.false _
    (rw c.parts_of.ensures at c.line_length-length.ensures)

pub overflow_add-length : goal.overflow_add-length
overflow_add-length c =
    let read : c.read_record.result ≡ Ok (Some c.in-Some.taken) = search rules in
    let most = record-short _ (record_expressible _ _ _ (sym (rw suffix at c.read_record.ensures) ∙ read)) in
    omega (arith, rw c.parts_of.ensures at c.line_length-length.ensures, most, c.loop-read.invariant.short, c.if-count-ge-MOST_RECORDS.false)

pub overflow_add-at : goal.overflow_add-at
overflow_add-at c = omega (arith, (loop-read-preserved c).inside)

pub loop-read-smaller : goal.loop-read-smaller
loop-read-smaller c =
    let read : c.read_record.result ≡ Ok (Some c.in-Some.taken) = search rules in
    omega (arith, (record-length _ _ _ (sym (rw suffix at c.read_record.ensures) ∙ read)).0, (loop-read-preserved c).inside)
