-- `put_records` meets its contract.
use Rattle.std.proofs.Common.{arith, sym, ◌∙◌, ◌≡◌, Ok, Some, None, rules}
use Rattle.call_log.proofs.Reading.{suffix}
use Rattle.call_log.proofs.Theorems.{record-length}
use Rattle.log_printer.proofs.Putting.{putting_start, putting_ok, putting_end, putting_fits, putting_next}
use Rattle.log_printer.proofs.put_records.Goals as goal

pub loop-taken-init : goal.loop-taken-init
loop-taken-init c = putting_start c.requires

pub unwrap-requires : goal.unwrap-requires
unwrap-requires c = rw (rw suffix at c.read_record.ensures) (putting_ok c.loop-taken.invariant)

pub put_line-requires : goal.put_line-requires
put_line-requires c =
    let read : c.read_record.result ≡ Ok (Some c.in-Some.taken) = search rules in
    rw c.parts_of.ensures (putting_fits c.loop-taken.invariant _ _ (sym (rw suffix at c.read_record.ensures) ∙ read))

pub loop-taken-preserved : goal.loop-taken-preserved
loop-taken-preserved c =
    let read : c.read_record.result ≡ Ok (Some c.in-Some.taken) = search rules in
    putting_next c.loop-taken.invariant _ _ (sym (rw suffix at c.read_record.ensures) ∙ read) (rw c.parts_of.ensures at c.put_line.ensures)

pub overflow_add-next : goal.overflow_add-next
overflow_add-next c = omega (arith, (loop-taken-preserved c).inside)

pub loop-taken-smaller : goal.loop-taken-smaller
loop-taken-smaller c =
    let read : c.read_record.result ≡ Ok (Some c.in-Some.taken) = search rules in
    omega (arith, (record-length _ _ _ (sym (rw suffix at c.read_record.ensures) ∙ read)).0, (loop-taken-preserved c).inside)

pub returns : goal.returns
returns c =
    let read : c.read_record.result ≡ Ok None = search rules in
    putting_end c.loop-taken.invariant (sym (rw suffix at c.read_record.ensures) ∙ read)
