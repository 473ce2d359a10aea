use Rattle.std.proofs.Common.{length, arith, sym, ap, ◌∙◌, append-nil, length-append}
use borrow.Author.Tests.{eq-eqb, ne_eqb}
use Rattle.numbers.specs.Number.{encode}
use Rattle.numbers.proofs.Theorems.{encode-length}
use Rattle.call_log.specs.Log.{order_mark}
use Rattle.call_log.proofs.Starts.{mark_one}
use Rattle.log_writer.proofs.start_length.Goals as goal

pub returns-then-order-eq-PRIORITY_ORDER : goal.returns-then-order-eq-PRIORITY_ORDER
returns-then-order-eq-PRIORITY_ORDER c =
    let n = c.args.n in
    let few = encode-length n c.ranges.n.fits in
    let a = c.number_length-length.ensures in
    let b = c.number_length.ensures in
    record {
      bytes = rw (eq-eqb _ _ c.if-order-eq-PRIORITY_ORDER.true) (omega (arith, a, b, length-append (encode n) (encode order_mark)));
      few = omega (arith, a, b, few, mark_one);
    }

pub overflow_add-result : goal.overflow_add-result
overflow_add-result c = omega (arith, (returns-then-order-eq-PRIORITY_ORDER c).few)

pub returns : goal.returns
returns c =
    let n = c.args.n in
    let a = c.number_length-length.ensures in
    record {
      bytes = rw (ne_eqb _ _ c.if-order-eq-PRIORITY_ORDER.false) (a ∙ sym (ap length (append-nil (encode n))));
      few = omega (arith, a, encode-length n c.ranges.n.fits);
    }
