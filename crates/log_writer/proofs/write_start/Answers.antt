use Rattle.std.proofs.Common.{[], ◌++◌, length, refl, sym, append-nil}
use borrow.Author.Tests.{eq-eqb, ne_eqb}
use Rattle.numbers.specs.Number.{encode}
use Rattle.output.specs.Puts.{Room}
use Rattle.output.proofs.Puts.{putting_start, putting_fitted, putting_end}
use Rattle.call_log.specs.Log.{order_mark}
use Rattle.log_writer.proofs.write_start.Goals as goal

pub returns-then-order-eq-PRIORITY_ORDER : goal.returns-then-order-eq-PRIORITY_ORDER
returns-then-order-eq-PRIORITY_ORDER c =
    let n = c.args.n in
    let p = eq-eqb _ _ c.if-order-eq-PRIORITY_ORDER.true in
    let fits : Room (length (encode n ++ encode order_mark)) c.args.out.now = rw p at c.requires in
    let first = putting_fitted (putting_start _ (encode n ++ encode order_mark) fits) (encode n) (encode order_mark) refl c.write_number.ensures in
    rw p (putting_end (putting_fitted first (encode order_mark) [] (sym (append-nil (encode order_mark))) c.write_number-then-order-eq-PRIORITY_ORDER.ensures) refl)

pub returns-else-order-eq-PRIORITY_ORDER : goal.returns-else-order-eq-PRIORITY_ORDER
returns-else-order-eq-PRIORITY_ORDER c =
    let n = c.args.n in
    let p = ne_eqb _ _ c.if-order-eq-PRIORITY_ORDER.false in
    let fits : Room (length (encode n ++ [])) c.args.out.now = rw p at c.requires in
    rw p (putting_end (putting_fitted (putting_start _ (encode n ++ []) fits) (encode n) [] refl c.write_number.ensures) refl)
