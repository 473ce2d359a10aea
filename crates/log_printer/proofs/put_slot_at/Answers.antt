-- `put_slot_at` meets its contract: a slot, or none.
use Rattle.std.proofs.Common.{rules, ◌≡◌, ◌<◌, ◌≤◌, length, get_or}
use Rattle.output.proofs.Puts.{puts_nothing}
use Rattle.log_printer.proofs.Lines.{slot_inside, slot_behind}
use Rattle.log_printer.proofs.put_slot_at.Goals as goal

pub put_slot-requires : goal.put_slot-requires
put_slot-requires c =
    let inside : c.args.i < length c.args.form.now = search rules in
    let slot : c.in-Some.slot.now ≡ get_or c.args.form.now c.args.i c.in-Some.slot.now = search rules in
    rw slot (rw (slot_inside c.args.form.now c.args.argument c.args.i c.in-Some.slot.now inside) at c.requires)

pub returns-in-Some : goal.returns-in-Some
returns-in-Some c =
    let inside : c.args.i < length c.args.form.now = search rules in
    let slot : c.in-Some.slot.now ≡ get_or c.args.form.now c.args.i c.in-Some.slot.now = search rules in
    rw (slot_inside c.args.form.now c.args.argument c.args.i c.in-Some.slot.now inside, ← slot) c.put_slot.ensures

pub returns-in_default : goal.returns-in_default
returns-in_default c =
    let behind : length c.args.form.now ≤ c.args.i = search rules in
    rw (slot_behind c.args.form.now c.args.argument c.args.i behind) (puts_nothing _)
