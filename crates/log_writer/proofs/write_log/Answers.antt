use Rattle.std.proofs.Common.{rules, sym}
use Rattle.log_writer.proofs.Writing.{measured, write_short, start_room, rows_fit, write_done}
use Rattle.log_writer.proofs.write_log.Goals as goal

pub returns-then-buf-length : goal.returns-then-buf-length
returns-then-buf-length c =
    let log = measured _ _ _ _ (sym c.in_ok-length.ensures) in
    write_short log _ c.if-buf-length.true

pub write_start-requires : goal.write_start-requires
write_start-requires c =
    let log = measured _ _ _ _ (sym c.in_ok-length.ensures) in
    start_room log _ c.if-buf-length.false c.new-out.ensures.empty

pub write_rows-requires : goal.write_rows-requires
write_rows-requires c =
    let log = measured _ _ _ _ (sym c.in_ok-length.ensures) in
    let fit = rows_fit log _ c.if-buf-length.false c.new-out.ensures.empty c.write_start.ensures in
    record { level = fit.0; room = fit.1 }

pub returns : goal.returns
returns c =
    let log = measured _ _ _ _ (sym c.in_ok-length.ensures) in
    write_done log _ c.if-buf-length.false c.new-out.ensures.empty c.write_start.ensures c.write_rows.ensures (search rules)
