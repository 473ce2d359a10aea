-- Too long, refused, too long for the buffer, or stored.
use Rattle.std.proofs.Common.{◌≡◌, Err, rules}
use Rattle.log_parser.proofs.Storing.{text-long, text-short, store_kept, store_short, store_room, store_done}
use Rattle.log_parser.proofs.parse_text.Goals as goal

pub returns-then-text-gt-LONGEST_TEXT : goal.returns-then-text-gt-LONGEST_TEXT
returns-then-text-gt-LONGEST_TEXT c = text-long _ _ c.if-text-gt-LONGEST_TEXT.true

pub returns-in_err-length : goal.returns-in_err-length
returns-in_err-length c =
    let e : c.from_residual.result ≡ Err c.in_err-length.field-0.0 = search rules in
    rw (e, text-short _ c.if-text-gt-LONGEST_TEXT.false) (store_kept _ _ c.in_err-length.ensures)

pub returns-then-buf-length : goal.returns-then-buf-length
returns-then-buf-length c = rw (text-short _ c.if-text-gt-LONGEST_TEXT.false) (store_short _ _ c.in_ok-length.ensures c.if-buf-length.true)

pub write_lines-requires : goal.write_lines-requires
write_lines-requires c = store_room _ _ c.in_ok-length.ensures c.if-buf-length.false c.new-out.ensures.empty

pub returns : goal.returns
returns c =
    rw (text-short _ c.if-text-gt-LONGEST_TEXT.false)
    (store_done _ _ c.in_ok-length.ensures c.if-buf-length.false c.new-out.ensures.empty c.write_lines.ensures (search rules))
