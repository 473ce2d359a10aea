-- `put_option` meets its contract: nothing for 0, else the word and the number below.
use Rattle.std.proofs.Common.{arith, length-append}
use Rattle.output.proofs.Puts.{puts_nothing, puts-append, puts_room}
use Rattle.log_printer.proofs.Lines.{option_none, option_some}
use Rattle.log_printer.proofs.put_option.Goals as goal

pub returns-then-argument-eq0 : goal.returns-then-argument-eq0
returns-then-argument-eq0 c = rw (option_none _ _ c.if-argument-eq0.true) (puts_nothing _)

pub put_word-requires : goal.put_word-requires
put_word-requires c =
    let fits = rw (option_some _ _ c.if-argument-eq0.false) at c.requires in omega (arith, simp length-append at fits)

pub put_number-requires : goal.put_number-requires
put_number-requires c =
    let fits = rw (option_some _ _ c.if-argument-eq0.false) at c.requires in
    puts_room _ c.put_word.ensures (simp length-append (omega (arith, simp length-append at fits)))

pub returns : goal.returns
returns c = rw (option_some _ _ c.if-argument-eq0.false) (puts-append c.put_word.ensures c.put_number.ensures)
