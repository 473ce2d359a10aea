-- `put_word` meets its contract: a space, then the word.
use Rattle.output.proofs.Puts.{puts-append, puts_room}
use Rattle.log_printer.proofs.put_word.Goals as goal

pub put-requires : goal.put-requires
put-requires c = puts_room _ c.put_byte.ensures c.requires

pub returns : goal.returns
returns c = puts-append c.put_byte.ensures c.put.ensures
