-- `put_flag` meets its contract: nothing for 0, else the word.
use Rattle.std.proofs.Common.{arith}
use Rattle.output.proofs.Puts.{puts_nothing}
use Rattle.log_printer.proofs.Lines.{flag_none, flag_some}
use Rattle.log_printer.proofs.put_flag.Goals as goal

pub returns-then-argument-eq0 : goal.returns-then-argument-eq0
returns-then-argument-eq0 c = rw (flag_none _ _ c.if-argument-eq0.true) (puts_nothing _)

pub put_word-requires : goal.put_word-requires
put_word-requires c = omega (arith, rw (flag_some _ _ c.if-argument-eq0.false) at c.requires)

pub returns : goal.returns
returns c = rw (flag_some _ _ c.if-argument-eq0.false) c.put_word.ensures
