-- `put_digits` meets its contract: the digits before the last are written by itself.
use Rattle.std.proofs.Common.{arith}
use Rattle.text.proofs.Decimal.{length_more}
use Rattle.text.proofs.Theorems.{decimal-some}
use Rattle.text.proofs.Writing.{wrote-digit, wrote-digits}
use Rattle.text.proofs.+put_digits.Goals as goal

pub bounds-buffer-at : goal.bounds-buffer-at
bounds-buffer-at t c = omega (arith, decimal-some c.args.n)

pub returns-then-n-lt10 : goal.returns-then-n-lt10
returns-then-n-lt10 t c = wrote-digit _ _ _ c.if-n-lt10.true

pub put_digits-end-requires : goal.put_digits-end-requires
put_digits-end-requires t c = let more = length_more _ c.if-n-lt10.false in (omega arith, omega arith)

pub bounds-buffer-end : goal.bounds-buffer-end
bounds-buffer-end t c = omega (arith, length_more _ c.if-n-lt10.false)

pub overflow_add-result-2 : goal.overflow_add-result-2
overflow_add-result-2 t c = omega (arith, length_more _ c.if-n-lt10.false)

pub returns : goal.returns
returns t c = wrote-digits c.put_digits-end.ensures c.if-n-lt10.false
