-- `read_numeral` meets its contract.
use Rattle.std.proofs.Common.{◌∙◌, sym, arith}
use Rattle.text.proofs.Numerals.{numeral_other, counting_start, counting_digit, counting_more, counting_large, counting_end}
use Rattle.text.proofs.words.read_numeral.Goals as goal

pub returns-then-not-is_digits : goal.returns-then-not-is_digits
returns-then-not-is_digits c = numeral_other _ _ (sym c.is_digits.ensures ∙ c.if-not-is_digits.true)

pub loop-byte-init : goal.loop-byte-init
loop-byte-init c = counting_start _ _ (sym c.is_digits.ensures ∙ c.if-not-is_digits.false)

pub overflow_sub-byte : goal.overflow_sub-byte
overflow_sub-byte c = (counting_digit c.loop-byte.invariant c.loop-byte-test.true).least

pub returns-then-bound-value : goal.returns-then-bound-value
returns-then-bound-value c = counting_large c.loop-byte.invariant c.loop-byte-test.true (omega arith)

pub loop-byte-preserved : goal.loop-byte-preserved
loop-byte-preserved c = rw c.from.ensures (counting_more c.loop-byte.invariant c.loop-byte-test.true (omega arith))

pub returns : goal.returns
returns c = counting_end c.loop-byte.invariant c.loop-byte-test.false
