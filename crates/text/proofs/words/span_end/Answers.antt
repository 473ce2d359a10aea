-- `span_end` meets its contract: the bytes from the place on, if there are any.
use Rattle.std.proofs.Common.{arith}
use Rattle.text.proofs.Spans.{span-most, span_past}
use Rattle.text.proofs.words.span_end.Goals as goal

pub overflow_add-result : goal.overflow_add-result
overflow_add-result c =
    omega (arith, c.in-Some.ensures.lookup, c.span_length.ensures, span-most c.args.class c.in-Some.rest.now)

pub returns-in-None : goal.returns-in-None
returns-in-None c = span_past _ _ _ (omega (arith, c.in-None.ensures.lookup))
