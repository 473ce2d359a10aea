-- The words in front of the comment.
use Rattle.std.proofs.Common.{◌∙◌, arith, zero-add, length-take}
use Rattle.text.specs.declared.words.Class.TheVariants.{Plain}
use Rattle.text.proofs.Spans.{span-most, span-take}
use Rattle.log_line.proofs.read_line.Goals as goal

pub slice_bounds-read_words-end : goal.slice_bounds-read_words-end
slice_bounds-read_words-end c =
    omega (arith, c.span_end-end.ensures, span-most Plain c.args.line.now, length-take c.span_end-end.result c.args.line.now)

pub returns : goal.returns
returns c = c.read_words.ensures ∙ rw (c.span_end-end.ensures, zero-add, span-take Plain c.args.line.now)
