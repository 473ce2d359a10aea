-- The loop keeps `Measuring`: the lines read so far.
use Rattle.text.specs.Words.{lines_of}
use Rattle.log_parser.proofs.Measuring.{Measuring}
use Rattle.log_parser.proofs.measure.Given as goal

abbrev pub invariant-loop-line : goal.invariant-loop-line
invariant-loop-line l = Measuring l.text (lines_of l.line-iterator.rest.now) l.number l.count l.length
