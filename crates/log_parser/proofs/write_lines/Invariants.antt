-- The loop keeps `Storing`: the lines written so far.
use Rattle.text.specs.Words.{lines_of}
use Rattle.log_parser.proofs.Storing.{Storing}
use Rattle.log_parser.proofs.write_lines.Given as goal

abbrev pub invariant-loop-line : goal.invariant-loop-line
invariant-loop-line l = Storing l.text l.initial.out (lines_of l.line-iterator.rest.now) l.out
