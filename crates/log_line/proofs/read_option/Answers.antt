-- A number that is taken is at most `most`, so the argument fits.
use Rattle.std.proofs.Common.{arith, sym, drop}
use Rattle.text.specs.Words.{words_in}
use Rattle.log_text.proofs.Bounds.{number_most_lem}
use Rattle.log_line.proofs.read_option.Goals as goal

pub overflow_add-result : goal.overflow_add-result
overflow_add-result c = omega (arith, number_most_lem c.args.most (words_in (drop c.read_flag-flag.result.next c.args.s.now)) (sym c.in_ok-number.ensures), c.ranges.most)
