-- `play` ends: each record that is read has a byte. Assumes nothing.
use Rattle.std.proofs.Common.{length}
use Rattle.bench_reasons.proofs.play.Given as goal

abbrev pub decreases-loop-taken : goal.decreases-loop-taken
decreases-loop-taken l = length l.rest
