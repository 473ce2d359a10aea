-- `show::blocks` ends: each block is 8 bytes or more of the rest. Assumes nothing.
use Rattle.std.proofs.Common.{length}
use Rattle.bench_examples.proofs.show.blocks.Given as goal

abbrev pub decreases-loop-rest : goal.decreases-loop-rest
decreases-loop-rest l = length l.rest
