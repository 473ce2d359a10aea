-- `replay` is safe: each of the two numbers lies within the bytes that it is read from. Assumes nothing.
use Rattle.std.proofs.Common.{sym}
use Rattle.numbers.proofs.Theorems.{number_within}
use Rattle.bench_kinds.proofs.replay.Goals as goal

pub slice_bounds-input-count : goal.slice_bounds-input-count
slice_bounds-input-count c = (number_within _ _ _ (sym c.in-Some.ensures)).1

pub slice_bounds-input-start : goal.slice_bounds-input-start
slice_bounds-input-start c = (number_within _ _ _ (sym c.in-Some.ensures)).1

pub slice_bounds-replay-count : goal.slice_bounds-replay-count
slice_bounds-replay-count c = (number_within _ _ _ (sym c.in-Some-read_number.ensures)).1

pub slice_bounds-replay-start : goal.slice_bounds-replay-start
slice_bounds-replay-start c = (number_within _ _ _ (sym c.in-Some-read_number.ensures)).1
