-- `replay` is safe: the first record's place lies within the log. Assumes nothing.
use Rattle.std.proofs.Common.{rules, sym}
use Rattle.call_log.proofs.Starts.{begun}
use Rattle.bench_reasons.proofs.replay.Goals as goal

pub slice_bounds-run-count : goal.slice_bounds-run-count
slice_bounds-run-count c = (begun _ _ _ _ (sym c.in-Some.ensures)).inside

pub slice_bounds-run-start : goal.slice_bounds-run-start
slice_bounds-run-start c = let within = slice_bounds-run-count c in search rules
