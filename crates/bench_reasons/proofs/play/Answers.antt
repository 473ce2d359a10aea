-- `play` is safe: each record lies within the rest of the log. Assumes nothing.
use Rattle.std.proofs.Common.{rules, arith, length-take, length-drop}
use Rattle.call_log.proofs.Theorems.{record-length}
use Rattle.player.proofs.Stepping.{read_taken}
use Rattle.bench_reasons.proofs.play.Goals as goal

pub slice_bounds-rest-count : goal.slice_bounds-rest-count
slice_bounds-rest-count c =
    let read = read_taken _ c.read_record.ensures c.in-Ok-Some.is c.in-Ok-Some.field-0-is in
    (record-length _ _ _ read).2

pub slice_bounds-rest-start : goal.slice_bounds-rest-start
slice_bounds-rest-start c = let within = slice_bounds-rest-count c in search rules

pub loop-taken-smaller : goal.loop-taken-smaller
loop-taken-smaller c =
    let read = read_taken _ c.read_record.ensures c.in-Ok-Some.is c.in-Ok-Some.field-0-is in
    simp (length-take, length-drop) (omega (arith, record-length _ _ _ read))
