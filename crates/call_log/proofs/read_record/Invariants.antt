-- The fields read so far.
use Rattle.call_log.proofs.Reading.{Reading}
use Rattle.call_log.proofs.read_record.Given as goal

abbrev pub invariant-loop-field : goal.invariant-loop-field
invariant-loop-field l = Reading l.rest l.kind l.field-items l.size l.field-index
