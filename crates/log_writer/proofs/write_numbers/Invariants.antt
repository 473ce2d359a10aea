-- The numbers that are left to write.
use Rattle.std.proofs.Common.{drop}
use Rattle.output.proofs.Puts.{Putting}
use Rattle.call_log.specs.Fields.{encode_fields}
use Rattle.log_writer.proofs.write_numbers.Given as goal

abbrev pub invariant-loop-value : goal.invariant-loop-value
invariant-loop-value l = Putting l.initial.out (encode_fields l.values) l.out (encode_fields (drop l.value-index l.values))
