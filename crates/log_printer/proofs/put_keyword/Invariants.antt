-- The loop keeps `Putting`, the bytes of the word that are left to write.
use Rattle.std.proofs.Common.{drop}
use Rattle.output.proofs.Puts.{Putting}
use Rattle.log_text.specs.Form.{keyword_text}
use Rattle.log_printer.proofs.put_keyword.Given as goal

abbrev pub invariant-loop-byte : goal.invariant-loop-byte
invariant-loop-byte l = Putting l.initial.out (keyword_text l.fn.keyword) l.out (drop l.byte-index l.byte-items)
