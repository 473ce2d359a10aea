-- The loop keeps `Counting`, the number that the digits passed say.
use Rattle.text.proofs.Numerals.{Counting}
use Rattle.text.proofs.words.read_numeral.Given as goal

abbrev pub invariant-loop-byte : goal.invariant-loop-byte
invariant-loop-byte l = Counting l.word l.most l.value l.byte-index
