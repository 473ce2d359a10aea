-- The theorems of the log's records. Assumes nothing.
use Prim.Native.Nat.{ℕ, ◌≤◌}
use mathlib.Core.Path.{◌≡◌}
use mathlib.Core.List.{List, [], ◌++◌}
use native.Mathlib.Omega.{arith}
use lib.ListN.{length, take}
use Rattle.numbers.specs.Number.{Bytes}
use Rattle.numbers.proofs.Theorems.{number_one}
use Rattle.call_log.specs.declared.Record.{Record}
use Rattle.call_log.specs.Record.{kind_of, taken, end, record_of, encode_record, Expressible}
use Rattle.call_log.proofs.Forms.{count-few}
use Rattle.call_log.proofs.Records.{record_read, source, source_listed, end_none}

-- what is written is read back, whatever follows
pub record-encode : (r : Record) (rest : List ℕ) → Expressible r → record_of (encode_record r ++ rest) ≡ taken r (length (encode_record r))
record-encode = record_read

-- the clean end is told only where nothing is left
pub record_end : (s : List ℕ) → record_of s ≡ end → s ≡ []
record_end = end_none

module _ (s : List ℕ) (r : Record) (n : ℕ) (e : record_of s ≡ taken r n) where
  -- what is read is what would be written
  pub encode-record : Bytes s → take n s ≡ encode_record r
  encode-record = (source_listed (source s r n e)).bytes

  -- and can be written
  pub record_expressible : Expressible r
  record_expressible = record { small = (source_listed (source s r n e)).small; limited = (source s r n e).makes.limited }

  -- a record has at least one byte, at most 21, and no more than there are
  pub record-length : (1 ≤ n) × (n ≤ 21) × (n ≤ length s)
  record-length =
      let t = source s r n e in
      let one : t.first ≡ 1 = number_one s t.number t.first t.kind (omega (arith, t.makes.known)) in
      let few = count-few (kind_of t.number) in
      (omega (arith, t.makes.place), omega (arith, t.makes.place, t.fields.most), (source_listed t).inside)

-- so is a record that is written
pub encode-record-length : (r : Record) → Expressible r → (1 ≤ length (encode_record r)) × (length (encode_record r) ≤ 21)
encode-record-length r h = let l = record-length (encode_record r ++ []) r (length (encode_record r)) (record-encode r [] h) in (l.0, l.1)
