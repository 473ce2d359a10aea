-- The theorems of seven-bit numbers: first for any count of groups, then for the log's numbers. Assumes nothing.
use Prim.Native.Nat.{ℕ, suc, ◌+◌, ◌-◌, ◌<◌, ◌≤◌}
use mathlib.Core.Path.{◌≡◌, sym, ◌∙◌}
use mathlib.Core.List.{List, [], ◌++◌, append_assoc}
use mathlib.Core.Logic.{⊎_elim}
use native.Mathlib.Omega.{arith}
use native.Mathlib.Nat.{mul-le-mul, pow-le-pow_right}
use lib.Dec.{lit<}
use lib.ListN.{length, take, drop, get_or}
use lib.Seq.{length-take-le, drop_at}
use Rattle.numbers.specs.Number.{number, Bytes, decode, encode, number_of, number_bound}
use Rattle.output.specs.Wrote.{Wrote}
use Rattle.numbers.proofs.Decode.{side, Last, decode-length, decode-first, decode-last, bounded_value, bounded-small, number_decode}
use Rattle.numbers.proofs.Encode.{decode-groups, take-decode}
use Rattle.output.proofs.Wrote.{wrote-parts}

-- what is written is read back, whatever follows
pub decode-encode : (v : ℕ) (rest : List ℕ) → decode (encode v ++ rest) ≡ number v (length (encode v))
decode-encode v rest = decode-groups v v rest (omega arith)

module _ (s : List ℕ) (v n : ℕ) where
  -- what is read is what would be written
  pub encode-decode : decode s ≡ number v n → Bytes s → take n s ≡ encode v
  encode-decode = take-decode s v n

  -- so a number has one form
  pub decode_unique : (t : List ℕ) (m : ℕ) → decode s ≡ number v n → decode t ≡ number v m → Bytes s → Bytes t → take n s ≡ take m t
  decode_unique t m e f bs bt = take-decode s v n e bs ∙ sym (take-decode t v m f bt)

  -- the shortest: a last byte of 0 only if it is the only byte
  pub decode_shortest : decode s ≡ number v n → get_or s (n - 1) 0 ≡ 0 → n ≡ 1
  decode_shortest e z = ⊎_elim (λ q. q.0) many (decode-first s v n e)
    where
      many : 128 ≤ v → n ≡ 1
      many h =
          let q : n ≡ suc (n - 1) = omega (arith, decode-length s v n e) in
          absurd (omega (arith, (decode-last s v n e (n - 1) q).positive (omega arith)))

-- what is written below 2^32 is read back, whatever follows
pub number_encode : (v : ℕ) (rest : List ℕ) → v < number_bound → number_of (encode v ++ rest) ≡ number v (length (encode v))
number_encode v rest h = rw (decode-encode v rest) (bounded-small v (length (encode v)) h)

module _ (s : List ℕ) (v n : ℕ) (e : number_of s ≡ number v n) where
  pub number_small : v < number_bound
  number_small = (bounded_value (decode s) v n e).1

  -- what is read is what would be written
  pub encode_number : Bytes s → take n s ≡ encode v
  encode_number = take-decode s v n (number_decode s v n e)

  -- at least one byte, and no more than there are
  pub number_within : (1 ≤ n) × (n ≤ length s)
  number_within = decode-length s v n (number_decode s v n e)

  last : (k : ℕ) → n ≡ suc k → Last s v k
  last = decode-last s v n (number_decode s v n e)

  -- a number below 128 has one byte
  pub number_one : v < 128 → n ≡ 1
  number_one h = ⊎_elim (λ q. q.0) (λ q. absurd (omega arith)) (decode-first s v n (number_decode s v n e))

  -- a fifth byte is at most 15
  pub number_fifth : n ≡ 5 → get_or s 4 0 ≤ 15
  number_fifth q = omega (arith, (last 4 q).weight, number_small)

  -- at most five bytes
  pub number_five : n ≤ 5
  number_five = ⊎_elim (λ h. absurd (six (n - 1) (omega arith) h)) (λ h. h) (side 5 n)
    where
      six : (k : ℕ) → n ≡ suc k → 5 < n → ⊥
      six k q l =
          let h : (v < 128 → ⊥) = λ h. omega (arith, number_one h) in
          let p : 1 ≤ get_or s k 0 = (last k q).positive (omega arith) in
          omega (arith, mul-le-mul p (pow-le-pow_right {n = 128} (lit< tt) {i = 5} {j = k} (omega arith)), (last k q).weight, number_small)

-- a number below 2^32 is written in at least one byte and at most five
pub encode-length : (v : ℕ) → v < number_bound → (1 ≤ length (encode v)) × (length (encode v) ≤ 5)
encode-length v h =
    let e = number_encode v [] h in
    ((number_within (encode v ++ []) v (length (encode v)) e).0, number_five (encode v ++ []) v (length (encode v)) e)

-- what was written into a buffer is read there
pub number_wrote : {before after : List ℕ} {at next v : ℕ} → Wrote before at (encode v) after next → at + length (encode v) ≤ length before
    → v < number_bound → number_of (drop at after) ≡ number v (length (encode v))
number_wrote {before} {after} {at} {next} {v} w fits h =
    let front : length (take at before) ≡ at = length-take-le at before (omega arith) in
    rw (wrote-parts w fits, append_assoc, drop_at (take at before) (encode v ++ drop (at + length (encode v)) before) at front)
    (number_encode v (drop (at + length (encode v)) before) h)
