-- Laws of writing seven-bit numbers, and that reading and writing are inverse to each other, for any count of groups. Assumes nothing.
use Prim.Native.Nat.{ℕ, zero, suc, ◌+◌, ◌-◌, ◌*◌, ◌/◌, ◌%◌, ◌<◌, ◌≤◌}
use mathlib.Core.Path.{◌≡◌, refl, sym, ◌∙◌}
use mathlib.Core.List.{List, [], ◌∷◌, ◌++◌}
use mathlib.Core.Logic.{⊎_elim}
use native.Mathlib.Omega.{arith}
use native.Mathlib.Numerals.{add-one}
use lib.ListN.{length, take}
use borrow.Author.Tests.{lt-ltb, le-ltb, ne_eqb}
use Rattle.numbers.specs.Number.{number, Bytes, decode, groups, encode}
use Rattle.numbers.proofs.Decode.{side, decode_one, decode-more, decode_ind}

-- the clauses of encoding
groups-last : (k n : ℕ) → n < 128 → groups k n ≡ n ∷ []
unfolding groups
groups-last zero n h = refl
groups-last (suc k) n h = rw (lt-ltb n 128 h, groups)

groups-more : (k n : ℕ) → 128 ≤ n → groups (suc k) n ≡ (n % 128 + 128) ∷ groups k (n / 128)
unfolding groups
groups-more k n h = rw (le-ltb n 128 h, groups)

-- any count of groups from n on is enough
groups_enough : (j k n : ℕ) → n ≤ j → n ≤ k → groups j n ≡ groups k n
groups_enough zero k n h l = groups-last 0 n (omega arith) ∙ sym (groups-last k n (omega arith))
groups_enough (suc j) zero n h l = groups-last (suc j) n (omega arith) ∙ sym (groups-last 0 n (omega arith))
groups_enough (suc j) (suc k) n h l =
    ⊎_elim
    (λ s. groups-last (suc j) n s ∙ sym (groups-last (suc k) n s))
    (λ s. rw (groups-more j n s, groups-more k n s, groups_enough j k (n / 128) (omega arith) (omega arith)))
    (side n 128)

pub encode-last : (n : ℕ) → n < 128 → encode n ≡ n ∷ []
encode-last n h = groups-last n n h

pub encode-more : (n : ℕ) → 128 ≤ n → encode n ≡ (n % 128 + 128) ∷ encode (n / 128)
encode-more zero h = absurd (omega arith)
encode-more (suc m) h =
    groups-more m (suc m) h ∙ rw (groups_enough m (suc m / 128) (suc m / 128) (omega arith) (omega arith))

-- what is written is read back, whatever follows
written_group : (k n : ℕ) (s : List ℕ) → 128 ≤ n → decode (groups k (n / 128) ++ s) ≡ number (n / 128) (length (groups k (n / 128)))
    → decode (groups (suc k) n ++ s) ≡ number n (length (groups (suc k) n))
written_group k n s h e =
    let z : (n / 128 ≡ 0 → ⊥) = λ q. omega arith in
    let q : n % 128 + 128 - 128 + 128 * (n / 128) ≡ n = omega arith in
    rw (groups-more k n h, decode-more (n % 128 + 128) (groups k (n / 128) ++ s) (omega arith), e, ne_eqb (n / 128) 0 z, q, add-one)

pub decode-groups : (k n : ℕ) (s : List ℕ) → n ≤ k → decode (groups k n ++ s) ≡ number n (length (groups k n))
decode-groups zero n s l = rw (groups-last 0 n (omega arith), decode_one n s (omega arith))
decode-groups (suc k) n s l =
    ⊎_elim
    (λ h. rw (groups-last (suc k) n h, decode_one n s h))
    (λ h. written_group k n s h (decode-groups k (n / 128) s (omega arith)))
    (side n 128)

-- what is read is what would be written
read_group : (b : ℕ) (s : List ℕ) (w m : ℕ) → 128 ≤ b → b < 256 → 0 < w → take m s ≡ encode w → take (m + 1) (b ∷ s) ≡ encode (b - 128 + 128 * w)
read_group b s w m h g p ih =
    let q : (b - 128 + 128 * w) / 128 ≡ w = omega arith in
    let r : (b - 128 + 128 * w) % 128 + 128 ≡ b = omega arith in
    rw (encode-more (b - 128 + 128 * w) (omega arith), q, r, add-one m, ← ih)

pub take-decode : (s : List ℕ) (v n : ℕ) → decode s ≡ number v n → Bytes s → take n s ≡ encode v
take-decode =
    decode_ind (λ s v n. Bytes s → take n s ≡ encode v)
    (λ b s h bs. rw (encode-last b h))
    (λ b s w m h e p ih bs. read_group b s w m h (bs 0) p (ih (λ i. bs (suc i))))
