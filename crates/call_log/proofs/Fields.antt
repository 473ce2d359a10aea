-- Laws of several numbers one after another, for any count of them. Assumes nothing.
use Prim.Native.Nat.{ℕ, zero, suc, ◌+◌, ◌*◌, ◌≤◌, ◌<◌}
use mathlib.Core.Path.{◌≡◌, refl, ap, ◌∙◌}
use mathlib.Core.List.{List, [], ◌∷◌, ◌++◌, append_assoc}
use native.Mathlib.Omega.{arith}
use native.Mathlib.Nat.{add_assoc}
use native.Mathlib.Numerals.{add-one}
use lib.ListN.{length, take, drop, get_or, length-append, length-drop, drop_of_length-le}
use lib.Seq.{take-add, drop-cons, get_or-drop, drop-append_seam}
use Rattle.std.specs.Prelude.{Option, Some, None}
use Rattle.numbers.specs.declared.Number.{Number}
use Rattle.numbers.specs.Number.{Bytes, number, number_of, encode}
use Rattle.numbers.proofs.Theorems.{number_encode, encode_number, number_small, number_within, number_five}
use Rattle.call_log.specs.Fields.{Fields, Fields·read, Fields·refused, before, first, read_fields, encode_fields, fields_length, Small}

pub before-before : (xs : List ℕ) (a : ℕ) (ys : List ℕ) (b : ℕ) (r : Fields) → before xs a (before ys b r) ≡ before (xs ++ ys) (a + b) r
before-before xs a ys b (Fields·read zs c) = rw (append_assoc xs ys zs, add_assoc a b c)
before-before xs a ys b Fields·refused = refl

-- what is written is read back, whatever follows
pub read_encode : (vs rest : List ℕ) → Small vs → read_fields (length vs) (encode_fields vs ++ rest) ≡ Fields·read vs (length (encode_fields vs))
unfolding read_fields encode_fields
read_encode [] rest h = refl
read_encode (v ∷ vs) rest h =
    rw (
      append_assoc (encode v) (encode_fields vs) rest,
      number_encode v (encode_fields vs ++ rest) h.0,
      drop-append_seam (encode v) (encode_fields vs ++ rest),
      read_encode vs rest h.1,
      length-append (encode v) (encode_fields vs),
    )

-- how many bytes they need
pub length_fields : (vs : List ℕ) → length (encode_fields vs) ≡ fields_length vs
unfolding encode_fields fields_length
length_fields [] = refl
length_fields (v ∷ vs) = length-append (encode v) (encode_fields vs) ∙ rw (length_fields vs)

pub small-take : (k : ℕ) (vs : List ℕ) → Small vs → Small (take k vs)
small-take zero vs h = tt
small-take (suc k) [] h = tt
small-take (suc k) (v ∷ vs) h = (h.0, small-take k vs h.1)

-- what the first k numbers of s are
pub record Listed (k : ℕ) (s vs : List ℕ) (n : ℕ) : Type 0 where
  pub count : length vs ≡ k
  pub small : Small vs
  pub inside : n ≤ length s
  pub most : n ≤ 5 * k
  pub bytes : Bytes s → take n s ≡ encode_fields vs

no_fields : {A : Type 0} {vs : List ℕ} {n : ℕ} → Fields·refused ≡ Fields·read vs n → A
no_fields e = let z : ◌≡◌ {A = ℕ} 0 1 = cc in absurd (omega arith)

pub bytes_drop : (n : ℕ) (s : List ℕ) → Bytes s → Bytes (drop n s)
bytes_drop n s bs i = rw (get_or-drop n s i 0) (bs (n + i))

pub listed_more : (k : ℕ) (s : List ℕ) (v n : ℕ) (ws : List ℕ) (m : ℕ) → number_of s ≡ number v n → Listed k (drop n s) ws m
    → Listed (suc k) s (v ∷ ws) (n + m)
unfolding encode_fields
listed_more k s v n ws m e l = record {
  count = ap suc l.count;
  small = (number_small s v n e, l.small);
  inside = omega (arith, l.inside, number_within s v n e, length-drop n s);
  most = omega (arith, l.most, number_five s v n e);
  bytes = λ bs. rw (take-add n m s, encode_number s v n e bs, l.bytes (bytes_drop n s bs));
}

module _ (k : ℕ) (s vs : List ℕ) (n : ℕ)
    (ih : (m : ℕ) (ws : List ℕ) (o : ℕ) → read_fields k (drop m s) ≡ Fields·read ws o → Listed k (drop m s) ws o) where
  listed_rest : (v m : ℕ) (r : Fields) → number_of s ≡ number v m → read_fields k (drop m s) ≡ r
      → before (v ∷ []) m r ≡ Fields·read vs n → Listed (suc k) s vs n
  listed_rest v m Fields·refused q p e = no_fields e
  listed_rest v m (Fields·read ws o) q p e =
      let x : v ∷ ws ≡ vs = cc in
      let y : m + o ≡ n = cc in
      rw (← x, ← y) (listed_more k s v m ws o q (ih m ws o p))

  listed_first : (x : Option Number) → number_of s ≡ x → first x (λ m. read_fields k (drop m s)) ≡ Fields·read vs n → Listed (suc k) s vs n
  listed_first None q e = no_fields e
  listed_first (Some x) q e = listed_rest x.value x.size (read_fields k (drop x.size s)) q refl e

-- what is read is what would be written
pub read_listed : (k : ℕ) (s vs : List ℕ) (n : ℕ) → read_fields k s ≡ Fields·read vs n → Listed k s vs n
unfolding read_fields encode_fields
read_listed zero s vs n e =
    let x : [] ≡ vs = cc in
    let y : 0 ≡ n = cc in
    rw (← x, ← y) (record { count = refl; small = tt; inside = omega arith; most = omega arith; bytes = λ bs. refl })
read_listed (suc k) s vs n e = listed_first k s vs n (λ m. read_listed k (drop m s)) (number_of s) refl e

-- ---- numbers one after another, from the place i on

module _ (vs : List ℕ) (i : ℕ) where
  pub encode_next : i < length vs → encode_fields (drop i vs) ≡ encode (get_or vs i 0) ++ encode_fields (drop (i + 1) vs)
  unfolding encode_fields
  encode_next h = rw (add-one i, drop-cons vs i 0 h)

  pub encode_past : length vs ≤ i → encode_fields (drop i vs) ≡ []
  unfolding encode_fields
  encode_past h = rw (drop_of_length-le vs h)
