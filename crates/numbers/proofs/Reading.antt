-- The loop of `read_number`: the groups read so far, in front of the number that the rest of the bytes is. Assumes nothing.
use Prim.Native.Nat.{ℕ, zero, suc, ◌+◌, ◌-◌, ◌*◌, ◌<◌, ◌≤◌, ◌^◌}
use mathlib.Core.Path.{◌≡◌, refl, sym, ap, ◌∙◌}
use mathlib.Core.List.{List, ◌∷◌}
use mathlib.Core.Bool.{Bool, true, false, cond}
use mathlib.Core.Logic.{⊎_elim}
use native.Mathlib.Omega.{arith}
use native.Mathlib.Nat.{add-zero, zero-add, mul-add, mul_assoc, mul-le-mul, mul-le-mul_left, pow-suc, pow-le-pow_right}
use native.Mathlib.Numerals.{add-one}
use lib.Dec.{eqb, lit<}
use lib.ListN.{length, drop, get_or, drop_of_length-le}
use lib.Seq.{drop-cons, get_or-drop}
use borrow.Author.Tests.{ne_eqb, eqb-false}
use Rattle.std.specs.Prelude.{Option, Some, None}
use Rattle.numbers.specs.declared.Number.{Number}
use Rattle.numbers.specs.Number.{number, more, decode, bounded, number_of, number_bound}
use Rattle.numbers.proofs.Decode.{side, decode_one, decode-more, decode-first, bounded-small, bounded_large}

-- s as it is split into its first byte and the rest
module _ {s rest : List ℕ} {first : ℕ} (split : s ≡ first ∷ rest) where
  pub rest_length : length s ≡ length rest + 1
  rest_length = rw split (omega arith)

  pub rest_byte : (i : ℕ) → get_or s (i + 1) 0 ≡ get_or rest i 0
  rest_byte i = rw (split, add-one i)

-- i bytes of value v in front of a number, whose groups begin at weight w
abbrev pub extend : ℕ → ℕ → ℕ → Option Number → Option Number
extend v w zero r = r
extend v w (suc i) (Some x) = cond (eqb x.value 0) None (number (v + w * x.value) (suc i + x.size))
extend v w (suc i) None = None

-- the first i bytes of s are groups of value v, and the next group weighs w
pub record Reading (s : List ℕ) (v w i : ℕ) : Type 0 where
  pub same : decode s ≡ extend v w i (decode (drop i s))
  pub weight : w ≡ 128 ^ i
  pub below : v < w
  pub few : i ≤ 4

-- what lets a byte stand at the place i: a fifth is at most 15, and a last byte of 0 is the first
abbrev pub Fifth : List ℕ → ℕ → Type 0
Fifth s i = i ≡ 4 → get_or s i 0 ≤ 15

abbrev pub Shortest : List ℕ → ℕ → Type 0
Shortest s i = get_or s i 0 ≡ 0 → i ≡ 0

pub reading_start : (s : List ℕ) → Reading s 0 1 0
reading_start s = record { same = refl; weight = refl; below = omega arith; few = omega arith }

extend_refused : (v w i : ℕ) → extend v w i None ≡ None
extend_refused v w zero = refl
extend_refused v w (suc i) = refl

extend_value : (v w i x n : ℕ) → w ≡ 128 ^ i → v < w → (x ≡ 0 → i ≡ 0) → extend v w i (number x n) ≡ number (v + w * x) (i + n)
extend_value v w zero x n h l z =
    let p : v ≡ 0 = omega arith in let q : w ≡ 1 = omega arith in
    rw (p, q, zero-add n) (ap (λ (a : ℕ). number a n) (omega arith))
extend_value v w (suc i) x n h l z = rw (ne_eqb x 0 (λ q. let o = z q in omega arith))

extend_zero : (v w i n : ℕ) → 0 < i → extend v w i (number 0 n) ≡ None
extend_zero v w zero n h = absurd (omega arith)
extend_zero v w (suc i) n h = refl

module _ (v w i b : ℕ) (h : w ≡ 128 ^ i) (l : v < w) where
  extend_more : (r : Option Number) → extend v w i (more b r) ≡ extend (v + w * (b - 128)) (w * 128) (i + 1) r
  extend_more None = extend_refused v w i ∙ rw (add-one i)
  extend_more (Some y) = let record { value = x; size = n } = y in go x n (eqb x 0) refl
    where
      go : (x n : ℕ) (t : Bool) → eqb x 0 ≡ t → extend v w i (more b (number x n)) ≡ extend (v + w * (b - 128)) (w * 128) (i + 1) (number x n)
      go x n true q = rw (add-one i, q) (extend_refused v w i)
      go x n false q =
          let z : (x ≡ 0 → ⊥) = eqb-false x 0 q in
          let y : (b - 128 + 128 * x ≡ 0 → ⊥) = λ o. z (omega arith) in
          let a : w * (b - 128 + 128 * x) ≡ w * (b - 128) + w * 128 * x = rw (mul-add w (b - 128) (128 * x), mul_assoc w 128 x) in
          let p : v + w * (b - 128 + 128 * x) ≡ v + w * (b - 128) + w * 128 * x = omega arith in
          let c : i + (n + 1) ≡ suc i + n = omega arith in
          rw (add-one i, q) (extend_value v w i (b - 128 + 128 * x) (n + 1) h l (λ o. absurd (y o)) ∙ rw (p, c))

-- a group of at most m at one of the first k + 1 places
weight_bound : (w i k c m : ℕ) → w ≡ 128 ^ i → i ≤ k → c ≤ m → w * c ≤ 128 ^ k * m
weight_bound w i k c m h l = mul-le-mul (rw h (pow-le-pow_right {n = 128} (lit< tt) l))

module _ {s : List ℕ} {v w i : ℕ} (g : Reading s v w i) where
  pub reading_weight : w ≤ 128 ^ 4
  reading_weight = omega (arith, weight_bound w i 4 1 1 g.weight g.few (omega arith))

  -- the sum with a last group fits
  pub reading_fits : get_or s i 0 < 128 → Fifth s i → v + w * get_or s i 0 < number_bound
  reading_fits h f = omega (arith, g.below, mul-add w (get_or s i 0) 1, ⊎_elim before fifth (side i 4))
    where
      before : i < 4 → w * (get_or s i 0 + 1) ≤ number_bound
      before q = omega (arith, weight_bound w i 3 (get_or s i 0 + 1) 128 g.weight (omega arith) (omega arith))

      fifth : 4 ≤ i → w * (get_or s i 0 + 1) ≤ number_bound
      fifth q =
          let l : get_or s i 0 ≤ 15 = f (omega (arith, g.few)) in
          omega (arith, weight_bound w i 4 (get_or s i 0 + 1) 16 g.weight g.few (omega arith))

  -- at the end of the bytes
  pub reading_end : length s ≤ i → None ≡ number_of s
  unfolding decode
  reading_end h = rw (g.same, drop_of_length-le s h, extend_refused v w i)

  module _ (here : i < length s) where
    next : decode s ≡ extend v w i (decode (get_or s i 0 ∷ drop (suc i) s))
    next = g.same ∙ rw (drop-cons s i 0 here)

    last : get_or s i 0 < 128 → decode s ≡ extend v w i (number (get_or s i 0) 1)
    last h = next ∙ rw (decode_one (get_or s i 0) (drop (suc i) s) h)

    -- at a last byte of 0 that is not the only byte
    pub reading_zero : get_or s i 0 ≡ 0 → 0 < i → None ≡ number_of s
    reading_zero z p = rw (last (omega arith), z, extend_zero v w i 1 p)

    -- at a last byte
    pub reading_last : get_or s i 0 < 128 → Fifth s i → Shortest s i → number (v + w * get_or s i 0) (i + 1) ≡ number_of s
    reading_last h f z =
        rw (last h, extend_value v w i (get_or s i 0) 1 g.weight g.below z)
        (sym (bounded-small (v + w * get_or s i 0) (i + 1) (reading_fits h f)))

    -- at a byte with the high bit set
    pub reading_more : 128 ≤ get_or s i 0 → get_or s i 0 < 256 → Fifth s i → Reading s (v + w * (get_or s i 0 - 128)) (w * 128) (i + 1)
    reading_more h l f =
        let group : get_or s i 0 - 128 + 1 ≤ 128 = omega arith in
        let not_fifth : (i ≡ 4 → ⊥) = λ z. omega (arith, f z) in
        record {
          same = next ∙ rw (decode-more (get_or s i 0) (drop (suc i) s) h, extend_more v w i (get_or s i 0) g.weight g.below, add-one i);
          weight = rw (add-one i, pow-suc 128 i, g.weight);
          below = omega (arith, g.below, mul-add w (get_or s i 0 - 128) 1, mul-le-mul_left w group);
          few = omega (arith, g.few);
        }

    -- at a fifth byte above 15
    pub reading_fifth : i ≡ 4 → 15 < get_or s i 0 → None ≡ number_of s
    reading_fifth z h = rw g.same (go (decode (drop i s)) refl)
      where
        go : (r : Option Number) → decode (drop i s) ≡ r → None ≡ bounded (extend v w i r)
        go None e = rw (extend_refused v w i)
        go (Some y) e =
            let record { value = x; size = n } = y in
            let k : w ≡ 128 ^ 4 = rw z at g.weight in
            let f : get_or (drop i s) 0 0 ≡ get_or s i 0 = get_or-drop i s 0 0 ∙ rw (add-zero i) in
            let m : 16 ≤ x = ⊎_elim (λ q. omega (arith, q.1)) (λ q. omega arith) (decode-first (drop i s) x n e) in
            rw (extend_value v w i x n g.weight g.below (λ o. absurd (omega arith)))
            (sym (bounded_large (v + w * x) (i + n) (rw k (omega arith))))
