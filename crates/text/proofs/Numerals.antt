-- The loop of `read_numeral`: the number that the digits passed say, in front of those that are left. Assumes nothing.
use Prim.Native.Nat.{ℕ, zero, suc, ◌+◌, ◌-◌, ◌*◌, ◌<◌, ◌≤◌}
use mathlib.Core.Path.{◌≡◌, refl, ◌∙◌}
use mathlib.Core.Bool.{true, false, ◌&&◌}
use mathlib.Core.List.{List, [], ◌∷◌}
use native.Mathlib.Omega.{arith}
use native.Mathlib.Numerals.{add-one}
use Rattle.std.specs.Prelude.{Ok, Err}
use Rattle.std.specs.List.{list_all}
use lib.Dec.{leb}
use lib.ListN.{length, drop, get_or, drop_of_length-le}
use lib.Seq.{drop-cons}
use borrow.Author.Tests.{leb-true, le-leb, lt-leb}
use Rattle.model.proofs.Tests.{and_l, and_r}
use Rattle.text.specs.declared.words.Class.TheVariants.{Digit}
use Rattle.text.specs.declared.words.NumeralError.TheVariants.{TooLarge, NotDigits}
use Rattle.text.specs.Decimal.{value_from, value_of, all_digits}
use Rattle.text.specs.Words.{belongs, numeral_of}

-- further digits make no number smaller
value_least : (v : ℕ) (s : List ℕ) → v ≤ value_from v s
unfolding value_from
value_least v [] = omega arith
value_least v (d ∷ s) = omega (arith, value_least (10 * v + (d - 48)) s)

pub record Digit-at (d : ℕ) : Type 0 where
  pub least : 48 ≤ d
  pub most : d ≤ 57

pub digit_at : (w : List ℕ) (i : ℕ) → all_digits w ≡ true → i < length w → Digit-at (get_or w i 0)
unfolding all_digits
digit_at [] i e h = absurd (omega arith)
digit_at (d ∷ w) zero e h =
    let t = and_l (leb 48 d && leb d 57) (all_digits w) e in
    record { least = leb-true 48 d (and_l (leb 48 d) (leb d 57) t); most = leb-true d 57 (and_r (leb 48 d) (leb d 57) t) }
digit_at (d ∷ w) (suc i) e h = digit_at w i (and_r (leb 48 d && leb d 57) (all_digits w) e) (omega arith)

-- the digits in front of the place i say v
pub record Counting (w : List ℕ) (most v i : ℕ) : Type 0 where
  pub same : value_of w ≡ value_from v (drop i w)
  pub digits : all_digits w ≡ true
  pub small : v ≤ most

-- what `all` answers of the bytes of a word
pub list_digits : (w : List ℕ) → list_all (belongs Digit) w ≡ all_digits w
unfolding all_digits
list_digits [] = refl
list_digits (d ∷ w) = rw (list_digits w)

pub numeral_other : (w : List ℕ) (most : ℕ) → all_digits w ≡ false → Err NotDigits ≡ numeral_of most w
unfolding numeral_of
numeral_other w most e = rw e

pub counting_start : (w : List ℕ) (most : ℕ) → all_digits w ≡ true → Counting w most 0 0
counting_start w most e = record { same = refl; digits = e; small = omega arith }

module _ {w : List ℕ} {most v i : ℕ} (g : Counting w most v i) where
  module _ (h : i < length w) where
    pub counting_digit : Digit-at (get_or w i 0)
    counting_digit = digit_at w i g.digits h

    next : value_of w ≡ value_from (10 * v + (get_or w i 0 - 48)) (drop (i + 1) w)
    unfolding value_from
    next = g.same ∙ rw (drop-cons w i 0 h, add-one i)

    pub counting_more : 10 * v + (get_or w i 0 - 48) ≤ most → Counting w most (10 * v + (get_or w i 0 - 48)) (i + 1)
    counting_more k = record { same = next; digits = g.digits; small = k }

    pub counting_large : most < 10 * v + (get_or w i 0 - 48) → Err TooLarge ≡ numeral_of most w
    unfolding numeral_of
    counting_large k =
        let over : most < value_of w = omega (arith, next, value_least (10 * v + (get_or w i 0 - 48)) (drop (i + 1) w)) in
        rw (g.digits, lt-leb (value_of w) most over)

  pub counting_end : length w ≤ i → Ok v ≡ numeral_of most w
  unfolding numeral_of value_from
  counting_end h =
      let all : value_of w ≡ v = g.same ∙ rw (drop_of_length-le w h) in
      rw (g.digits, all, le-leb v most g.small)
