-- Laws of spans: the longest starts of a text whose bytes are of a class. Assumes nothing.
use Prim.Native.Nat.{ℕ, ◌+◌, ◌≤◌}
use mathlib.Core.Path.{◌≡◌, refl}
use mathlib.Core.Bool.{Bool, true, ◌&&◌}
use mathlib.Core.List.{List, [], ◌∷◌, ◌++◌}
use native.Mathlib.Omega.{arith}
use lib.Dec.{leb}
use lib.ListN.{length, take, drop, drop_of_length-le}
use borrow.Author.Tests.{leb-true, le-leb, ne_eqb}
use Rattle.std.specs.List.{prefix_len}
use Rattle.model.proofs.Tests.{by, and_l, and_r, and_i}
use Rattle.text.specs.declared.words.Class.{Class}
use Rattle.text.specs.declared.words.Class.TheVariants.{Line, Plain, Blank, Word, Digit}
use Rattle.text.specs.Decimal.{all_digits}
use Rattle.text.specs.Words.{belongs, span}

-- ---- the clauses of a span

pub span_in : (c : Class) (b : ℕ) (s : List ℕ) → belongs c b ≡ true → span c (b ∷ s) ≡ b ∷ span c s
unfolding span
span_in c b s h = rw h

-- the count of the elements from the front on that are of the class
pub prefix_len-span : (c : Class) (s : List ℕ) → prefix_len (belongs c) s ≡ length (span c s)
unfolding span
prefix_len-span c [] = refl
prefix_len-span c (b ∷ s) = by (belongs c b) (λ h. rw h (omega (arith, prefix_len-span c s))) (λ h. rw h)

-- past the end there is none
pub span_past : (c : Class) (s : List ℕ) (i : ℕ) → length s ≤ i → i ≡ i + length (span c (drop i s))
unfolding span
span_past c s i h = rw (drop_of_length-le s h) (omega arith)

-- ---- a span and what stands behind it

-- it is a start of the text
pub span-most : (c : Class) (s : List ℕ) → length (span c s) ≤ length s
unfolding span
span-most c [] = omega arith
span-most c (b ∷ s) = by (belongs c b) (λ h. rw h (omega (arith, span-most c s))) (λ h. rw h (omega arith))

pub span-take : (c : Class) (s : List ℕ) → take (length (span c s)) s ≡ span c s
unfolding span
span-take c [] = refl
span-take c (b ∷ s) = by (belongs c b) (λ h. rw (h, span-take c s)) (λ h. rw h)

-- every byte is of the class
unfoldable pub every : Class → List ℕ → Bool
every c [] = true
every c (b ∷ s) = belongs c b && every c s

pub span_every : (c : Class) (s : List ℕ) → every c s ≡ true → span c s ≡ s
unfolding every span
span_every c [] e = refl
span_every c (b ∷ s) e = rw (and_l (belongs c b) (every c s) e, span_every c s (and_r (belongs c b) (every c s) e))

pub every_append : (c : Class) (s t : List ℕ) → every c s ≡ true → every c t ≡ true → every c (s ++ t) ≡ true
unfolding every
every_append c [] t e f = f
every_append c (b ∷ s) t e f = and_i (belongs c b) (every c (s ++ t)) (and_l (belongs c b) (every c s) e) (every_append c s t (and_r (belongs c b) (every c s) e) f)

-- a digit is of every class but that of blanks
digit_word : (c : Class) (d : ℕ) → 48 ≤ d → d ≤ 57 → (c ≡ Blank → ⊥) → belongs c d ≡ true
digit_word Line d h k n = rw (ne_eqb d 10 (λ q. omega arith))
digit_word Plain d h k n = rw (ne_eqb d 35 (λ q. omega arith))
digit_word Blank d h k n = absurd (n refl)
digit_word Word d h k n = rw (ne_eqb d 32 (λ q. omega arith), ne_eqb d 9 (λ q. omega arith), ne_eqb d 13 (λ q. omega arith))
digit_word Digit d h k n = and_i (leb 48 d) (leb d 57) (le-leb 48 d h) (le-leb d 57 k)

pub every_digit : (c : Class) (s : List ℕ) → (c ≡ Blank → ⊥) → all_digits s ≡ true → every c s ≡ true
unfolding every all_digits
every_digit c [] n e = refl
every_digit c (d ∷ s) n e =
    let t = and_l (leb 48 d && leb d 57) (all_digits s) e in
    and_i (belongs c d) (every c s)
    (digit_word c d (leb-true 48 d (and_l (leb 48 d) (leb d 57) t)) (leb-true d 57 (and_r (leb 48 d) (leb d 57) t)) n)
    (every_digit c s n (and_r (leb 48 d && leb d 57) (all_digits s) e))
