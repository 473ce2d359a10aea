-- Laws of the test whether two words are the same. Assumes nothing.
use Prim.Native.Nat.{ℕ}
use mathlib.Core.Path.{◌≡◌, refl}
use mathlib.Core.Bool.{true}
use mathlib.Core.List.{List, [], ◌∷◌}
use native.Mathlib.Omega.{arith}
use lib.Dec.{eqb}
use lib.Pointwise.{pointwise}
use borrow.Author.Tests.{eqb-true, eq-eqb}
use Rattle.model.proofs.Tests.{and_l, and_r, and_i}
use Rattle.text.specs.Words.{same}

pub same_self : (w : List ℕ) → same w w ≡ true
unfolding same
same_self [] = refl
same_self (b ∷ w) = and_i (eqb b b) (same w w) (eq-eqb b b refl) (same_self w)

pub same_true : (v w : List ℕ) → same v w ≡ true → v ≡ w
unfolding same
same_true [] [] e = refl
same_true [] (b ∷ w) e = let z : ◌≡◌ {A = ℕ} 0 1 = cc in absurd (omega arith)
same_true (a ∷ v) [] e = let z : ◌≡◌ {A = ℕ} 0 1 = cc in absurd (omega arith)
same_true (a ∷ v) (b ∷ w) e = rw (eqb-true a b (and_l (eqb a b) (same v w) e), same_true v w (and_r (eqb a b) (same v w) e))

-- what `==` answers at two slices of bytes
pub same_pointwise : (v w : List ℕ) → pointwise eqb v w ≡ same v w
unfolding same
same_pointwise [] [] = refl
same_pointwise [] (b ∷ w) = refl
same_pointwise (a ∷ v) [] = refl
same_pointwise (a ∷ v) (b ∷ w) = rw (same_pointwise v w)
