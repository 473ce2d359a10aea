-- Laws of Bool tests. Assumes nothing.
use Prim.Native.Nat.{ℕ}
use mathlib.Core.Path.{◌≡◌, refl, sym}
use mathlib.Core.Bool.{Bool, true, false, not, ◌&&◌, ◌||◌}
use native.Mathlib.Omega.{arith}

-- by cases on a test
pub by {ℓ} : {X : Type ℓ} (b : Bool) → (b ≡ true → X) → (b ≡ false → X) → X
by true f g = f refl
by false f g = g refl

pub clash {ℓ} : {X : Type ℓ} (b : Bool) → b ≡ true → b ≡ false → X
clash b p q = absurd (let z : ◌≡◌ {A = ℕ} 0 1 = cc in omega arith)

pub and_l : (a b : Bool) → a && b ≡ true → a ≡ true
and_l true b e = refl
and_l false b e = e

pub and_r : (a b : Bool) → a && b ≡ true → b ≡ true
and_r true b e = e
and_r false b e = cc

pub and_i : (a b : Bool) → a ≡ true → b ≡ true → a && b ≡ true
and_i a b p q = rw p q

pub and_f_r : (a b : Bool) → b ≡ false → a && b ≡ false
and_f_r true b e = e
and_f_r false b e = refl

pub and-true : (a : Bool) → a && true ≡ a
and-true true = refl
and-true false = refl

pub and_swap : (a b c : Bool) → a && (b && c) ≡ b && (a && c)
and_swap true b c = refl
and_swap false true c = refl
and_swap false false c = refl

pub and_assoc : (a b c : Bool) → (a && b) && c ≡ a && (b && c)
and_assoc true b c = refl
and_assoc false b c = refl

pub or_f_l : (a b : Bool) → a || b ≡ false → a ≡ false
or_f_l true b e = e
or_f_l false b e = refl

pub or_f_r : (a b : Bool) → a || b ≡ false → b ≡ false
or_f_r true b e = cc
or_f_r false b e = e

pub or_f : (a b : Bool) → a ≡ false → b ≡ false → a || b ≡ false
or_f a b p q = rw p q

pub or_t_r : (a b : Bool) → b ≡ true → a || b ≡ true
or_t_r true b e = refl
or_t_r false b e = e

pub not_t : (a : Bool) → not a ≡ true → a ≡ false
not_t true e = sym e
not_t false e = refl

pub not_f : (a : Bool) → not a ≡ false → a ≡ true
not_f true e = refl
not_f false e = sym e
