-- Numbers in a line: they have no newline. Assumes nothing.
use Prim.Native.Nat.{ℕ, suc, ◌≤◌}
use mathlib.Core.Path.{◌≡◌, refl}
use mathlib.Core.Bool.{true, ◌&&◌}
use mathlib.Core.List.{List, [], ◌∷◌, ◌++◌}
use native.Mathlib.Omega.{arith}
use lib.Dec.{leb}
use lib.IntN.{ℤ, pos, negsuc}
use borrow.Author.Tests.{leb-true, ne_eqb}
use Rattle.model.proofs.Tests.{and_l, and_r}
use Rattle.text.specs.Decimal.{decimal, all_digits}
use Rattle.transcript.specs.Lines.{signed, is_line}
use Rattle.text.proofs.Decimal.{decimal-digits}

line-digits : (s t : List ℕ) → all_digits s ≡ true → is_line (s ++ t) ≡ is_line t
unfolding all_digits is_line
line-digits [] t e = refl
line-digits (d ∷ s) t e =
    let least : 48 ≤ d = leb-true 48 d (and_l (leb 48 d) (leb d 57) (and_l (leb 48 d && leb d 57) (all_digits s) e)) in
    rw (ne_eqb d 10 (λ q. omega arith)) (line-digits s t (and_r (leb 48 d && leb d 57) (all_digits s) e))

pub line-decimal : (n : ℕ) (t : List ℕ) → is_line (decimal n ++ t) ≡ is_line t
line-decimal n t = line-digits (decimal n) t (decimal-digits n)

pub line-signed : (z : ℤ) (t : List ℕ) → is_line (signed z ++ t) ≡ is_line t
unfolding is_line
line-signed (pos n) t = line-decimal n t
line-signed (negsuc n) t = line-decimal (suc n) t
