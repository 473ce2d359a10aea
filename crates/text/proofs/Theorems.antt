-- The theorems of decimal text. Assumes nothing.
use Prim.Native.Nat.{ℕ, ◌<◌, ◌≤◌, ◌%◌, ◌/◌}
use mathlib.Core.Path.{◌≡◌, sym, ap, ◌∙◌}
use mathlib.Core.List.{List, [], ◌∷◌, ◌++◌}
use native.Mathlib.Omega.{arith}
use lib.ListN.{length, get_or, length-append}
use Rattle.text.specs.Decimal.{digit, decimal, value_from, value_of}
use Rattle.text.proofs.Decimal.{decimal_ind, value_append}

-- it is never empty
pub decimal-some : (n : ℕ) → 1 ≤ length (decimal n)
decimal-some = decimal_ind (λ n s. 1 ≤ length s) (λ n h. omega arith) (λ n s h ih. simp length-append (omega arith))

-- no leading zero, but for 0 itself
pub decimal-first : (n : ℕ) → 0 < n → digit 0 < get_or (decimal n) 0 0
decimal-first = decimal_ind (λ n s. 0 < n → digit 0 < get_or s 0 0) (λ n h l. omega arith) next
  where
    next : (n : ℕ) (s : List ℕ) → 10 ≤ n → (0 < n / 10 → digit 0 < get_or s 0 0) → 0 < n → digit 0 < get_or (s ++ (digit (n % 10) ∷ [])) 0 0
    next n [] h ih l = absurd (omega (arith, ih (omega arith)))
    next n (b ∷ s) h ih l = ih (omega arith)

-- it reads back to the number
pub value_decimal : (n : ℕ) → value_of (decimal n) ≡ n
unfolding value_from
value_decimal = decimal_ind (λ n s. value_of s ≡ n) (λ n h. omega arith) (λ n s h ih. value_append 0 s (n % 10) ∙ omega arith)

pub decimal_injective : (m n : ℕ) → decimal m ≡ decimal n → m ≡ n
decimal_injective m n e = sym (value_decimal m) ∙ ap value_of e ∙ value_decimal n
