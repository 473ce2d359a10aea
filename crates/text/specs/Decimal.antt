-- Decimal text of natural numbers, as lists of ASCII codes.
use Rattle.std.specs.Prelude.{ℕ, zero, suc, ◌+◌, ◌-◌, ◌*◌, ◌/◌, ◌%◌, List, [], ◌∷◌, ◌++◌, Bool, true, false, ◌&&◌, leb, ltb}
use Prim.Native.Char.{code}

-- the digit of a number below 10
abbrev pub digit : ℕ → ℕ
digit d = code "0" + d

-- n in at most k + 1 digits
unfoldable pub digits : ℕ → ℕ → List ℕ
digits zero n = digit n ∷ []
digits (suc k) n = elim (ltb n 10) [ true ↦ digit n ∷ [] | false ↦ digits k (n / 10) ++ (digit (n % 10) ∷ []) ]

-- n without leading zeros (n + 1 digits are always enough)
abbrev pub decimal : ℕ → List ℕ
decimal n = digits n n

-- a number between two texts
abbrev pub around : List ℕ → ℕ → List ℕ → List ℕ
around a n b = a ++ (decimal n ++ b)

-- the number that digits say, behind digits that say v
unfoldable pub value_from : ℕ → List ℕ → ℕ
value_from v [] = v
value_from v (d ∷ s) = value_from (10 * v + (d - code "0")) s

abbrev pub value_of : List ℕ → ℕ
value_of s = value_from 0 s

-- every element is a digit
unfoldable pub all_digits : List ℕ → Bool
all_digits [] = true
all_digits (d ∷ s) = (leb (code "0") d && leb d (code "9")) && all_digits s
