-- Several numbers one after another, read and written.
use Rattle.std.specs.Prelude.{ℕ, zero, suc, ◌+◌, ◌<◌, List, [], ◌∷◌, ◌++◌, length, drop, Option, Some, None}
use Rattle.numbers.specs.declared.Number.{Number}
use Rattle.numbers.specs.Number.{number_of, encode, number_bound}

-- the numbers that were read, with the place after the last, or that one of them is refused
pub data Fields : Type 0 where
  Fields·read : List ℕ → ℕ → Fields
  Fields·refused : Fields

-- the numbers vs, of m bytes, in front of others
abbrev pub before : List ℕ → ℕ → Fields → Fields
before vs m (Fields·read ws n) = Fields·read (vs ++ ws) (m + n)
before vs m Fields·refused = Fields·refused

-- a number of n bytes, and the others behind them
abbrev pub first : Option Number → (ℕ → Fields) → Fields
first (Some x) rest = before (x.value ∷ []) x.size (rest x.size)
first None rest = Fields·refused

-- the first k numbers of a list of bytes
unfoldable pub read_fields : ℕ → List ℕ → Fields
read_fields zero s = Fields·read [] 0
read_fields (suc k) s = first (number_of s) λ n. read_fields k (drop n s)

-- numbers in bytes
unfoldable pub encode_fields : List ℕ → List ℕ
encode_fields [] = []
encode_fields (v ∷ vs) = encode v ++ encode_fields vs

-- how many bytes they need
unfoldable pub fields_length : List ℕ → ℕ
fields_length [] = 0
fields_length (v ∷ vs) = length (encode v) + fields_length vs

-- numbers that can be read
abbrev pub Small : List ℕ → Type 0
Small [] = Unit {0}
Small (v ∷ vs) = (v < number_bound) × Small vs
