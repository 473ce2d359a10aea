-- Seven-bit numbers of any count of groups, read and written, and the log's numbers, which are below 2^32.
use Rattle.std.specs.Prelude.{ℕ, zero, suc, ◌+◌, ◌-◌, ◌*◌, ◌/◌, ◌%◌, ◌<◌, List, [], ◌∷◌, true, false, cond, ltb, eqb, get_or, Option, Some, None}
use Rattle.numbers.specs.declared.Number.{Number}

-- every element is a byte
abbrev pub Bytes : List ℕ → Type 0
Bytes s = (i : ℕ) → get_or s i 0 < 256

-- the number v of n bytes
abbrev pub number : ℕ → ℕ → Option Number
number v n = Some (record { value = v; size = n })

-- a byte with the high bit set in front of a number. Before 0 it is refused: the form would not be the shortest
abbrev pub more : ℕ → Option Number → Option Number
more b (Some x) = cond (eqb x.value 0) None (number (b - 128 + 128 * x.value) (x.size + 1))
more b None = None

-- the number at the start of a list of bytes, of any count of groups, with the count of its bytes
unfoldable pub decode : List ℕ → Option Number
decode [] = None
decode (b ∷ s) = cond (ltb b 128) (number b 1) (more b (decode s))

-- n in groups of seven bits, at most k + 1 of them
unfoldable pub groups : ℕ → ℕ → List ℕ
groups zero n = n ∷ []
groups (suc k) n = elim (ltb n 128) [ true ↦ n ∷ [] | false ↦ (n % 128 + 128) ∷ groups k (n / 128) ]

-- n in its shortest form (n + 1 groups are always enough)
abbrev pub encode : ℕ → List ℕ
encode n = groups n n

-- the log's numbers are below 2^32
abbrev pub number_bound : ℕ
number_bound = 4294967296

abbrev pub bounded : Option Number → Option Number
bounded (Some x) = cond (ltb x.value number_bound) (Some x) None
bounded None = None

-- the log's number at the start of a list of bytes
abbrev pub number_of : List ℕ → Option Number
number_of s = bounded (decode s)
