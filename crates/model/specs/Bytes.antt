-- The pool in bytes: the block list from the bytes, and the bytes from the block list.
use Rattle.std.specs.Prelude.{ℕ, zero, suc, ◌+◌, ◌-◌, ◌*◌, ◌/◌, ◌%◌, List, [], ◌∷◌, ◌++◌, get_or, replicate}
use Rattle.std.proofs.Math.Option.{Option, none, some}
use Rattle.model.specs.Blocks.{Block, block}

-- ---- the block list of bytes

-- the number in four bytes from the place p on, lowest first
abbrev pub u32_at : List ℕ → ℕ → ℕ
u32_at bytes p = get_or bytes p 0 + 256 * get_or bytes (p + 1) 0 + 65536 * get_or bytes (p + 2) 0 + 16777216 * get_or bytes (p + 3) 0

-- the header at the place p: the size, then the owner
abbrev pub header_at : List ℕ → ℕ → Block
header_at bytes p = block (u32_at bytes p) (u32_at bytes (p + 4))

-- the walk over bytes of which the first `skip` belong to a block that was passed
unfoldable pub blocks_from : ℕ → List ℕ → List Block
blocks_from skip [] = []
blocks_from zero (x ∷ bytes) = header_at (x ∷ bytes) 0 ∷ blocks_from (u32_at (x ∷ bytes) 0 - 1) bytes
blocks_from (suc skip) (x ∷ bytes) = blocks_from skip bytes

-- from offset 0, blocks follow one another
abbrev pub blocks_of : List ℕ → List Block
blocks_of bytes = blocks_from 0 bytes

-- ---- the bytes of a block list

-- a number as four bytes, lowest first
unfoldable pub le32 : ℕ → List ℕ
le32 n = n % 256 ∷ n / 256 % 256 ∷ n / 65536 % 256 ∷ n / 16777216 % 256 ∷ []

unfoldable pub header : Block → List ℕ
unfolding le32
header b = le32 b.size ++ le32 b.owner

abbrev pub blank : Block → List ℕ
blank b = 0 ∷ 0 ∷ 0 ∷ 0 ∷ 0 ∷ 0 ∷ 0 ∷ 0 ∷ []

-- the bytes with those of a mask over them; `none` keeps a byte
unfoldable pub overlay : List (Option ℕ) → List ℕ → List ℕ
overlay [] bytes = bytes
overlay (m ∷ ms) [] = []
overlay (none ∷ ms) (x ∷ bytes) = x ∷ overlay ms bytes
overlay (some y ∷ ms) (x ∷ bytes) = y ∷ overlay ms bytes

unfoldable pub written : List ℕ → List (Option ℕ)
written [] = []
written (x ∷ l) = some x ∷ written l

-- eight bytes at the place of each block, nothing up to its end
unfoldable pub mask : (Block → List ℕ) → List Block → List (Option ℕ)
mask h [] = []
mask h (b ∷ bs) = (written (h b) ++ replicate (b.size - 8) none) ++ mask h bs

-- the header of each block at its place, every other byte kept
unfoldable pub render : List Block → List ℕ → List ℕ
render bs bytes = overlay (mask header bs) bytes

-- zeros in the 8 bytes of each block's header, every other byte kept
unfoldable pub erase : List Block → List ℕ → List ℕ
erase bs bytes = overlay (mask blank bs) bytes
