-- The block list of a pool: its free runs, grant and release. Places are counted in bytes from the first block on.
use Rattle.std.specs.Prelude.{ℕ, ◌+◌, ◌-◌, ◌%◌, max, Bool, true, false, not, cond, ◌&&◌, ◌||◌, List, [], ◌∷◌, leb, ltb, eqb}

-- A block's size, header included, and its owner: 0 is free, any other number is that task. The *block list* is that of each block, in order from 0.
pub record Block : Type 0 where
  pub size : ℕ
  pub owner : ℕ

abbrev pub block : ℕ → ℕ → Block
block n t = record { size = n; owner = t }

abbrev pub is_free : Block → Bool
is_free b = eqb b.owner 0

-- ---- a sound block list

unfoldable pub total : List Block → ℕ
total [] = 0
total (b ∷ bs) = b.size + total bs

-- sizes are multiples of 4, at least 12; owners are at most the greatest task number
abbrev pub ok_block : ℕ → Block → Bool
ok_block tasks b = eqb (b.size % 4) 0 && (leb 12 b.size && leb b.owner tasks)

-- such blocks, no two neighbours free; `behind` says whether the block before them is free
unfoldable pub tiled : ℕ → Bool → List Block → Bool
tiled tasks behind [] = true
tiled tasks behind (b ∷ bs) = ok_block tasks b && (not (is_free b && behind) && tiled tasks (is_free b) bs)

-- ---- grant

abbrev pub holds : ℕ → Block → Bool
holds n b = is_free b && leb n b.size

-- some free run has at least n bytes
unfoldable pub fits : ℕ → List Block → Bool
fits n [] = false
fits n (b ∷ bs) = holds n b || fits n bs

-- the lowest place of such a run; 0 where there is none
unfoldable pub first_fit : ℕ → List Block → ℕ
first_fit n [] = 0
first_fit n (b ∷ bs) = cond (holds n b) 0 (b.size + first_fit n bs)

-- n bytes of the free run b for the task t: if 12 or more are left over, the rest is a free run directly behind, else the whole run is the block
unfoldable pub carve : ℕ → ℕ → Block → List Block → List Block
carve n t b bs = cond (leb (n + 12) b.size) (block n t ∷ block (b.size - n) 0 ∷ bs) (block b.size t ∷ bs)

-- *Grant*: the free run at the lowest place that has n bytes goes to the task t; no change where there is none
unfoldable pub granted : ℕ → ℕ → List Block → List Block
granted n t [] = []
granted n t (b ∷ bs) = cond (holds n b) (carve n t b bs) (b ∷ granted n t bs)

-- ---- release

-- a block that passes the test has its header at the place p. Only the walk from 0 counts.
unfoldable pub starts_at : (Block → Bool) → ℕ → List Block → Bool
starts_at test p [] = false
starts_at test p (b ∷ bs) = cond (eqb p 0) (test b) (leb b.size p && starts_at test (p - b.size) bs)

abbrev pub live_at : ℕ → List Block → Bool
live_at p bs = starts_at (λ b. not (is_free b)) p bs

abbrev pub free_at : ℕ → List Block → Bool
free_at p bs = starts_at is_free p bs

-- the place of the header of the block that holds the byte i; past the last block, where it ends
unfoldable pub holder : ℕ → List Block → ℕ
holder i [] = 0
holder i (b ∷ bs) = cond (ltb i b.size) 0 (b.size + holder (i - b.size) bs)

-- the block b in front of others, one with the first of these if both are free
unfoldable pub join : Block → List Block → List Block
join b [] = b ∷ []
join b (c ∷ bs) = cond (is_free c && is_free b) (block (b.size + c.size) 0 ∷ bs) (b ∷ c ∷ bs)

-- the block at the place p becomes free, joins a free block behind it, then one before it
unfoldable pub freed : ℕ → List Block → List Block
freed p [] = []
freed p (b ∷ bs) = cond (eqb p 0) (join (block b.size 0) bs) (join b (freed (p - b.size) bs))

-- ---- how many blocks are live

unfoldable pub live_count : List Block → ℕ
live_count [] = 0
live_count (b ∷ bs) = cond (is_free b) 0 1 + live_count bs

-- ---- what inquire tells

-- what a free run has for a task; nothing if the block is live
abbrev pub room : Block → ℕ
room b = cond (is_free b) (b.size - 8) 0

unfoldable pub sum_free : List Block → ℕ
sum_free [] = 0
sum_free (b ∷ bs) = room b + sum_free bs

unfoldable pub greatest_free : List Block → ℕ
greatest_free [] = 0
greatest_free (b ∷ bs) = max (room b) (greatest_free bs)
