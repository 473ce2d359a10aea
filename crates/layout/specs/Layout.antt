-- What the routines on the pool's bytes answer and leave.
use Rattle.std.specs.Prelude.{ℕ, ◌+◌, ◌≤◌, ◌<◌, max, ◌≡◌, Bool, true, false, not, cond, ◌&&◌, ◌||◌, List, [], ◌∷◌, ◌++◌, length, drop, replicate, leb, ltb, eqb, Option, Some, None}
use Rattle.std.proofs.Math.Option.{none}
use Rattle.model.specs.declared.HeaderPlace.{HeaderPlace}
use Rattle.model.specs.Limits.{most_tasks, longest_pool}
use Rattle.model.specs.Blocks.{Block, block, is_free, total, ok_block, tiled, holds, fits, first_fit, live_at, freed, room, sum_free, greatest_free}
use Rattle.model.specs.Bytes.{u32_at, blocks_of, header, overlay, written, render, erase}
use Rattle.model.specs.Rules.{ok_long}
use Rattle.model.specs.Calls.{offset_of}
use Rattle.layout.specs.declared.header.Header.{Header}
use Rattle.layout.specs.declared.Target.{Target}
use Rattle.layout.specs.declared.Target.TheVariants as target
use Rattle.layout.specs.declared.Spot.{Spot}
use Rattle.layout.specs.declared.Seen.{Seen}
use Rattle.layout.specs.declared.Stop.{Stop}
use Rattle.layout.specs.declared.Stop.TheVariants.{Here, End}
use Rattle.layout.specs.declared.Survey.{Survey}

-- ---- numbers and headers in bytes

-- what is read at a place
pub record Read (bytes : List ℕ) (at r : ℕ) : Type 0 where
  pub is : r ≡ u32_at bytes at
  pub small : r < 4294967296

-- the header read at a place: its size, and behind that its owner
pub record ReadHeader (bytes : List ℕ) (at : ℕ) (h : Header) : Type 0 where
  pub size : Read bytes at h.size
  pub owner : Read bytes (at + 4) h.owner

-- the bytes xs at the place p, every other byte kept
unfoldable pub put : ℕ → List ℕ → List ℕ → List ℕ
put p xs bytes = overlay (replicate p none ++ written xs) bytes

-- ---- a sound pool

unfoldable pub sound_pool : List ℕ → Bool
sound_pool l = ok_long (length l) && (eqb (total (blocks_of l)) (length l) && tiled most_tasks false (blocks_of l))

-- ---- the survey: what any bytes are found to be

-- the first block that passes a test of place and block, and where the free bytes that end at it begin; `at` and `free` are those of the first block
unfoldable pub seek : (ℕ → Block → Bool) → ℕ → ℕ → List Block → Option Spot
seek test at free [] = None
seek test at free (b ∷ bs) =
    cond (test at b)
    (Some (record { place = record { 0 = at }; free = record { 0 = free } }))
    (seek test (at + b.size) (cond (is_free b) at (at + b.size)) bs)

abbrev pub sought : Target → ℕ → Block → Bool
sought (target.Run need) at b = holds need b
sought (target.Holder o) at b = ltb o.0 (at + b.size)
sought target.Nothing at b = false

-- None where the bytes are no sound pool
abbrev pub survey_of : Target → List ℕ → Option Survey
survey_of t l =
    cond (sound_pool l)
    (Some (record { found = seek (sought t) 0 0 (blocks_of l); greatest = greatest_free (blocks_of l); sum = sum_free (blocks_of l) }))
    None

abbrev pub first_fit_of : ℕ → List Block → Option Spot
first_fit_of need bs = seek (λ at b. holds need b) 0 0 bs

-- ---- the walk: what was seen so far, and where it stops

-- what is seen once a block is passed
unfoldable pub pass : Block → Seen → Seen
pass b v =
    record { at = v.at + b.size; free = cond (is_free b) v.at (v.at + b.size); greatest = max v.greatest (room b); sum = v.sum + room b }

-- the block before is free
abbrev pub behind : Seen → Bool
behind v = ltb v.free v.at

-- a free block of at least `need` bytes, or a block that ends past `byte`
abbrev pub wanted : ℕ → ℕ → ℕ → Block → Bool
wanted need byte at b = holds need b || ltb byte (at + b.size)

-- a block that may stand behind what was seen
abbrev pub may_stand : Seen → Block → Bool
may_stand v b = not (is_free b && behind v) && ok_block most_tasks b

-- and with 12 bytes left there; a block that ends past the pool's end shows when the walk ends
abbrev pub stands : ℕ → Seen → Block → Bool
stands n v b = leb (v.at + 12) n && may_stand v b

-- over blocks that are to end at n; None where they are no sound pool
unfoldable pub walk : ℕ → ℕ → ℕ → Seen → List Block → Option Stop
walk need byte n v [] = cond (eqb v.at n) (Some (End v)) None
walk need byte n v (b ∷ bs) = cond (stands n v b) (cond (wanted need byte v.at b) (Some (Here v)) (walk need byte n (pass b v) bs)) None

-- over the bytes of a pool from the place seen last on
abbrev pub walk_at : ℕ → ℕ → List ℕ → Seen → Option Stop
walk_at need byte l v = walk need byte (length l) v (blocks_of (drop v.at l))

-- a target as two numbers, which no block of a pool meets where they stand for nothing
abbrev pub need_of : Target → ℕ
need_of (target.Run need) = need
need_of (target.Holder o) = longest_pool + 1
need_of target.Nothing = longest_pool + 1

abbrev pub byte_of : Target → ℕ
byte_of (target.Run need) = longest_pool
byte_of (target.Holder o) = o.0
byte_of target.Nothing = longest_pool

abbrev pub spot_of : Seen → Spot
spot_of v = record { place = record { 0 = v.at }; free = record { 0 = v.free } }

-- ---- changes

-- the bytes after a change of the block list
abbrev pub changed : (List Block → List Block) → List ℕ → List ℕ
changed f l = render (f (blocks_of l)) (erase (blocks_of l) l)

-- a sound pool whose first free run of at least `need` bytes is at the place
pub record Grantable (l : List ℕ) (place : HeaderPlace) (need : ℕ) : Type 0 where
  pub pool : sound_pool l ≡ true
  pub least : 12 ≤ need
  pub run : fits need (blocks_of l) ≡ true
  pub place_is : place.0 ≡ first_fit need (blocks_of l)

-- a sound pool with a live block at the spot
pub record Releasable (l : List ℕ) (spot : Spot) : Type 0 where
  pub pool : sound_pool l ≡ true
  pub live : live_at spot.place.0 (blocks_of l) ≡ true
  pub found : seek (sought (target.Holder (offset_of spot.place))) 0 0 (blocks_of l) ≡ Some spot

-- what a release of the block at the place p leaves: a need fits exactly if it did before, or the run that is now free, of r bytes, holds it
pub record Released (l : List ℕ) (p : ℕ) (after : List ℕ) (r : ℕ) : Type 0 where
  pub bytes : after ≡ changed (freed p) l
  pub runs : (need : ℕ) → fits need (freed p (blocks_of l)) ≡ leb need r || fits need (blocks_of l)

-- the bytes after the header of a free block is erased, and the block's size, or 0
pub record Swallowed : Type 0 where
  pub size : ℕ
  pub bytes : List ℕ

abbrev pub swallowed : ℕ → List ℕ → Swallowed
swallowed size l = record { size = size; bytes = l }

abbrev pub swallow_of : ℕ → List ℕ → Swallowed
swallow_of at l =
    cond (ltb at (length l) && eqb (u32_at l (at + 4)) 0)
    (swallowed (u32_at l at) (put at (header (block 0 0)) l))
    (swallowed 0 l)
