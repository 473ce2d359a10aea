-- Size kinds: the 24 block sizes of source 000, those that a pool uses, and the rounding to them.
use Rattle.std.specs.Prelude.{ℕ, zero, suc, ◌+◌, ◌-◌, ◌*◌, ◌^◌, ◌≤◌, ◌≡◌, Bool, cond, ◌&&◌, List, [], ◌∷◌, leb}

-- the 24 sizes, at places counted from 0: number i + 1 is 24 times 2^i, less 12
abbrev pub kind : ℕ → ℕ
kind i = 24 * 2 ^ i - 12

abbrev pub last_place : ℕ
last_place = 23

-- n of them from the place i on
unfoldable pub kinds_from : ℕ → ℕ → List ℕ
kinds_from i zero = []
kinds_from i (suc n) = kind i ∷ kinds_from (suc i) n

-- a pool uses its top kind and so many below it, or all where there are fewer
abbrev pub kinds_below : ℕ
kinds_below = 11

-- the first place, from i on, of a size that is at least s; the place n further on where no size before it is
unfoldable pub smallest : ℕ → ℕ → ℕ → ℕ
smallest s i zero = i
smallest s i (suc n) = cond (leb s (kind i)) i (smallest s (suc i) n)

-- *Top kind* of the greatest request m: the smallest that is at least m
abbrev pub top_place : ℕ → ℕ
top_place m = smallest m 0 last_place

abbrev pub top_kind : ℕ → ℕ
top_kind m = kind (top_place m)

-- the place of the lowest kind in use
abbrev pub lowest_place : ℕ → ℕ
lowest_place m = top_place m - kinds_below

abbrev pub kinds_in_use : ℕ → List ℕ
kinds_in_use m = kinds_from (lowest_place m) (top_place m - lowest_place m + 1)

-- the smallest kind in use that is at least s
abbrev pub kind_for : ℕ → ℕ → ℕ
kind_for m s = kind (smallest s (lowest_place m) (top_place m - lowest_place m))

-- a greatest request that create takes for n bytes: neither 0 nor above the last size, and n has room for the top kind
abbrev pub ok_greatest : ℕ → ℕ → Bool
ok_greatest m n = leb 1 m && (leb m (kind last_place) && leb (top_kind m + 8) n)

-- k is the smallest of the kinds in use that is at least s
pub record SmallestKind (m s k : ℕ) : Type 0 where
  pub place : ℕ
  pub is : k ≡ kind place
  pub low : lowest_place m ≤ place
  pub high : place ≤ top_place m
  pub holds : s ≤ k
  pub least : (j : ℕ) → lowest_place m ≤ j → j ≤ top_place m → s ≤ kind j → k ≤ kind j
