-- The search by halving, and the kinds in use. Assumes nothing.
use Prim.Native.Nat.{ℕ, ◌+◌, ◌-◌, ◌≤◌, ◌<◌, max, min}
use mathlib.Core.Path.{◌≡◌, ap, ◌∙◌}
use native.Mathlib.Omega.{arith}
use lib.Dec.{leb}
use borrow.Author.Tests.{leb-true, leb-false}
use Rattle.model.specs.Sizes.{kind, last_place, kinds_below, smallest, top_place, lowest_place, kind_for}
use Rattle.model.proofs.Tests.{by}
use Rattle.model.proofs.Sizes.{Smallest, kind_grows, smallest-is, smallest-only}
use Rattle.sizes.specs.Search.{skipped}

-- the smallest kind that is at least s lies between two places: those before `low` are below s, and that at `high` is not, unless it is the last
pub record Range (s low high : ℕ) : Type 0 where
  pub within : high ≤ last_place
  pub below : (j : ℕ) → j < low → kind j < s
  pub above : high < last_place → s ≤ kind high

pub whole : (s : ℕ) → Range s 0 last_place
whole s = record { within = omega arith; below = λ j h. absurd (omega (arith, h)); above = λ h. absurd (omega (arith, h)) }

-- a step leaves v places behind the one it answers
pub skip_range : (s i w v n r : ℕ) → w ≤ v + 1 → n ≡ i + w + v → Range s i n → r ≡ skipped s i w → Range s r (r + v)
skip_range s i w v n r m d o e =
    by (leb s (kind (i + w - 1)))
    (λ h. let k = leb-true s (kind (i + w - 1)) h in
    let z : r ≡ i = e ∙ rw h in
    rw z (record {
      within = omega (arith, o.within, d);
      below = o.below;
      above = λ _. omega (arith, k, kind_grows (i + w - 1) (i + v) (omega (arith, m)));
    }))
    (λ h. let k = leb-false s (kind (i + w - 1)) h in
    let z : r ≡ i + w = e ∙ rw h in
    rw z (record {
      within = omega (arith, o.within, d);
      below = λ j b. omega (arith, k, kind_grows j (i + w - 1) (omega (arith, b)));
      above = rw d at o.above;
    }))

pub found : (s r : ℕ) → Range s r (r + 0) → r ≡ smallest s 0 last_place
found s r o =
    let e : r + 0 ≡ r = omega arith in
    let k : r < last_place → s ≤ kind r = rw e at o.above in
    smallest-only s 0 last_place r (record { from = omega arith; to = omega (arith, o.within); holds = λ h. k (omega (arith, h)); least = λ j _ b. o.below j b })

pub place-within : (s r : ℕ) → r ≡ smallest s 0 last_place → r ≤ last_place
place-within s r e = omega (arith, e, (smallest-is s 0 last_place).to)

-- ---- the kinds in use: a place that is found in the whole table, kept within them

module _ (m s top place : ℕ) (is-top : top ≡ top_place m) (is-place : place ≡ smallest s 0 last_place) where
  abbrev low : ℕ
  low = lowest_place m

  top_last : top ≤ last_place
  top_last = place-within m top is-top

  found_there : Smallest s 0 last_place place
  found_there = rw is-place (smallest-is s 0 last_place)

  -- the place r is that of the smallest kind in use
  in_use : (r : ℕ) → low ≤ r → r ≤ top → (r < top → s ≤ kind r) → ((j : ℕ) → low ≤ j → j < r → kind j < s) → kind r ≡ kind_for m s
  in_use r a b holds least =
      ap (λ (i : ℕ). kind i)
      (smallest-only s low (top_place m - low) r
      (record { from = a; to = omega (arith, b, is-top); holds = λ h. holds (omega (arith, h, is-top)); least = least }))

  -- the place found, kept between the lowest and the top
  pub kept : kind (max (top - kinds_below) (min place top)) ≡ kind_for m s
  kept =
      let r = max (top - kinds_below) (min place top) in
      in_use r (omega (arith, is-top)) (omega arith)
      (λ h. omega (arith, found_there.holds (omega (arith, h, top_last)), kind_grows place r (omega (arith, h))))
      (λ j a b. found_there.least j (omega arith) (omega (arith, a, b, is-top)))
