-- One turn of the walk over headers: what the block at the place seen last makes of it. Assumes nothing.
use Prim.Native.Nat.{ℕ, ◌+◌, ◌-◌, ◌%◌, ◌≤◌, ◌<◌, max}
use mathlib.Core.Path.{◌≡◌, refl, sym, ap, ◌∙◌}
use mathlib.Core.Bool.{true, false, not, ◌&&◌}
use mathlib.Core.List.{List, ◌∷◌}
use native.Mathlib.Omega.{arith}
use native.Mathlib.Nat.{add-zero, max-zero}
use lib.ListN.{length, drop}
use lib.Dec.{leb, ltb, eqb}
use borrow.Author.Tests.{leb-true, eqb-true, eqb-false, ltb-true, ltb-false, le-leb, lt-leb, eq-eqb, ne_eqb, lt-ltb, le-ltb}
use Rattle.std.specs.Prelude.{Some, None}
use Rattle.std.specs.Bool.{then_some}
use Rattle.model.specs.Limits.{most_tasks}
use Rattle.model.specs.Blocks.{Block, block, is_free, ok_block}
use Rattle.model.specs.Bytes.{u32_at, header_at, blocks_of}
use Rattle.model.proofs.Tests.{by, and_l, and_r, and_i, and_f_r}
use Rattle.model.proofs.Bytes.{first-at, blocks_at, blocks_end}
use Rattle.layout.specs.declared.Seen.{Seen}
use Rattle.layout.specs.declared.Stop.TheVariants.{Here, End}
use Rattle.layout.specs.Layout.{pass, behind, wanted, may_stand, stands, walk, walk_at}

-- ---- a header that may stand in a pool

pub record Fit (b : Block) : Type 0 where
  pub by_four : b.size % 4 ≡ 0
  pub least : 12 ≤ b.size
  pub owned : b.owner ≤ most_tasks

pub open_block : (b : Block) → ok_block most_tasks b ≡ true → Fit b
open_block b h =
    let x = eqb (b.size % 4) 0 in
    let y = leb 12 b.size in
    let z = leb b.owner most_tasks in
    let h2 = and_r x (y && z) h in
    record { by_four = eqb-true (b.size % 4) 0 (and_l x (y && z) h); least = leb-true 12 b.size (and_l y z h2); owned = leb-true b.owner most_tasks (and_r y z h2) }

module _ (n : ℕ) (v : Seen) (b : Block) where
  pub record Standing : Type 0 where
    pub ahead : v.at + 12 ≤ n
    pub fit : ok_block most_tasks b ≡ true

  pub open_stands : stands n v b ≡ true → Standing
  open_stands h =
      let x = leb (v.at + 12) n in
      let y = not (is_free b && behind v) in
      let z = ok_block most_tasks b in
      record { ahead = leb-true (v.at + 12) n (and_l x (y && z) h); fit = and_r y z (and_r x (y && z) h) }

  pub close_stands : v.at + 12 ≤ n → may_stand v b ≡ true → stands n v b ≡ true
  close_stands a m = and_i (leb (v.at + 12) n) (may_stand v b) (le-leb (v.at + 12) n a) m

  -- and what may not stand
  pub unfit : may_stand v b ≡ false → stands n v b ≡ false
  unfit h = and_f_r (leb (v.at + 12) n) (may_stand v b) h

  pub short : n < v.at + 12 → stands n v b ≡ false
  short h = rw (lt-leb (v.at + 12) n h)

-- ---- the walk over bytes

module _ (need byte : ℕ) (s : List ℕ) (v : Seen) where
  pub walk_end : v.at ≡ length s → walk_at need byte s v ≡ Some (End v)
  unfolding walk
  walk_end h = ap (walk need byte (length s) v) (blocks_end v.at s (omega arith)) ∙ rw (eq-eqb v.at (length s) h)

  -- z and o are what was read at the place
  module _ (z o : ℕ) (h : v.at < length s) (ez : z ≡ u32_at s v.at) (eo : o ≡ u32_at s (v.at + 4)) where
    here : header_at s v.at ≡ block z o
    here = λ i. block (sym ez i) (sym eo i)

    pub walk_bad : stands (length s) v (block z o) ≡ false → walk_at need byte s v ≡ None
    unfolding walk
    walk_bad e = let f = first-at v.at s h in ap (walk need byte (length s) v) (f.1 ∙ ap (λ (b : Block). b ∷ f.0) here) ∙ rw e

    module _ (e : stands (length s) v (block z o) ≡ true) where
      ahead : blocks_of (drop v.at s) ≡ block z o ∷ blocks_of (drop (v.at + z) s)
      ahead =
          let g = open_block (block z o) (open_stands (length s) v (block z o) e).fit in
          blocks_at v.at s h (omega (arith, g.least)) ∙ (λ i. here i ∷ blocks_of (drop (v.at + sym ez i) s))

      pub walk_here : wanted need byte v.at (block z o) ≡ true → walk_at need byte s v ≡ Some (Here v)
      unfolding walk
      walk_here w = ap (walk need byte (length s) v) ahead ∙ rw (e, w)

      pub walk-pass : wanted need byte v.at (block z o) ≡ false → walk_at need byte s v ≡ walk_at need byte s (pass (block z o) v)
      unfolding walk pass
      walk-pass w = ap (walk need byte (length s) v) ahead ∙ rw (e, w)

  pub walk-short : (v.at ≡ length s → ⊥) → length s - 12 < v.at → 12 ≤ length s → walk_at need byte s v ≡ None
  unfolding walk
  walk-short ne k m =
      by (ltb v.at (length s))
      (λ e. let h : v.at < length s = ltb-true v.at (length s) e in walk_bad (u32_at s v.at) (u32_at s (v.at + 4)) h refl refl (short (length s) v (block (u32_at s v.at) (u32_at s (v.at + 4))) (omega arith)))
      (λ e. ap (walk need byte (length s) v) (blocks_end v.at s (ltb-false v.at (length s) e)) ∙ rw (ne_eqb v.at (length s) ne))

  -- behind the last place that has room for a header
  pub walk_stop : length s - 12 < v.at → 12 ≤ length s → walk_at need byte s v ≡ then_some (eqb v.at (length s)) (End v)
  walk_stop k m =
      by (eqb v.at (length s))
      (λ e. rw e (walk_end (eqb-true v.at (length s) e)))
      (λ e. rw e (walk-short (eqb-false v.at (length s) e) k m))

-- ---- what a block passed adds to what was seen

module _ (v : Seen) (z o : ℕ) where
  pub pass-live : (o ≡ 0 → ⊥) → record { at = v.at + z; free = v.at + z; greatest = v.greatest; sum = v.sum } ≡ pass (block z o) v
  unfolding pass
  pass-live h = simp (ne_eqb o 0 h, max-zero, add-zero)

  pub pass-free : (g : ℕ) → o ≡ 0 → g ≡ max v.greatest (z - 8)
      → record { at = v.at + z; free = v.at; greatest = g; sum = v.sum + (z - 8) } ≡ pass (block z o) v
  unfolding pass
  pass-free g h e = simp (eq-eqb o 0 h, e)

  pub pass-at : (pass (block z o) v).at ≡ v.at + z
  unfolding pass
  pass-at = refl

  pub pass-sum : v.sum ≤ v.at → (pass (block z o) v).sum ≤ (pass (block z o) v).at
  unfolding pass
  pass-sum h = by (is_free (block z o)) (λ t. rw t (omega arith)) (λ t. rw t (omega arith))

  pub pass-behind : 0 < z → behind (pass (block z o) v) ≡ is_free (block z o)
  unfolding pass
  pass-behind h =
      by (is_free (block z o))
      (λ t. rw t (lt-ltb v.at (v.at + z) (omega arith)))
      (λ t. rw t (le-ltb (v.at + z) (v.at + z) (omega arith)))
