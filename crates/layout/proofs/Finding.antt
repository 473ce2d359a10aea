-- What the walk finds, in terms of the block list. Assumes nothing.
use Prim.Native.Nat.{ℕ, ◌+◌, ◌-◌, ◌≤◌, ◌<◌}
use mathlib.Core.Path.{◌≡◌, refl, sym, ap, ◌∙◌}
use mathlib.Core.Bool.{Bool, true, false, cond}
use mathlib.Core.List.{List, [], ◌∷◌}
use native.Mathlib.Omega.{arith}
use native.Mathlib.Nat.{zero-add, add-zero, sub-zero}
use lib.ListN.{length, drop}
use lib.Dec.{ltb}
use borrow.Author.Tests.{ltb-true, ltb-false, le-leb, ne_eqb, lt-ltb, le-ltb}
use Rattle.std.specs.Prelude.{Some, None}
use Rattle.model.specs.declared.BlockOffset.{BlockOffset}
use Rattle.model.specs.Limits.{most_tasks}
use Rattle.model.specs.Blocks.{Block, is_free, total, tiled, holds, fits, first_fit, starts_at, holder}
use Rattle.model.specs.Bytes.{header_at, blocks_of}
use Rattle.model.proofs.Tests.{by}
use Rattle.model.proofs.Blocks.{tile, starts}
use Rattle.model.proofs.Bytes.{header-at, tail_at}
use Rattle.layout.specs.declared.Spot.{Spot}
use Rattle.layout.specs.declared.Target.TheVariants as target
use Rattle.layout.specs.Layout.{sound_pool, seek, sought}
use Rattle.layout.proofs.Sound.{open_pool}

pub no_spot : {X : Type 0} {s : Spot} → None ≡ Some s → X
no_spot e = absurd (let z : ◌≡◌ {A = ℕ} 0 1 = cc in omega arith)

-- a run that holds the need, and the first
pub record FirstRun (n at : ℕ) (bs : List Block) (s : Spot) : Type 0 where
  pub run : fits n bs ≡ true
  pub place : s.place.0 ≡ at + first_fit n bs

seek-run : (n : ℕ) (bs : List Block) (at free : ℕ) (s : Spot) → seek (sought (target.Run n)) at free bs ≡ Some s → FirstRun n at bs s
unfolding seek fits first_fit
seek-run n [] at free s e = no_spot e
seek-run n (b ∷ bs) at free s e =
    by (holds n b)
    (λ h. let g : Some (record { place = record { 0 = at }; free = record { 0 = free } }) ≡ Some s = rw h at e in
    let k : record { place = record { 0 = at }; free = record { 0 = free } } ≡ s = cc in
    let p : at ≡ s.place.0 = ap (λ (x : Spot). x.place.0) k in
    record { run = rw h; place = rw h (omega arith) })
    (λ h. let r = seek-run n bs (at + b.size) (cond (is_free b) at (at + b.size)) s (rw h at e) in
    record { run = rw h r.run; place = rw h (omega (arith, r.place)) })

pub found-run : (n : ℕ) (bs : List Block) (s : Spot) → seek (sought (target.Run n)) 0 0 bs ≡ Some s → (fits n bs ≡ true) × (s.place.0 ≡ first_fit n bs)
found-run n bs s e = let r = seek-run n bs 0 0 s e in (r.run, r.place ∙ zero-add (first_fit n bs))

seek_no_run : (n : ℕ) (bs : List Block) (at free : ℕ) → seek (sought (target.Run n)) at free bs ≡ None → fits n bs ≡ false
unfolding seek fits
seek_no_run n [] at free e = refl
seek_no_run n (b ∷ bs) at free e =
    by (holds n b)
    (λ h. no_spot (sym (rw h at e)))
    (λ h. rw h (seek_no_run n bs (at + b.size) (cond (is_free b) at (at + b.size)) (rw h at e)))

pub no_run : (n : ℕ) (bs : List Block) → seek (sought (target.Run n)) 0 0 bs ≡ None → fits n bs ≡ false
no_run n bs e = seek_no_run n bs 0 0 e

-- ---- the block that holds a byte

-- the walk that seeks the block stops at it
record Holding (o : BlockOffset) (at : ℕ) (bs : List Block) (s : Spot) : Type 0 where
  within : o.0 < at + total bs
  place : s.place.0 ≡ at + holder (o.0 - at) bs

seek-holder : (o : BlockOffset) (bs : List Block) (at free : ℕ) (s : Spot) → at ≤ o.0 → seek (sought (target.Holder o)) at free bs ≡ Some s → Holding o at bs s
unfolding seek total holder
seek-holder o [] at free s h e = no_spot e
seek-holder o (b ∷ bs) at free s h e =
    by (ltb o.0 (at + b.size))
    (λ k. let g : Some (record { place = record { 0 = at }; free = record { 0 = free } }) ≡ Some s = rw k at e in
    let x : record { place = record { 0 = at }; free = record { 0 = free } } ≡ s = cc in
    let p : at ≡ s.place.0 = ap (λ (y : Spot). y.place.0) x in
    let m = ltb-true o.0 (at + b.size) k in
    record { within = omega arith; place = rw (lt-ltb (o.0 - at) b.size (omega arith)) (omega arith) })
    (λ k. let m = ltb-false o.0 (at + b.size) k in
    let r = seek-holder o bs (at + b.size) (cond (is_free b) at (at + b.size)) s m (rw k at e) in
    let d : o.0 - at - b.size ≡ o.0 - (at + b.size) = omega arith in
    record { within = omega (arith, r.within); place = rw (le-ltb (o.0 - at) b.size (omega arith), d) (omega (arith, r.place)) })

seek_no_holder : (o : BlockOffset) (bs : List Block) (at free : ℕ) → at ≤ o.0 → seek (sought (target.Holder o)) at free bs ≡ None → at + total bs ≤ o.0
unfolding seek total
seek_no_holder o [] at free h e = omega arith
seek_no_holder o (b ∷ bs) at free h e =
    by (ltb o.0 (at + b.size))
    (λ k. no_spot (sym (rw k at e)))
    (λ k. let r = seek_no_holder o bs (at + b.size) (cond (is_free b) at (at + b.size)) (ltb-false o.0 (at + b.size) k) (rw k at e) in omega arith)

pub no_holder : (o : BlockOffset) (bs : List Block) → seek (sought (target.Holder o)) 0 0 bs ≡ None → total bs ≤ o.0
no_holder o bs e = rw (zero-add (total bs)) at (seek_no_holder o bs 0 0 (omega arith) e)

-- the header of the block of a pool that holds the byte `at + i`, where the blocks bs lie from `at` on
record Headed (l : List ℕ) (at i : ℕ) (bs : List Block) : Type 0 where
  room : at + holder i bs + 8 ≤ length l
  heads : (test : Block → Bool) → starts_at test (holder i bs) bs ≡ test (header_at l (at + holder i bs))

headed : (tasks : ℕ) (q : Bool) (l : List ℕ) (at i : ℕ) (bs : List Block) → tiled tasks q bs ≡ true → blocks_of (drop at l) ≡ bs → at + total bs ≡ length l → i < total bs → Headed l at i bs
unfolding total holder starts_at
headed tasks q l at i [] t e s h = absurd (omega arith)
headed tasks q l at i (b ∷ bs) t e s h =
    let o = tile tasks q b bs t in
    let m : at < length l = omega (arith, o.least) in
    by (ltb i b.size)
    (λ k. record { room = rw k (omega (arith, o.least)); heads = λ test. rw (k, add-zero at) (ap test (sym (header-at at l b bs e m))) })
    (λ k. let g = ltb-false i b.size k in
    let r = headed tasks (is_free b) l (at + b.size) (i - b.size) bs o.rest (tail_at at l b bs e m (omega (arith, o.least))) (omega (arith, s)) (omega arith) in
    let p = holder (i - b.size) bs in
    let d : b.size + p - b.size ≡ p = omega arith in
    let a : at + (b.size + p) ≡ at + b.size + p = omega arith in
    record { room = rw (k, a) r.room; heads = λ test. rw (k, ne_eqb (b.size + p) 0 (omega (arith, o.least)), le-leb b.size (b.size + p) (omega arith), d, a) (r.heads test) })

-- what is known of the block found: a block begins 8 bytes before the offset exactly if it is this one
pub record Held (l : List ℕ) (o : BlockOffset) (s : Spot) : Type 0 where
  pub within : o.0 < length l
  pub room : s.place.0 + 8 ≤ length l
  pub place : s.place.0 ≡ holder o.0 (blocks_of l)
  pub heads : (test : Block → Bool) → starts_at test s.place.0 (blocks_of l) ≡ test (header_at l s.place.0)
  pub inside : (o.0 ≡ s.place.0 + 8 → ⊥) → 8 ≤ o.0 → (test : Block → Bool) → starts_at test (o.0 - 8) (blocks_of l) ≡ false

pub held : (l : List ℕ) (o : BlockOffset) (s : Spot) → sound_pool l ≡ true → seek (sought (target.Holder o)) 0 0 (blocks_of l) ≡ Some s → Held l o s
held l o s k e =
    let w = open_pool l k in
    let bs = blocks_of l in
    let r = seek-holder o bs 0 0 s (omega arith) e in
    let p : s.place.0 ≡ holder o.0 bs = rw (zero-add (holder (o.0 - 0) bs), sub-zero o.0) at r.place in
    let g = headed most_tasks false l 0 o.0 bs w.tiling refl (omega (arith, w.sums)) (omega (arith, r.within)) in
    record {
      within = omega (arith, r.within, w.sums);
      room = rw p (omega (arith, g.room));
      place = p;
      heads = λ test. rw p (g.heads test ∙ ap (λ (x : ℕ). test (header_at l x)) (zero-add (holder o.0 bs)));
      inside = λ ne h test. by (starts_at test (o.0 - 8) bs)
          (λ x. absurd (ne (omega (arith, (starts most_tasks test (o.0 - 8) false bs w.tiling x).holds o.0 (omega arith)))))
          (λ x. x);
    }
