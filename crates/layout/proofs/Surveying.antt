-- A walk that stops and one that goes on from there tell what any bytes are found to be. Assumes nothing.
use Prim.Native.Nat.{ℕ, ◌+◌, ◌%◌, ◌≤◌, ◌<◌, max}
use mathlib.Core.Path.{◌≡◌, refl, sym, ap, subst, ◌∙◌}
use mathlib.Core.Bool.{Bool, true, false, not, cond, ◌&&◌, and-true, or-false}
use mathlib.Core.List.{List, [], ◌∷◌}
use mathlib.Core.Logic.{◌⊎◌, inl, inr}
use native.Mathlib.Omega.{arith}
use native.Mathlib.Nat.{zero-add, zero-max}
use lib.ListN.{length, drop}
use lib.Dec.{leb, ltb, eqb}
use borrow.Author.Tests.{leb-true, leb-false, eqb-true, le-leb, lt-leb, eq-eqb, ne_eqb, le-ltb}
use Rattle.std.specs.Prelude.{Option, Some, None}
use Rattle.model.specs.Limits.{most_tasks, longest_pool}
use Rattle.model.specs.Blocks.{Block, is_free, total, ok_block, tiled, holds, sum_free, greatest_free}
use Rattle.model.specs.Bytes.{blocks_of}
use Rattle.model.proofs.Tests.{by, clash, and_l, and_r, and_f_r, or_f}
use Rattle.model.proofs.Blocks.{small_not}
use Rattle.model.proofs.Bytes.{tail_at}
use Rattle.layout.specs.declared.Target.{Target}
use Rattle.layout.specs.declared.Target.TheVariants as target
use Rattle.layout.specs.declared.Spot.{Spot}
use Rattle.layout.specs.declared.Seen.{Seen}
use Rattle.layout.specs.declared.Stop.{Stop}
use Rattle.layout.specs.declared.Stop.TheVariants.{Here, End}
use Rattle.layout.specs.declared.Survey.{Survey}
use Rattle.layout.specs.Layout.{sound_pool, seek, sought, survey_of, pass, behind, wanted, may_stand, stands, walk, walk_at, need_of, byte_of, spot_of}
use Rattle.layout.proofs.Sound.{Length}
use Rattle.layout.proofs.Walking.{open_block, open_stands, pass-at, pass-behind, pass-sum}

and_swap : (a b : Bool) → a && b ≡ b && a
and_swap true true = refl
and_swap true false = refl
and_swap false true = refl
and_swap false false = refl

-- ---- what is seen over all blocks

unfoldable pub pass_all : List Block → Seen → Seen
pass_all [] v = v
pass_all (b ∷ bs) v = pass_all bs (pass b v)

passed_greatest : (bs : List Block) (v : Seen) → (pass_all bs v).greatest ≡ max v.greatest (greatest_free bs)
unfolding pass_all pass greatest_free
passed_greatest [] v = omega arith
passed_greatest (b ∷ bs) v = passed_greatest bs (pass b v) ∙ omega arith

passed_sum : (bs : List Block) (v : Seen) → (pass_all bs v).sum ≡ v.sum + sum_free bs
unfolding pass_all pass sum_free
passed_sum [] v = omega arith
passed_sum (b ∷ bs) v = passed_sum bs (pass b v) ∙ omega arith

-- ---- where a walk stopped

-- a walk that is to reach the end, and stops before it
abbrev pub ended : Option Stop → Option Stop
ended (Some (Here v)) = None
ended (Some (End v)) = Some (End v)
ended None = None

-- gone on with
abbrev pub resume : (Seen → Option Stop) → Option Stop → Option Stop
resume on (Some (Here v)) = on v
resume on (Some (End v)) = Some (End v)
resume on None = None

abbrev pub found_by : Option Stop → Option Spot
found_by (Some (Here v)) = Some (spot_of v)
found_by (Some (End v)) = None
found_by None = None

-- what both calls report: where the first stopped, and what the last measured
abbrev pub reported : Option Stop → Option Stop → Option Survey
reported first (Some (End w)) = Some (record { found = found_by first; greatest = w.greatest; sum = w.sum })
reported first (Some (Here w)) = None
reported first None = None

reported_ended : (first x : Option Stop) → reported first x ≡ reported first (ended x)
reported_ended first (Some (Here v)) = refl
reported_ended first (Some (End v)) = refl
reported_ended first None = refl

-- ---- with nothing sought

walk_past : (need byte n : ℕ) (bs : List Block) (v : Seen) → n < v.at → walk need byte n v bs ≡ None
unfolding walk
walk_past need byte n [] v h = rw (ne_eqb v.at n (λ e. omega arith))
walk_past need byte n (b ∷ bs) v h = rw (lt-leb (v.at + 12) n (omega arith))

-- a block that ends past the end, whatever is sought
walk-long : (need byte n : ℕ) (bs : List Block) (v : Seen) (b : Block) → n < v.at + b.size → ended (walk need byte n v (b ∷ bs)) ≡ None
unfolding walk
walk-long need byte n bs v b h =
    by (stands n v b)
    (λ e. by (wanted need byte v.at b)
    (λ w. rw (e, w))
    (λ w. rw (e, w, walk_past need byte n bs (pass b v) (rw (pass-at v b.size b.owner) h))))
    (λ e. rw e)

-- blocks that tile from the place seen last to n
abbrev tiles : ℕ → Seen → List Block → Bool
tiles n v bs = tiled most_tasks (behind v) bs && eqb (v.at + total bs) n

-- a block that may stand hands the tiling on to those behind it
tiles_pass : (n : ℕ) (v : Seen) (b : Block) (bs : List Block) → may_stand v b ≡ true → tiles n v (b ∷ bs) ≡ tiles n (pass b v) bs
unfolding tiled total
tiles_pass n v b bs e =
    let x = not (is_free b && behind v) in
    let y = ok_block most_tasks b in
    let g = open_block b (and_r x y e) in
    let s : v.at + (b.size + total bs) ≡ v.at + b.size + total bs = omega arith in
    rw (and_l x y e, and_r x y e, pass-behind v b.size b.owner (omega (arith, g.least)), pass-at v b.size b.owner, s)

tiles_unfit : (n : ℕ) (v : Seen) (b : Block) (bs : List Block) → may_stand v b ≡ false → tiles n v (b ∷ bs) ≡ false
unfolding tiled
tiles_unfit n v b bs e =
    by (ok_block most_tasks b)
    (λ x. let z : not (is_free b && behind v) ≡ false = sym (and-true (not (is_free b && behind v))) ∙ (rw x at e) in rw (x, z))
    (λ x. rw x)

tiles_long : (n : ℕ) (v : Seen) (b : Block) (bs : List Block) → n < v.at + b.size → tiles n v (b ∷ bs) ≡ false
unfolding total
tiles_long n v b bs h = and_f_r (tiled most_tasks (behind v) (b ∷ bs)) _ (ne_eqb (v.at + (b.size + total bs)) n (λ e. omega arith))

-- a need and a byte that no block of a pool of n bytes meets
module _ (need byte n : ℕ) (hn : n < need) (hb : n ≤ byte) where
  unwanted : (at : ℕ) (b : Block) → at + b.size ≤ n → wanted need byte at b ≡ false
  unwanted at b h = or_f (holds need b) (ltb byte (at + b.size)) (small_not need b (omega arith)) (le-ltb byte (at + b.size) (omega arith))

  -- one block passed
  walk_one : (bs : List Block) (v : Seen) (b : Block) → stands n v b ≡ true → v.at + b.size ≤ n → walk need byte n v (b ∷ bs) ≡ walk need byte n (pass b v) bs
  unfolding walk
  walk_one bs v b e h = rw (e, unwanted v.at b h)

  -- the walk tells the tiling, and what is seen over all blocks
  walk-whole : (bs : List Block) (v : Seen) → ended (walk need byte n v bs) ≡ cond (tiles n v bs) (Some (End (pass_all bs v))) None
  unfolding walk pass_all tiled total
  walk-whole [] v =
      let s : v.at + 0 ≡ v.at = omega arith in
      rw s (by (eqb v.at n) (λ e. rw e) (λ e. rw e))
  walk-whole (b ∷ bs) v =
      by (may_stand v b)
      (λ e. let g = open_block b (and_r (not (is_free b && behind v)) (ok_block most_tasks b) e) in
      by (leb (v.at + b.size) n)
      (λ k. let m = leb-true (v.at + b.size) n k in
      let st : stands n v b ≡ true = rw (le-leb (v.at + 12) n (omega (arith, g.least)), e) in
      ap ended (walk_one bs v b st m) ∙ walk-whole bs (pass b v) ∙ ap (λ (t : Bool). cond t (Some (End (pass_all bs (pass b v)))) None) (sym (tiles_pass n v b bs e)))
      (λ k. let m = leb-false (v.at + b.size) n k in
      walk-long need byte n bs v b m ∙ ap (λ (t : Bool). cond t (Some (End (pass_all (b ∷ bs) v))) None) (sym (tiles_long n v b bs m))))
      (λ e. let st : stands n v b ≡ false = and_f_r (leb (v.at + 12) n) (may_stand v b) e in
      rw st (ap (λ (t : Bool). cond t (Some (End (pass_all (b ∷ bs) v))) None) (sym (tiles_unfit n v b bs e))))

-- ---- a walk that seeks, and one from there on with nothing sought, are one walk with nothing sought

module _ (s : List ℕ) (need byte need' byte' : ℕ) (hn : length s < need') (hb : length s ≤ byte') where
  resumed : (bs : List Block) (v : Seen) → blocks_of (drop v.at s) ≡ bs
      → ended (walk need' byte' (length s) v bs) ≡ ended (resume (walk_at need' byte' s) (walk need byte (length s) v bs))
  unfolding walk
  resumed [] v e = by (eqb v.at (length s)) (λ k. rw k) (λ k. rw k)
  resumed (b ∷ bs) v e =
      by (stands (length s) v b)
      (λ g. let o = open_stands (length s) v b g in
      let f = open_block b o.fit in
      by (wanted need byte v.at b)
      (λ w. let r : resume (walk_at need' byte' s) (walk need byte (length s) v (b ∷ bs)) ≡ walk_at need' byte' s v = rw (g, w) in
      ap ended (ap (walk need' byte' (length s) v) (sym e) ∙ sym r))
      (λ w. let p : walk need byte (length s) v (b ∷ bs) ≡ walk need byte (length s) (pass b v) bs = rw (g, w) in
      by (leb (v.at + b.size) (length s))
      (λ k. ap ended (walk_one need' byte' (length s) hn hb bs v b g (leb-true (v.at + b.size) (length s) k))
      ∙ resumed bs (pass b v) (rw (pass-at v b.size b.owner) (tail_at v.at s b bs e (omega (arith, o.ahead)) (omega (arith, f.least))))
      ∙ ap (λ (x : Option Stop). ended (resume (walk_at need' byte' s) x)) (sym p))
      (λ k. let l = leb-false (v.at + b.size) (length s) k in
      walk-long need' byte' (length s) bs v b l
      ∙ sym (ap (λ (x : Option Stop). ended (resume (walk_at need' byte' s) x)) (p ∙ walk_past need byte (length s) bs (pass b v) (rw (pass-at v b.size b.owner) l))))))
      (λ g. rw g)

-- ---- where the walk stops is the block sought

module _ (need byte n : ℕ) where
  reach : (v : Seen) (b : Block) (bs : List Block) → tiles n v (b ∷ bs) ≡ true → 12 ≤ b.size → v.at + 12 ≤ n
  unfolding total
  reach v b bs t h = omega (arith, eqb-true (v.at + (b.size + total bs)) n (and_r (tiled most_tasks (behind v) (b ∷ bs)) _ t))

  walk-found : (bs : List Block) (v : Seen) → tiles n v bs ≡ true → found_by (walk need byte n v bs) ≡ seek (wanted need byte) v.at v.free bs
  unfolding walk seek pass
  walk-found [] v t = by (eqb v.at n) (λ k. rw k) (λ k. rw k)
  walk-found (b ∷ bs) v t =
      by (may_stand v b)
      (λ e. let g = open_block b (and_r (not (is_free b && behind v)) (ok_block most_tasks b) e) in
      let r : tiles n (pass b v) bs ≡ true = sym (tiles_pass n v b bs e) ∙ t in
      let st : stands n v b ≡ true = rw (le-leb (v.at + 12) n (reach v b bs t g.least), e) in
      by (wanted need byte v.at b) (λ w. rw (st, w)) (λ w. rw (st, w) (walk-found bs (pass b v) r)))
      (λ e. clash (tiles n v (b ∷ bs)) t (tiles_unfit n v b bs e))

-- tests that agree on the blocks of a pool find the same
seek_agree : (f g : ℕ → Block → Bool) (n : ℕ) → ((p : ℕ) (b : Block) → p + b.size ≤ n → f p b ≡ g p b)
    → (bs : List Block) (at free : ℕ) → at + total bs ≡ n → seek f at free bs ≡ seek g at free bs
unfolding seek total
seek_agree f g n a [] at free s = refl
seek_agree f g n a (b ∷ bs) at free s =
    rw (a at b (omega (arith, s)), seek_agree f g n a bs (at + b.size) (cond (is_free b) at (at + b.size)) (omega (arith, s)))

-- the two numbers of a target seek what the target seeks
agree : (t : Target) (p : ℕ) (b : Block) → p + b.size ≤ longest_pool → wanted (need_of t) (byte_of t) p b ≡ sought t p b
agree (target.Run need) p b h = rw (le-ltb longest_pool (p + b.size) h) (or-false (holds need b))
agree (target.Holder o) p b h = rw (small_not (longest_pool + 1) b (omega arith))
agree target.Nothing p b h = unwanted (longest_pool + 1) longest_pool longest_pool (omega arith) (omega arith) p b h

-- ---- the survey

abbrev pub unseen : Seen
unseen = record { at = 0; free = 0; greatest = 0; sum = 0 }

pub unseen_is : (v : Seen) → (v.at ≡ 0) × ((v.free ≡ 0) × ((v.greatest ≡ 0) × (v.sum ≡ 0))) → v ≡ unseen
unseen_is v e = λ i. record { at = e.0 i; free = e.1.0 i; greatest = e.1.1.0 i; sum = e.1.1.1 i }

module _ (s : List ℕ) (k : Length s) where
  sound_tiles : sound_pool s ≡ tiles (length s) unseen (blocks_of s)
  unfolding sound_pool
  sound_tiles =
      rw (eq-eqb (length s % 4) 0 k.by_four, le-leb 12 (length s) k.least, le-leb (length s) longest_pool k.most, zero-add (total (blocks_of s)))
      (and_swap (eqb (total (blocks_of s)) (length s)) (tiled most_tasks false (blocks_of s)))

  two_calls : (need byte : ℕ) → ended (resume (walk_at (longest_pool + 1) longest_pool s) (walk_at need byte s unseen)) ≡ cond (sound_pool s) (Some (End (pass_all (blocks_of s) unseen))) None
  two_calls need byte =
      sym (resumed s need byte (longest_pool + 1) longest_pool (omega (arith, k.most)) k.most (blocks_of s) unseen refl)
      ∙ walk-whole (longest_pool + 1) longest_pool (length s) (omega (arith, k.most)) k.most (blocks_of s) unseen
      ∙ ap (λ (t : Bool). cond t (Some (End (pass_all (blocks_of s) unseen))) None) (sym sound_tiles)

  pub walk-sought : (t : Target) → sound_pool s ≡ true → found_by (walk_at (need_of t) (byte_of t) s unseen) ≡ seek (sought t) 0 0 (blocks_of s)
  walk-sought t e =
      let h : tiles (length s) unseen (blocks_of s) ≡ true = sym sound_tiles ∙ e in
      let a = tiled most_tasks false (blocks_of s) in
      let b = eqb (0 + total (blocks_of s)) (length s) in
      walk-found (need_of t) (byte_of t) (length s) (blocks_of s) unseen h
      ∙ seek_agree (wanted (need_of t) (byte_of t)) (sought t) (length s) (λ p b x. agree t p b (omega (arith, k.most)))
      (blocks_of s) 0 0 (eqb-true (0 + total (blocks_of s)) (length s) (and_r a b h))

  survey_is : (t : Target) → survey_of t s ≡ reported (walk_at (need_of t) (byte_of t) s unseen) (resume (walk_at (longest_pool + 1) longest_pool s) (walk_at (need_of t) (byte_of t) s unseen))
  survey_is t =
      let first = walk_at (need_of t) (byte_of t) s unseen in
      sym (reported_ended first (resume (walk_at (longest_pool + 1) longest_pool s) first)
      ∙ ap (reported first) (two_calls (need_of t) (byte_of t))
      ∙ by (sound_pool s)
      (λ e. rw (e, walk-sought t e, passed_greatest (blocks_of s) unseen, passed_sum (blocks_of s) unseen, zero-max (greatest_free (blocks_of s)), zero-add (sum_free (blocks_of s))))
      (λ e. rw e))

  -- by where the walk stops
  pub survey_stop : (t : Target) (x : Option Stop) → walk_at (need_of t) (byte_of t) s unseen ≡ x → survey_of t s ≡ reported x (resume (walk_at (longest_pool + 1) longest_pool s) x)
  survey_stop t x e = survey_is t ∙ ap (λ (y : Option Stop). reported y (resume (walk_at (longest_pool + 1) longest_pool s) y)) e

  pub survey_on : (t : Target) (v : Seen) (x : Option Stop) → walk_at (need_of t) (byte_of t) s unseen ≡ Some (Here v) → walk_at (longest_pool + 1) longest_pool s v ≡ x → survey_of t s ≡ reported (Some (Here v)) x
  survey_on t v x e f = survey_stop t (Some (Here v)) e ∙ ap (reported (Some (Here v))) f

-- what the second call asks of where the first stopped
pub stop_sum : (need byte n : ℕ) (w : Seen) (bs : List Block) (v : Seen) → v.sum ≤ v.at → walk need byte n v bs ≡ Some (Here w) → w.sum ≤ w.at
unfolding walk
stop_sum need byte n w [] v k e =
    by (eqb v.at n)
    (λ t. let m : Some (End v) ≡ Some (Here w) = rw t at e in absurd (let z : ◌≡◌ {A = ℕ} 0 1 = cc in omega arith))
    (λ t. let m : None ≡ Some (Here w) = rw t at e in absurd (let z : ◌≡◌ {A = ℕ} 0 1 = cc in omega arith))
stop_sum need byte n w (b ∷ bs) v k e =
    by (stands n v b)
    (λ g. by (wanted need byte v.at b)
    (λ x. let m : Some (Here v) ≡ Some (Here w) = rw (g, x) at e in let q : v ≡ w = cc in subst (λ (u : Seen). u.sum ≤ u.at) q k)
    (λ x. stop_sum need byte n w bs (pass b v) (pass-sum v b.size b.owner k) (rw (g, x) at e)))
    (λ g. let m : None ≡ Some (Here w) = rw g at e in absurd (let z : ◌≡◌ {A = ℕ} 0 1 = cc in omega arith))

-- ---- lengths that no pool has

pub refused_length : (t : Target) (s : List ℕ) → (length s % 4 ≡ 0 → ⊥) ⊎ ((length s % 4 ≡ 0) × (length s < 12)) ⊎ ((length s % 4 ≡ 0) × (12 ≤ length s) × (longest_pool < length s)) → survey_of t s ≡ None
unfolding sound_pool
refused_length t s (inl h) = rw (ne_eqb (length s % 4) 0 h)
refused_length t s (inr (inl h)) = rw (eq-eqb (length s % 4) 0 h.0, lt-leb 12 (length s) h.1)
refused_length t s (inr (inr h)) = rw (eq-eqb (length s % 4) 0 h.0, le-leb 12 (length s) h.1, lt-leb (length s) longest_pool h.2)
