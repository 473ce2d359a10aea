-- Why a release is refused: there is no reason exactly if the offset is that of a live block, and the place is that of the block that holds it. Assumes nothing.
use Prim.Native.Nat.{◌-◌, ◌%◌, ◌≤◌}
use mathlib.Core.Path.{◌≡◌}
use mathlib.Core.Bool.{Bool, true, false, not}
use mathlib.Core.List.{List}
use mathlib.Core.Option.{none}
use native.Mathlib.Omega.{arith}
use lib.Dec.{leb, ltb, eqb}
use borrow.Author.Tests.{leb-true, ltb-true, le-leb, lt-ltb, eq-eqb}
use Rattle.model.specs.Limits.{out_of_range, misaligned, already_free, inside_block}
use Rattle.model.specs.Blocks.{Block, is_free, holder}
use Rattle.model.specs.Rules.{Rules}
use Rattle.model.specs.Calls.{BlockOffset, place_of, no_place, release, Refusal, because, Store, blocks, State, is_live, in_range, misplaced}
use Rattle.model.specs.Refusals.{Refused, sys, release_range, release_alignment, release_free, release_inside}
use Rattle.model.specs.Demands.{OneHolder}
use Rattle.model.proofs.Tests.{and_l, and_r, and_i, not_f}
use Rattle.model.proofs.Blocks.{held, starts}
use Rattle.model.proofs.Store.{StoreLaws, open_blocks}
use Rattle.model.proofs.Soundness.{past}

module _ (K : Rules) {P : Type 0} (E : Store P) where
  pub live-released : StoreLaws K E → (o : BlockOffset) (p : P) → E.sound p ≡ true → is_live K E o p ≡ true → misplaced K E o p ≡ none
  live-released S o p s h =
      let k = leb-true 8 o.0 (and_l (leb 8 o.0) (E.live (place_of o) p) h) in
      let l = and_r (leb 8 o.0) (E.live (place_of o) p) h in
      let r : in_range K o ≡ true = and_i (leb 8 o.0) _ (le-leb 8 o.0 k) (lt-ltb o.0 K.long (omega (arith, S.live-within (place_of o) p s l))) in
      let m : eqb (o.0 % 4) 0 ≡ true = eq-eqb (o.0 % 4) 0 (omega (arith, S.live_aligned (place_of o) p s l)) in
      rw (r, m, S.live_busy (place_of o) p l, l)

  pub released-live : (o : BlockOffset) (p : P) → misplaced K E o p ≡ none → is_live K E o p ≡ true
  released-live o p e =
      let r = past (not (in_range K o)) (because out_of_range no_place) _ e in
      let m = past (not (eqb (o.0 % 4) 0)) (because misaligned no_place) _ r.1 in
      let f = past (E.idle (place_of o) p) (because already_free (place_of o)) _ m.1 in
      let l = past (not (E.live (place_of o) p)) (because inside_block (E.holder o p)) none f.1 in
      and_i (leb 8 o.0) _ (and_l (leb 8 o.0) (ltb o.0 K.long) (not_f (in_range K o) r.0)) (not_f (E.live (place_of o) p) l.0)

-- ---- the block list

module _ (K : Rules) (o : BlockOffset) (s : State (List Block)) {ok : Bool} (good : ok ≡ true → (blocks K).sound s.pool ≡ true) where
  -- an offset in range lies in one block
  in_block : ok ≡ true → in_range K o ≡ true → OneHolder o.0 s.pool (holder o.0 s.pool)
  in_block h r = held o.0 s.pool (omega (arith, ltb-true o.0 K.long (and_r (leb 8 o.0) (ltb o.0 K.long) r), (open_blocks K s.pool (good h)).sums))

  pub held_at : (x : Refusal) → Refused K (blocks K) ok s (release o) x → already_free ≤ x.reason → OneHolder o.0 s.pool x.place.0
  held_at x (sys h) n = absurd (omega (arith, n))
  held_at x (release_range h r) n = absurd (omega (arith, n))
  held_at x (release_alignment h r a) n = absurd (omega (arith, n))
  held_at x (release_free h r a f) n =
      let k = leb-true 8 o.0 (and_l (leb 8 o.0) (ltb o.0 K.long) r) in
      rw ((starts K.tasks is_free (o.0 - 8) false s.pool (open_blocks K s.pool (good h)).tiling f).holds o.0 (omega arith)) at (in_block h r)
  held_at x (release_inside h r a f l) n = in_block h r
