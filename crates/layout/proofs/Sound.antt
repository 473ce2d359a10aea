-- A sound pool, opened. Assumes nothing.
use Prim.Native.Nat.{ℕ, ◌%◌, ◌≤◌}
use mathlib.Core.Path.{◌≡◌}
use mathlib.Core.Bool.{true, false, ◌&&◌}
use mathlib.Core.List.{List}
use lib.ListN.{length}
use lib.Dec.{leb, eqb}
use borrow.Author.Tests.{leb-true, eqb-true, le-leb, eq-eqb}
use Rattle.model.specs.Limits.{most_tasks, longest_pool}
use Rattle.model.specs.Blocks.{total, tiled}
use Rattle.model.specs.Bytes.{blocks_of}
use Rattle.model.specs.Rules.{ok_long}
use Rattle.model.proofs.Tests.{and_l, and_r, and_i}
use Rattle.layout.specs.Layout.{sound_pool}

pub record Length (s : List ℕ) : Type 0 where
  pub by_four : length s % 4 ≡ 0
  pub least : 12 ≤ length s
  pub most : length s ≤ longest_pool

pub record Pool (s : List ℕ) : Type 0 where
  pub long : Length s
  pub sums : total (blocks_of s) ≡ length s
  pub tiling : tiled most_tasks false (blocks_of s) ≡ true

pub open_pool : (s : List ℕ) → sound_pool s ≡ true → Pool s
unfolding sound_pool
open_pool s h =
    let n = length s in
    let a = eqb (n % 4) 0 in
    let b = leb 12 n in
    let c = leb n longest_pool in
    let d = eqb (total (blocks_of s)) n in
    let e = tiled most_tasks false (blocks_of s) in
    let x = and_l (ok_long n) (d && e) h in
    let y = and_r a (b && c) x in
    let z = and_r (ok_long n) (d && e) h in
    record {
      long = record { by_four = eqb-true (n % 4) 0 (and_l a (b && c) x); least = leb-true 12 n (and_l b c y); most = leb-true n longest_pool (and_r b c y) };
      sums = eqb-true (total (blocks_of s)) n (and_l d e z);
      tiling = and_r d e z;
    }

pub close_pool : (s : List ℕ) → Pool s → sound_pool s ≡ true
unfolding sound_pool
close_pool s o =
    let n = length s in
    let l = o.long in
    and_i (ok_long n) _ (and_i (eqb (n % 4) 0) _ (eq-eqb (n % 4) 0 l.by_four) (and_i (leb 12 n) _ (le-leb 12 n l.least) (le-leb n longest_pool l.most)))
    (and_i (eqb (total (blocks_of s)) n) _ (eq-eqb (total (blocks_of s)) n o.sums) o.tiling)
