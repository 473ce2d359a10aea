-- What the theorems ask of a store, and that the block list meets it. Assumes nothing.
use Prim.Native.Nat.{ℕ, ◌+◌, ◌%◌, ◌≤◌, ◌<◌}
use mathlib.Core.Path.{◌≡◌, ◌∙◌}
use mathlib.Core.Bool.{true, false, not}
use mathlib.Core.List.{List}
use native.Mathlib.Omega.{arith}
use lib.Dec.{eqb}
use borrow.Author.Tests.{eqb-true, eq-eqb}
use Rattle.model.specs.Blocks.{Block, is_free, total, tiled, granted, freed, live_count}
use Rattle.model.specs.Rules.{Rules}
use Rattle.model.specs.Calls.{HeaderPlace, Store, blocks}
use Rattle.model.proofs.Tests.{and_l, and_r, and_i}
use Rattle.model.proofs.Blocks.{granted-fits, granted-total, granted-tiled, freed-total, freed-tiled, granted-live, granted-freed, granted-count, freed-count, free-fits, starts, live_not_free}

pub record StoreLaws (K : Rules) {P : Type 0} (E : Store P) : Type 0 where
  -- a grant makes no run
  pub grant-fits : (n t m : ℕ) (p : P) → E.fits m p ≡ false → E.fits m (E.grant n t p) ≡ false
  pub grant-sound : (n t : ℕ) (p : P) → n % 4 ≡ 0 → 12 ≤ n → 1 ≤ t → t ≤ K.tasks → E.sound p ≡ true → E.sound (E.grant n t p) ≡ true
  -- a live block's offset is in range and a multiple of 4, and the block is not free
  pub live-within : (a : HeaderPlace) (p : P) → E.sound p ≡ true → E.live a p ≡ true → a.0 + 8 < K.long
  pub live_aligned : (a : HeaderPlace) (p : P) → E.sound p ≡ true → E.live a p ≡ true → a.0 % 4 ≡ 0
  pub live_busy : (a : HeaderPlace) (p : P) → E.live a p ≡ true → E.idle a p ≡ false
  pub free-sound : (a : HeaderPlace) (p : P) → E.sound p ≡ true → E.sound (E.free a p) ≡ true
  -- a granted block is live, and its release undoes the grant
  pub grant-live : (n t : ℕ) (p : P) → 1 ≤ t → E.sound p ≡ true → E.fits n p ≡ true → E.live (E.place n p) (E.grant n t p) ≡ true
  pub grant-free : (n t : ℕ) (p : P) → 1 ≤ t → E.sound p ≡ true → E.fits n p ≡ true → E.free (E.place n p) (E.grant n t p) ≡ p

-- what the wait bound asks of a count of live blocks: a grant makes one more, a release one less, and without any all is one free run
pub record CountLaws (K : Rules) {P : Type 0} (E : Store P) (count : P → ℕ) : Type 0 where
  pub grant-count : (n t : ℕ) (p : P) → 1 ≤ t → E.fits n p ≡ true → count (E.grant n t p) ≡ 1 + count p
  pub free-count : (a : HeaderPlace) (p : P) → E.live a p ≡ true → 1 + count (E.free a p) ≡ count p
  pub none_fits : (n : ℕ) (p : P) → 1 ≤ n → n ≤ K.long → E.sound p ≡ true → count p ≡ 0 → E.fits n p ≡ true

-- ---- the block list

module _ (K : Rules) where
  -- a sound block list, opened
  pub record Tiling (bs : List Block) : Type 0 where
    pub sums : total bs ≡ K.long
    pub tiling : tiled K.tasks false bs ≡ true

  pub open_blocks : (bs : List Block) → (blocks K).sound bs ≡ true → Tiling bs
  open_blocks bs h =
      record {
        sums = eqb-true (total bs) K.long (and_l (eqb (total bs) K.long) (tiled K.tasks false bs) h);
        tiling = and_r (eqb (total bs) K.long) (tiled K.tasks false bs) h;
      }

  pub close_blocks : (bs : List Block) → Tiling bs → (blocks K).sound bs ≡ true
  close_blocks bs o = and_i (eqb (total bs) K.long) _ (eq-eqb (total bs) K.long o.sums) o.tiling

  pub block_laws : StoreLaws K (blocks K)
  block_laws =
      record {
        grant-fits = granted-fits;
        grant-sound = λ n t bs n4 n12 t1 tk h.
            let o = open_blocks bs h in
            close_blocks (granted n t bs) (record { sums = granted-total n t bs ∙ o.sums; tiling = granted-tiled K.tasks n t n4 n12 t1 tk false bs o.tiling });
        live-within = λ a bs h l. let o = open_blocks bs h in omega (arith, (starts K.tasks (λ b. not (is_free b)) a.0 false bs o.tiling l).within, o.sums);
        live_aligned = λ a bs h l. (starts K.tasks (λ b. not (is_free b)) a.0 false bs (open_blocks bs h).tiling l).by_four;
        live_busy = λ a bs l. live_not_free a.0 bs l;
        free-sound = λ a bs h.
            let o = open_blocks bs h in
            close_blocks (freed a.0 bs) (record { sums = freed-total a.0 bs ∙ o.sums; tiling = freed-tiled K.tasks false a.0 bs o.tiling });
        grant-live = λ n t bs t1 h f. granted-live K.tasks n t t1 false bs (open_blocks bs h).tiling f;
        grant-free = λ n t bs t1 h f. granted-freed K.tasks n t t1 false bs (open_blocks bs h).tiling f;
      }

  pub count_laws : CountLaws K (blocks K) live_count
  count_laws =
      record {
        grant-count = λ n t bs t1 f. granted-count n t t1 bs f;
        free-count = λ a bs l. freed-count a.0 bs l;
        none_fits = λ n bs n1 nk h z. let o = open_blocks bs h in free-fits K.tasks n bs n1 (omega (arith, o.sums)) o.tiling z;
      }
