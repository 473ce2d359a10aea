-- Each step halves the places that are left.
use Rattle.std.proofs.Common.{◌≡◌, ℕ, ◌+◌, arith}
use Rattle.sizes.specs.Search.{skipped}
use Rattle.sizes.proofs.Search.{Range, whole, skip_range, found}
use Rattle.sizes.proofs.place_for.Goals as goal

-- the places that are left after each step
after_12 : (s a : ℕ) → a ≡ skipped s 0 12 → Range s a (a + 11)
after_12 s a e = skip_range s 0 12 11 _ a (omega arith) (omega arith) (whole s) e

after_6 : (s a b : ℕ) → a ≡ skipped s 0 12 → b ≡ skipped s a 6 → Range s b (b + 5)
after_6 s a b e f = skip_range s a 6 5 _ b (omega arith) (omega arith) (after_12 s a e) f

after_3 : (s a b c : ℕ) → a ≡ skipped s 0 12 → b ≡ skipped s a 6 → c ≡ skipped s b 3 → Range s c (c + 2)
after_3 s a b c e f g = skip_range s b 3 2 _ c (omega arith) (omega arith) (after_6 s a b e f) g

after_1 : (s a b c d : ℕ) → a ≡ skipped s 0 12 → b ≡ skipped s a 6 → c ≡ skipped s b 3 → d ≡ skipped s c 1 → Range s d (d + 1)
after_1 s a b c d e f g h = skip_range s c 1 1 _ d (omega arith) (omega arith) (after_3 s a b c e f g) h

pub returns : goal.returns
returns c =
    found _ c.skip.result
    (skip_range _ _ 1 0 _ _ (omega arith) (omega arith) (after_1 _ _ _ _ _ c.skip-a.ensures c.skip-b.ensures c.skip-c.ensures c.skip-d.ensures) c.skip.ensures)
