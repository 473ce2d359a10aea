-- The steps in which the functions write a number digit by digit. Assumes nothing.
use Prim.Native.Nat.{ℕ, ◌+◌, ◌/◌, ◌%◌, ◌<◌, ◌≤◌}
use mathlib.Core.List.{List}
use lib.ListN.{set}
use Rattle.output.specs.Wrote.{Wrote}
use Rattle.output.proofs.Wrote.{wrote-byte, wrote-append}
use Rattle.text.specs.Decimal.{digit, decimal}
use Rattle.text.proofs.Decimal.{decimal_one, decimal-more}

pub wrote-digit : (l : List ℕ) (at n : ℕ) → n < 10 → Wrote l at (decimal n) (set l at (digit n)) (at + 1)
wrote-digit l at n h = rw (decimal_one n h) (wrote-byte l at (digit n))

pub wrote-digits : {l m : List ℕ} {at n i : ℕ} → Wrote l at (decimal (n / 10)) m i → 10 ≤ n → Wrote l at (decimal n) (set m i (digit (n % 10))) (i + 1)
wrote-digits {l} {m} {at} {n} {i} w h = rw (decimal-more n h) (wrote-append w (wrote-byte m i (digit (n % 10))))
