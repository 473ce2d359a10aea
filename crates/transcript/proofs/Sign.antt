-- The text of an i32 has at most 11 bytes. Assumes nothing.
use Prim.Native.Nat.{suc, ◌≤◌}
use native.Mathlib.Omega.{arith}
use mir.Syntax.{w32}
use mir.Val.{SFits}
use lib.IntN.{ℤ, pos, negsuc}
use lib.ListN.{length}
use Rattle.transcript.specs.Lines.{signed}
use Rattle.text.proofs.Decimal.{length_half}

pub signed-length : (z : ℤ) → SFits w32 z → length (signed z) ≤ 11
signed-length (pos n) f = omega (arith, length_half n (omega (arith, f.sfits)))
signed-length (negsuc n) f = omega (arith, length_half (suc n) (omega (arith, f.sfits)))
