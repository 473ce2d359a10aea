-- The loops of `number_length` and `write_number`: what is left to write makes up what is to be written. Assumes nothing.
use Prim.Native.Nat.{ℕ, ◌+◌, ◌/◌, ◌%◌, ◌<◌, ◌≤◌}
use mathlib.Core.Path.{◌≡◌, refl, ap}
use mathlib.Core.List.{List, [], ◌∷◌}
use native.Mathlib.Omega.{arith}
use lib.ListN.{length}
use Rattle.numbers.specs.Number.{encode}
use Rattle.numbers.proofs.Encode.{encode-last, encode-more}
use Rattle.output.specs.declared.Output.{Output}
use Rattle.output.specs.Puts.{Puts}
use Rattle.output.proofs.Puts.{Putting, putting_next, putting_end}

pub length_last : (n : ℕ) → n < 128 → length (encode n) ≡ 1
length_last n h = ap length (encode-last n h)

pub length_more : (n : ℕ) → 128 ≤ n → length (encode n) ≡ length (encode (n / 128)) + 1
length_more n h = omega (arith, ap length (encode-more n h))

-- at a byte with the high bit set, and at the last one
module _ {start out after : Output} {bytes : List ℕ} {n : ℕ} (w : Putting start bytes out (encode n)) where
  pub putting_more : 128 ≤ n → Puts out ((n % 128 + 128) ∷ []) after → Putting start bytes after (encode (n / 128))
  putting_more h p = putting_next w (encode (n / 128)) (encode-more n h) p

  pub putting_last : n < 128 → Puts out (n ∷ []) after → Puts start bytes after
  putting_last h p = putting_end (putting_next w [] (encode-last n h) p) refl
