-- The loop of `numbers_length`: the bytes of the numbers so far. Assumes nothing.
use Prim.Native.Nat.{ℕ, ◌+◌, ◌*◌, ◌≤◌, ◌<◌}
use mathlib.Core.Path.{◌≡◌}
use mathlib.Core.List.{List}
use native.Mathlib.Omega.{arith}
use native.Mathlib.Numerals.{add-one}
use lib.ListN.{length, drop, get_or, drop_of_length-le}
use lib.Seq.{drop-cons}
use Rattle.numbers.specs.Number.{number_bound, encode}
use Rattle.numbers.proofs.Theorems.{encode-length}
use Rattle.call_log.specs.Fields.{fields_length}
use Rattle.log_writer.specs.Steps.{Counted}

-- the bytes of the first i numbers were counted
pub record Counting (vs : List ℕ) (i sum : ℕ) : Type 0 where
  pub bytes : sum + fields_length (drop i vs) ≡ fields_length vs
  pub few : sum ≤ 5 * i
  pub within : i ≤ length vs

module _ {vs : List ℕ} {i sum : ℕ} (g : Counting vs i sum) where
  pub counting_next : i < length vs → get_or vs i 0 < number_bound → Counting vs (i + 1) (sum + length (encode (get_or vs i 0)))
  unfolding fields_length
  counting_next h l =
      let next : fields_length (drop i vs) ≡ length (encode (get_or vs i 0)) + fields_length (drop (i + 1) vs) = rw (add-one i, drop-cons vs i 0 h) in
      record { bytes = omega (arith, g.bytes); few = omega (arith, g.few, encode-length (get_or vs i 0) l); within = omega arith }

  pub counting_end : length vs ≤ i → Counted vs sum
  unfolding fields_length
  counting_end h =
      let past : fields_length (drop i vs) ≡ 0 = rw (drop_of_length-le vs h) in
      record { bytes = omega (arith, g.bytes); few = omega (arith, g.few, g.within) }
