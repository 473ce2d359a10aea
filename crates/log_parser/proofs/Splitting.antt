-- The lines of a text: the first of them and those behind it, and how many there are at most. Assumes nothing.
use Prim.Native.Nat.{ℕ, suc, ◌+◌, ◌-◌, ◌≤◌, min}
use mathlib.Core.Path.{◌≡◌, refl, ap, ◌∙◌}
use mathlib.Core.List.{List, [], ◌∷◌}
use native.Mathlib.Omega.{arith}
use lib.ListN.{length, take, drop, length-drop, drop_of_length-le}
use lib.Seq.{take_all, drop-drop}
use Rattle.model.proofs.Tests.{by}
use Rattle.text.specs.declared.words.Class.TheVariants.{Line}
use Rattle.text.specs.Words.{belongs, span, onto, pieces, lines_of}
use Rattle.text.proofs.Pieces.{line-inside, line_next}

pub lines_none : (s : List ℕ) → length s ≡ 0 → lines_of s ≡ []
unfolding pieces
lines_none [] h = refl
lines_none (b ∷ s) h = absurd (omega arith)

onto-length : (b : ℕ) (ps : List (List ℕ)) → length (onto b ps) ≤ suc (length ps)
onto-length b [] = omega arith
onto-length b (p ∷ ps) = omega arith

pub lines-few : (s : List ℕ) → length (lines_of s) ≤ length s
unfolding pieces
lines-few [] = omega arith
lines-few (b ∷ s) = by (belongs Line b) (λ h. rw h (omega (arith, onto-length b (lines_of s), lines-few s))) (λ h. rw h (omega (arith, lines-few s)))

module _ (s : List ℕ) (h : length s ≡ 0 → ⊥) {end : ℕ} (e : end ≡ 0 + length (span Line s)) where
  pub first-inside : end ≤ length s
  first-inside = line-inside s 0 end (omega arith) e

  pub lines_first : lines_of s ≡ take end s ∷ lines_of (drop (end + 1) s)
  lines_first = let n : end - 0 ≡ end = omega arith in line_next s 0 end (omega arith) e ∙ rw n

  -- what is left behind the newline
  behind : (r : List ℕ) (m : ℕ) → r ≡ drop end s → m ≡ min (length r) 1 → take (length r - m) (drop m r) ≡ drop (end + 1) s
  behind [] m q k =
      let none : ◌≡◌ {A = ℕ} 0 (length s - end) = ap length q ∙ length-drop end s in
      let past : drop (end + 1) s ≡ [] = drop_of_length-le s (omega (arith, none)) in
      let zero : m ≡ 0 = omega arith in
      rw (zero, past)
  behind (b ∷ r) m q k =
      let one : m ≡ 1 = omega arith in
      let rest : r ≡ drop (end + 1) s = ap (drop 1) q ∙ drop-drop 1 end s in
      let size : suc (length r) - 1 ≡ length r = omega arith in
      rw (one, size) (take_all (length r) r (omega arith) ∙ rest)

  pub lines_split : {line rest : List ℕ} {m : ℕ} → line ≡ take end s → rest ≡ drop end s → m ≡ min (length rest) 1 → lines_of s ≡ line ∷ lines_of (take (length rest - m) (drop m rest))
  lines_split {line} {rest} {m} f b k = rw (f, behind rest m b k) lines_first
