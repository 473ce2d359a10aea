-- Laws by which the first word of a line is told from the keywords. Assumes nothing.
use Prim.Native.Nat.{ℕ}
use mathlib.Core.Path.{◌≡◌, refl}
use mathlib.Core.Bool.{true, false}
use mathlib.Core.List.{List, [], ◌∷◌}
use lib.Dec.{eqb}
use lib.ListN.{length, get_or}
use borrow.Author.Tests.{ne_eqb}
use Rattle.std.proofs.lemmas.Slice.Eq.{HasBytesAt, text_from_reads}
use Rattle.model.proofs.Tests.{and_f_r}
use Rattle.text.specs.Words.{same}
use Rattle.text.proofs.Sameness.{same_self}

pub same_read : (v w : List ℕ) → length v ≡ length w → HasBytesAt v 0 w → same v w ≡ true
same_read v w n h = rw (text_from_reads v w n h) (same_self w)

pub same_other_length : (v w : List ℕ) → (length v ≡ length w → ⊥) → same v w ≡ false
unfolding same
same_other_length [] [] h = absurd (h refl)
same_other_length [] (b ∷ w) h = refl
same_other_length (a ∷ v) [] h = refl
same_other_length (a ∷ v) (b ∷ w) h = and_f_r (eqb a b) (same v w) (same_other_length v w (λ e. h (rw e)))

-- another first byte, or none
pub same_other_head : (v : List ℕ) (b : ℕ) (w : List ℕ) → (get_or v 0 0 ≡ b → ⊥) → same v (b ∷ w) ≡ false
unfolding same
same_other_head [] b w h = refl
same_other_head (a ∷ v) b w h = rw (ne_eqb a b h)

pub ruleset same_laws = (same_read, same_other_length, same_other_head)
