-- Laws of the text of a line: its slots one after another. Assumes nothing.
use Prim.Native.Nat.{ℕ, zero, suc, ◌+◌, ◌-◌, ◌<◌, ◌≤◌}
use mathlib.Core.Logic.{⊎_elim}
use mathlib.Core.Path.{◌≡◌, refl}
use mathlib.Core.List.{List, [], ◌∷◌, ◌++◌, append_assoc, append-nil}
use native.Mathlib.Omega.{arith}
use native.Mathlib.Numerals.{add-one}
use lib.ListN.{length, take, drop, get_or, drop_of_length-le}
use lib.Seq.{drop-cons}
use Rattle.numbers.proofs.Decode.{side}
use Rattle.text.specs.Ascii.{ascii}
use Rattle.text.specs.Decimal.{decimal}
use Rattle.log_text.specs.declared.Keyword.{Keyword}
use Rattle.log_text.specs.declared.Slot.{Slot}
use Rattle.log_text.specs.declared.Slot.TheVariants.{Number}
use Rattle.log_text.specs.Form.{keyword_text, form}
use Rattle.log_text.specs.Printing.{option_words, flag_words, slot_words, slots_words, spaced, line_text}
use Rattle.log_text.proofs.Slots.{form-few}
use Rattle.log_text.proofs.Widths.{spaced-append}

-- ---- words

pub spaced_one : (w : List ℕ) → spaced (w ∷ []) ≡ ascii " " ++ w
unfolding spaced
spaced_one w = rw (append-nil w)

module _ (name : List ℕ) where
  pub option_none : (v : ℕ) → v ≡ 0 → spaced (option_words name v) ≡ []
  unfolding spaced
  option_none v h = rw h

  pub option_some : (v : ℕ) → (v ≡ 0 → ⊥) → spaced (option_words name v) ≡ (ascii " " ++ name) ++ (ascii " " ++ decimal (v - 1))
  unfolding spaced
  option_some zero h = absurd (h refl)
  option_some (suc v) h = let e : suc v - 1 ≡ v = omega arith in rw (e, append-nil (decimal v))

  pub flag_none : (v : ℕ) → v ≡ 0 → spaced (flag_words name v) ≡ []
  unfolding spaced
  flag_none v h = rw h

  pub flag_some : (v : ℕ) → (v ≡ 0 → ⊥) → spaced (flag_words name v) ≡ ascii " " ++ name
  flag_some zero h = absurd (h refl)
  flag_some (suc v) h = spaced_one name

-- ---- the slots from number i on, and the newline

slots_past : (ss : List Slot) (i : ℕ) (vs : List ℕ) → length ss ≤ i → slots_words (drop i ss) vs ≡ []
unfolding slots_words
slots_past [] zero vs h = refl
slots_past [] (suc i) vs h = refl
slots_past (s ∷ ss) zero vs h = absurd (omega arith)
slots_past (s ∷ ss) (suc i) vs h = slots_past ss i vs (omega arith)

-- the words of one slot, none behind the last
module _ (ss : List Slot) (v : ℕ) (i : ℕ) where
  pub slot_inside : (d : Slot) → i < length ss → spaced (slots_words (take 1 (drop i ss)) (v ∷ [])) ≡ spaced (slot_words (get_or ss i d) v)
  unfolding slots_words
  slot_inside d h = rw (drop-cons ss i d h, append-nil (slot_words (get_or ss i d) v))

  pub slot_behind : length ss ≤ i → spaced (slots_words (take 1 (drop i ss)) (v ∷ [])) ≡ []
  unfolding spaced slots_words
  slot_behind h = rw (drop_of_length-le ss h)

module _ (k : Keyword) (vs : List ℕ) where
  abbrev pub left_from : ℕ → List ℕ
  left_from i = spaced (slots_words (drop i (form k)) (drop i vs)) ++ ascii "\n"

  pub line_first : line_text (keyword_text k ∷ slots_words (form k) vs) ≡ keyword_text k ++ left_from 0
  line_first = append_assoc (keyword_text k) (spaced (slots_words (form k) vs)) (ascii "\n")

  pub line_next : (i : ℕ) → i < length (form k) → length vs ≡ 4 → left_from i ≡ spaced (slot_words (get_or (form k) i Number) (get_or vs i 0)) ++ left_from (i + 1)
  unfolding slots_words
  line_next i h four =
      let inside : i < length vs = omega (arith, form-few k) in
      rw (
        add-one i,
        drop-cons (form k) i Number h,
        drop-cons vs i 0 inside,
        spaced-append (slot_words (get_or (form k) i Number) (get_or vs i 0)) (slots_words (drop (suc i) (form k)) (drop (suc i) vs)),
        append_assoc,
      )

  pub line-last : (i : ℕ) → length (form k) ≤ i → left_from i ≡ ascii "\n"
  unfolding spaced
  line-last i h = rw (slots_past (form k) i (drop i vs) h)

  pub line_step : (i : ℕ) → length vs ≡ 4 → left_from i ≡ spaced (slots_words (take 1 (drop i (form k))) (get_or vs i 0 ∷ [])) ++ left_from (i + 1)
  line_step i four =
      ⊎_elim
      (λ h. rw (slot_inside (form k) (get_or vs i 0) i Number h) (line_next i h four))
      (λ h. rw (slot_behind (form k) (get_or vs i 0) i h, line-last i h, line-last (i + 1) (omega arith)) refl)
      (side i (length (form k)))
