-- Laws of the words that a slot takes, from a place of a line on. Assumes nothing.
use Prim.Native.Nat.{ℕ, ◌-◌}
use mathlib.Core.Path.{◌≡◌, ap, ◌∙◌}
use mathlib.Core.Bool.{Bool, true, false}
use mathlib.Core.List.{List, [], ◌∷◌}
use lib.ListN.{take, drop}
use Rattle.std.specs.Prelude.{Result, Ok, Err}
use Rattle.text.specs.declared.words.NumeralError.{NumeralError}
use Rattle.text.specs.Words.{words_in, same, numeral_of}
use Rattle.text.specs.Steps.{Stands}
use Rattle.log_text.specs.declared.Keyword.{Keyword}
use Rattle.log_text.specs.declared.Why.TheVariants.{MissingNumber}
use Rattle.log_text.specs.declared.Line.TheVariants as line
use Rattle.log_text.specs.Form.{form, number_most}
use Rattle.log_text.specs.Reading.{take_slots, keyword_of, is_known, unknown, line_of, Taken, by_numeral, take_number, plus_one, take_option, take_word, extra, line_from, made}

-- ---- no word is left

module _ {ws : List (List ℕ)} (e : ws ≡ []) where
  pub number_none : (most : ℕ) → Err MissingNumber ≡ take_number most ws
  number_none most = rw e

  pub made_none : (k : Keyword) (a b c d : ℕ) → line_from k a b c d ≡ made k (Ok (a ∷ b ∷ c ∷ d ∷ [], ws))
  made_none k a b c d = rw e

-- ---- by the first word

module _ {s : List ℕ} {at a e : ℕ} (st : Stands s at a e) where
  abbrev word : List ℕ
  word = take (e - a) (drop a s)

  pub number_said : (most : ℕ) {x : Result ℕ NumeralError} → numeral_of most word ≡ x → by_numeral x (words_in (drop e s)) ≡ take_number most (words_in (drop at s))
  number_said most q = rw (st.words, q)

  pub option_other : (name : List ℕ) (most : ℕ) → same word name ≡ false → Ok (0, words_in (drop at s)) ≡ take_option name most (words_in (drop at s))
  option_other name most q = rw (st.words, q)

  pub option_said : (name : List ℕ) (most : ℕ) → same word name ≡ true → {x : Taken} → x ≡ take_number most (words_in (drop e s))
      → plus_one x ≡ take_option name most (words_in (drop at s))
  option_said name most q {x} h = ap plus_one h ∙ rw (st.words, q)

  pub flag_other : (name : List ℕ) → same word name ≡ false → Ok (0, words_in (drop at s)) ≡ take_word name (words_in (drop at s))
  flag_other name q = rw (st.words, q)

  pub flag_said : (name : List ℕ) → same word name ≡ true → Ok (1, words_in (drop e s)) ≡ take_word name (words_in (drop at s))
  flag_said name q = rw (st.words, q)

  pub made-extra : (k : Keyword) (vs : List ℕ) {x : Result ℕ NumeralError} → numeral_of number_most word ≡ x → Err (extra x) ≡ made k (Ok (vs, words_in (drop at s)))
  made-extra k vs q = rw (st.words, q)

-- ---- a line by its first word

pub line-blank : (begun : Bool) (ws : List (List ℕ)) → ws ≡ [] → Ok line.Blank ≡ line_of begun ws
unfolding line_of
line-blank begun ws e = rw e

module _ {s : List ℕ} {a e : ℕ} (st : Stands s 0 a e) (begun : Bool) {k : Keyword} (q : k ≡ keyword_of begun (take (e - a) (drop a s))) where
  pub line-unknown : is_known k ≡ false → Err (unknown begun) ≡ line_of begun (words_in s)
  unfolding line_of
  line-unknown h = rw (st.words, ← q, h)

  pub line_known : is_known k ≡ true → made k (take_slots (form k) (words_in (drop e s))) ≡ line_of begun (words_in s)
  unfolding line_of
  line_known h = rw (st.words, ← q, h)
