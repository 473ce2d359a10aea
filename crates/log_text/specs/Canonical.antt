-- Canonical text: no line without words, one space between words, a newline behind each line, and each number in its shortest form.
use Rattle.std.specs.Prelude.{ℕ, ◌≡◌, true, List, [], ◌∷◌, ◌++◌}
use Rattle.text.specs.Decimal.{decimal, value_of, all_digits}
use Rattle.text.specs.Words.{lines_of, words_of}
use Rattle.log_text.specs.Printing.{line_text}

-- a word that has digits only has no leading zero, but for 0 itself
abbrev pub Shortest : List ℕ → Type 0
Shortest w = all_digits w ≡ true → w ≡ decimal (value_of w)

unfoldable pub AllShortest : List (List ℕ) → Type 0
AllShortest [] = Unit {0}
AllShortest (w ∷ ws) = Shortest w × AllShortest ws

unfoldable pub CanonicalLines : List (List ℕ) → Type 0
CanonicalLines [] = Unit {0}
CanonicalLines (l ∷ ls) = (words_of l ≡ [] → ⊥) × AllShortest (words_of l) × CanonicalLines ls

-- the words of each line, joined again
unfoldable pub rejoined : List (List ℕ) → List ℕ
rejoined [] = []
rejoined (l ∷ ls) = line_text (words_of l) ++ rejoined ls

pub record Canonical (text : List ℕ) : Type 0 where
  pub lines : CanonicalLines (lines_of text)
  pub whole : rejoined (lines_of text) ≡ text
