-- What the steps through a text answer.
use Rattle.std.specs.Prelude.{ℕ, ◌-◌, ◌≤◌, ◌<◌, ◌≡◌, Option, Some, None, List, [], ◌∷◌, length, take, drop}
use Rattle.text.specs.declared.words.Word.{Word}
use Rattle.text.specs.Words.{words_in}

-- the first word from the place `at` of s on stands from a to e, with the others behind it
pub record Stands (s : List ℕ) (at a e : ℕ) : Type 0 where
  pub some : a < e
  pub inside : e ≤ length s
  pub words : words_in (drop at s) ≡ take (e - a) (drop a s) ∷ words_in (drop e s)

abbrev pub NextWord : List ℕ → ℕ → Option Word → Type 0
NextWord s at (Some word) = Stands s at word.start word.end
NextWord s at None = words_in (drop at s) ≡ []
