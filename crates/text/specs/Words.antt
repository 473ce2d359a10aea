-- Lines, words and numbers of a text, as lists of ASCII codes.
use Rattle.std.specs.Prelude.{ℕ, List, [], ◌∷◌, Bool, true, false, not, cond, ◌&&◌, ◌||◌, leb, eqb, Result, Ok, Err}
use Prim.Native.Char.{code}
use Rattle.text.specs.declared.words.Class.{Class}
use Rattle.text.specs.declared.words.Class.TheVariants.{Line, Plain, Blank, Word, Digit}
use Rattle.text.specs.declared.words.NumeralError.{NumeralError}
use Rattle.text.specs.declared.words.NumeralError.TheVariants.{TooLarge, NotDigits}
use Rattle.text.specs.Decimal.{value_of, all_digits}

-- ---- classes of bytes

-- a space, a tab or a carriage return
abbrev pub is_blank : ℕ → Bool
is_blank b = eqb b (code " ") || (eqb b (code "\t") || eqb b (code "\r"))

abbrev pub belongs : Class → ℕ → Bool
belongs Line b = not (eqb b (code "\n"))
belongs Plain b = not (eqb b (code "#"))
belongs Blank b = is_blank b
belongs Word b = not (is_blank b)
belongs Digit b = leb (code "0") b && leb b (code "9")

-- the longest start of a text whose bytes are of the class
unfoldable pub span : Class → List ℕ → List ℕ
span c [] = []
span c (b ∷ s) = cond (belongs c b) (b ∷ span c s) []

-- ---- pieces of a text

-- a byte in front of the first piece
abbrev pub onto : ℕ → List (List ℕ) → List (List ℕ)
onto b [] = (b ∷ []) ∷ []
onto b (p ∷ ps) = (b ∷ p) ∷ ps

-- what each byte that is not of the class ends, and what is left behind the last of them, if anything is
unfoldable pub pieces : Class → List ℕ → List (List ℕ)
pieces c [] = []
pieces c (b ∷ s) = cond (belongs c b) (onto b (pieces c s)) ([] ∷ pieces c s)

unfoldable pub nonempty : List (List ℕ) → List (List ℕ)
nonempty [] = []
nonempty ([] ∷ ps) = nonempty ps
nonempty ((b ∷ p) ∷ ps) = (b ∷ p) ∷ nonempty ps

-- a *line* ends at a newline or at the end of the text
abbrev pub lines_of : List ℕ → List (List ℕ)
lines_of s = pieces Line s

-- a *word* is a longest run of bytes that are no blanks
abbrev pub words_in : List ℕ → List (List ℕ)
words_in s = nonempty (pieces Word s)

-- the words of a line: those before the comment
abbrev pub words_of : List ℕ → List (List ℕ)
words_of line = words_in (span Plain line)

-- ---- words

unfoldable pub same : List ℕ → List ℕ → Bool
same [] [] = true
same [] (b ∷ w) = false
same (a ∷ v) [] = false
same (a ∷ v) (b ∷ w) = eqb a b && same v w

-- the number that a word says, if it has only digits; above `most` it is too large
unfoldable pub numeral_of : ℕ → List ℕ → Result ℕ NumeralError
numeral_of most w = cond (all_digits w) (cond (leb (value_of w) most) (Ok (value_of w)) (Err TooLarge)) (Err NotDigits)
