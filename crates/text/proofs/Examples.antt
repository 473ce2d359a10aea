-- Quoted text, decimal numbers, lines, words and numbers, by computation. Assumes nothing.
use mathlib.Core.Path.{◌≡◌, refl}
use mathlib.Core.List.{[], ◌∷◌, map}
use Rattle.std.specs.Prelude.{Ok, Err}
use Rattle.text.specs.declared.words.NumeralError.TheVariants.{TooLarge, NotDigits}
use Rattle.text.specs.Ascii.{ascii}
use Rattle.text.specs.Decimal.{digits, decimal, value_from, all_digits}
use Rattle.text.specs.Words.{span, pieces, nonempty, lines_of, words_of, numeral_of}

quoted : ascii "pool 64\n" ≡ 112 ∷ 111 ∷ 111 ∷ 108 ∷ 32 ∷ 54 ∷ 52 ∷ 10 ∷ []
quoted = refl

zero : decimal 0 ≡ ascii "0"
unfolding digits
zero = refl

hundred : decimal 100 ≡ ascii "100"
unfolding digits
hundred = refl

-- the second line is empty, and the last has no newline
lines : lines_of (ascii "tick\n\nget 1 10") ≡ ascii "tick" ∷ [] ∷ ascii "get 1 10" ∷ []
unfolding pieces
lines = refl

words : words_of (ascii "  get\t1  10 # ten\r") ≡ ascii "get" ∷ ascii "1" ∷ ascii "10" ∷ []
unfolding span pieces nonempty
words = refl

numbers : map (λ w. numeral_of 4294967295 (ascii w)) ("007" ∷ "4294967295" ∷ "4294967296" ∷ "8x" ∷ []) ≡ Ok 7 ∷ Ok 4294967295 ∷ Err TooLarge ∷ Err NotDigits ∷ []
unfolding value_from all_digits numeral_of
numbers = refl
