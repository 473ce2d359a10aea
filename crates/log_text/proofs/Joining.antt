-- Words that are joined to lines, and lines that are joined to a text, are found again. Assumes nothing.
use Prim.Native.Nat.{ℕ, ◌≤◌}
use mathlib.Core.Path.{◌≡◌, refl}
use mathlib.Core.Bool.{true}
use mathlib.Core.List.{List, [], ◌∷◌, ◌++◌, append_assoc, append-nil}
use native.Mathlib.Omega.{arith}
use lib.ListN.{length}
use Rattle.text.specs.declared.words.Class.{Class}
use Rattle.text.specs.declared.words.Class.TheVariants.{Line, Plain, Word}
use Rattle.text.specs.Ascii.{ascii}
use Rattle.text.specs.Decimal.{decimal}
use Rattle.text.specs.Words.{pieces, nonempty, lines_of, words_in, words_of}
use Rattle.text.proofs.Decimal.{decimal-digits}
use Rattle.text.proofs.Theorems.{decimal-some}
use Rattle.text.proofs.Spans.{every, span_every, every_append, every_digit}
use Rattle.text.proofs.Pieces.{pieces_piece, pieces-last}
use Rattle.log_text.specs.Printing.{spaced, joined, line_text}

-- what can stand as a word
pub record Wordy (w : List ℕ) : Type 0 where
  pub some : 1 ≤ length w
  pub line : every Line w ≡ true
  pub plain : every Plain w ≡ true
  pub word : every Word w ≡ true

pub wordy_decimal : (n : ℕ) → Wordy (decimal n)
wordy_decimal n = record {
  some = decimal-some n;
  line = every_digit Line (decimal n) (λ e. cc) (decimal-digits n);
  plain = every_digit Plain (decimal n) (λ e. cc) (decimal-digits n);
  word = every_digit Word (decimal n) (λ e. cc) (decimal-digits n);
}

unfoldable pub AllWordy : List (List ℕ) → Type 0
AllWordy [] = Unit {0}
AllWordy (w ∷ ws) = Wordy w × AllWordy ws

-- ---- the words of a line

every_spaced : (c : Class) (ws : List (List ℕ)) → every c (ascii " ") ≡ true → ((w : List ℕ) → Wordy w → every c w ≡ true) → AllWordy ws → every c (spaced ws) ≡ true
unfolding spaced AllWordy every
every_spaced c [] h f a = refl
every_spaced c (w ∷ ws) h f a = every_append c (ascii " ") (w ++ spaced ws) h (every_append c w (spaced ws) (f w a.0) (every_spaced c ws h f a.1))

pieces_word : (w : List ℕ) → Wordy w → pieces Word w ≡ w ∷ []
pieces_word [] a = absurd (omega (arith, a.some))
pieces_word (b ∷ w) a = pieces-last Word b w a.word

nonempty_word : (w : List ℕ) (ps : List (List ℕ)) → Wordy w → nonempty (w ∷ ps) ≡ w ∷ nonempty ps
unfolding nonempty
nonempty_word [] ps a = absurd (omega (arith, a.some))
nonempty_word (b ∷ w) ps a = refl

words-spaced : (w : List ℕ) (ws : List (List ℕ)) → Wordy w → AllWordy ws → words_in (w ++ spaced ws) ≡ w ∷ ws
unfolding spaced AllWordy nonempty
words-spaced w [] a bs = rw (append-nil w, pieces_word w a, nonempty_word w [] a)
words-spaced w (v ∷ ws) a bs =
    rw (pieces_piece Word w 32 (v ++ spaced ws) a.word refl, nonempty_word w (pieces Word (v ++ spaced ws)) a, words-spaced v ws bs.0 bs.1)

pub words-joined : (w : List ℕ) (ws : List (List ℕ)) → Wordy w → AllWordy ws → words_of (joined (w ∷ ws)) ≡ w ∷ ws
unfolding every
words-joined w ws a bs =
    rw (span_every Plain (w ++ spaced ws) (every_append Plain w (spaced ws) a.plain (every_spaced Plain ws refl (λ v b. b.plain) bs)))
    (words-spaced w ws a bs)

-- ---- the lines of a text

pub lines-joined : (w : List ℕ) (ws : List (List ℕ)) (s : List ℕ) → Wordy w → AllWordy ws → lines_of (line_text (w ∷ ws) ++ s) ≡ joined (w ∷ ws) ∷ lines_of s
unfolding every
lines-joined w ws s a bs =
    rw (append_assoc (w ++ spaced ws) (ascii "\n") s)
    (pieces_piece Line (w ++ spaced ws) 10 s (every_append Line w (spaced ws) a.line (every_spaced Line ws refl (λ v b. b.line) bs)) refl)
