-- Laws of the pieces of a text: its lines, and the words of a line. Assumes nothing.
use Prim.Native.Nat.{ℕ, suc, ◌+◌, ◌-◌, ◌<◌, ◌≤◌}
use mathlib.Core.Path.{◌≡◌, refl, sym, ap, ◌∙◌}
use mathlib.Core.Bool.{true, false}
use mathlib.Core.List.{List, [], ◌∷◌, ◌++◌}
use native.Mathlib.Omega.{arith}
use lib.ListN.{length, take, drop, get_or, length-drop, drop_of_length-le}
use lib.Seq.{drop-cons, drop-drop, get_or-drop}
use Rattle.model.proofs.Tests.{by, and_l, and_r}
use Rattle.text.specs.declared.words.Class.{Class}
use Rattle.text.specs.declared.words.Class.TheVariants.{Line, Blank, Word}
use Rattle.text.specs.Words.{is_blank, belongs, span, pieces, nonempty, lines_of, words_in}
use Rattle.text.specs.Steps.{Stands}
use Rattle.text.proofs.Spans.{span_in, span-most, span-take, every}

-- the first piece is the longest start of the class, and the others stand behind the byte that ends it
pub pieces_next : (c : Class) (b : ℕ) (s : List ℕ) → pieces c (b ∷ s) ≡ span c (b ∷ s) ∷ pieces c (drop (suc (length (span c (b ∷ s)))) (b ∷ s))
unfolding pieces span
pieces_next c b [] = by (belongs c b) (λ h. rw h) (λ h. rw h)
pieces_next c b (a ∷ s) = by (belongs c b) (λ h. rw (h, pieces_next c a s)) (λ h. rw h)

-- a piece and the byte that ends it; and a piece at the end
pub pieces_piece : (c : Class) (l : List ℕ) (b : ℕ) (s : List ℕ) → every c l ≡ true → belongs c b ≡ false → pieces c (l ++ b ∷ s) ≡ l ∷ pieces c s
unfolding pieces every
pieces_piece c [] b s e f = rw f
pieces_piece c (a ∷ l) b s e f = rw (and_l (belongs c a) (every c l) e, pieces_piece c l b s (and_r (belongs c a) (every c l) e) f)

pub pieces-last : (c : Class) (a : ℕ) (l : List ℕ) → every c (a ∷ l) ≡ true → pieces c (a ∷ l) ≡ (a ∷ l) ∷ []
unfolding pieces every
pieces-last c a [] e = rw (and_l (belongs c a) (every c []) e)
pieces-last c a (b ∷ l) e = rw (and_l (belongs c a) (every c (b ∷ l)) e, pieces-last c b l (and_r (belongs c a) (every c (b ∷ l)) e))

-- the byte behind a span is not of its class
pub span_next : (c : Class) (s : List ℕ) → length (span c s) < length s → belongs c (get_or s (length (span c s)) 0) ≡ false
unfolding span
span_next c [] h = absurd (omega arith)
span_next c (b ∷ s) h = by (belongs c b) (λ e. rw e (span_next c s (omega (arith, rw e at h)))) (λ e. rw e e)

-- ---- words

words-blank : (b : ℕ) (s : List ℕ) → is_blank b ≡ true → words_in (b ∷ s) ≡ words_in s
unfolding pieces nonempty
words-blank b s h = rw h

-- blanks in front
pub words_blanks : (s : List ℕ) → words_in s ≡ words_in (drop (length (span Blank s)) s)
unfolding span
words_blanks [] = refl
words_blanks (b ∷ s) = by (is_blank b) (λ h. rw h (words-blank b s h ∙ words_blanks s)) (λ h. rw h)

-- the byte that ends a word is a blank
words-behind : (s : List ℕ) → words_in (drop (suc (length (span Word s))) s) ≡ words_in (drop (length (span Word s)) s)
unfolding span
words-behind [] = refl
words-behind (b ∷ s) = by (is_blank b) (λ h. rw h (sym (words-blank b s h))) (λ h. rw h (words-behind s))

pub words_word : (b : ℕ) (s : List ℕ) → is_blank b ≡ false → words_in (b ∷ s) ≡ span Word (b ∷ s) ∷ words_in (drop (length (span Word (b ∷ s))) (b ∷ s))
unfolding nonempty span
words_word b s h = rw (pieces_next Word b s, h) (rw (words-behind s))

-- ---- the first word from a place on

module _ (s : List ℕ) (at start : ℕ) (e : start ≡ at + length (span Blank (drop at s))) where
  skipped : words_in (drop at s) ≡ words_in (drop start s)
  skipped = words_blanks (drop at s) ∙ rw (drop-drop (length (span Blank (drop at s))) at s, ← e)

  pub word_none : length s ≤ start → words_in (drop at s) ≡ []
  unfolding pieces nonempty
  word_none h = skipped ∙ rw (drop_of_length-le s h)

  module _ (h : start < length s) where
    filled : is_blank (get_or s start 0) ≡ false
    filled =
        let short : length (span Blank (drop at s)) < length (drop at s) = simp length-drop (omega arith) in
        let k = span_next Blank (drop at s) short in
        rw e (rw get_or-drop at k)

    pub word_some : (end : ℕ) → end ≡ start + length (span Word (drop start s)) → Stands s at start end
    word_some end q =
        let here = drop-cons s start 0 h in
        let first = rw (← here) at (span_in Word (get_or s start 0) (drop (suc start) s) (rw filled)) in
        let first_word = rw (← here) at (words_word (get_or s start 0) (drop (suc start) s) filled) in
        let most = span-most Word (drop start s) in
        let size : end - start ≡ length (span Word (drop start s)) = omega arith in
        record {
          some = omega (arith, ap length first);
          inside = omega (arith, length-drop start s);
          words = skipped ∙ first_word ∙ rw (size, span-take Word (drop start s), drop-drop (length (span Word (drop start s))) start s, ← q);
        }

-- ---- the line from a place on

module _ (s : List ℕ) (at end : ℕ) (h : at < length s) (e : end ≡ at + length (span Line (drop at s))) where
  pub line-inside : end ≤ length s
  line-inside = omega (arith, span-most Line (drop at s), length-drop at s)

  pub line_next : lines_of (drop at s) ≡ take (end - at) (drop at s) ∷ lines_of (drop (end + 1) s)
  line_next =
      let here = drop-cons s at 0 h in
      let size : end - at ≡ length (span Line (drop at s)) = omega arith in
      let place : at + suc (length (span Line (drop at s))) ≡ end + 1 = omega arith in
      rw (← here) at (pieces_next Line (get_or s at 0) (drop (suc at) s)) ∙ rw (size, span-take Line (drop at s), drop-drop (suc (length (span Line (drop at s)))) at s, place)
