-- The loop of `measure`: the lines read so far, and the bytes of their log. Assumes nothing.
use Prim.Native.Nat.{ℕ, ◌+◌, ◌≤◌}
use mathlib.Core.Path.{◌≡◌, refl, sym, ap, ◌∙◌}
use mathlib.Core.Bool.{true, false}
use mathlib.Core.List.{List, [], ◌∷◌}
use mathlib.Core.Option.{Option, none, some}
use native.Mathlib.Omega.{arith}
use lib.Dec.{ltb}
use lib.ListN.{length}
use Rattle.std.specs.Prelude.{Result, Ok, Err, MatchResult, IsErrAnd}
use Rattle.call_log.specs.Log.{Log}
use Rattle.text.specs.Words.{lines_of, words_of}
use Rattle.log_text.specs.declared.Why.TheVariants.{NoPoolLine}
use Rattle.log_text.specs.declared.Line as said
use Rattle.log_text.specs.declared.Why.{Why}
use Rattle.log_text.specs.Reading.{record_count, limited, line_of, line_after, with_line, Parsed·refused, at_end, go_on, parse_lines}
use Rattle.log_text.proofs.Lines.{Fit, line-fits, Sound, sound_next}
use Rattle.log_parser.specs.declared.ParseError.TheVariants.{Refused}
use Rattle.log_parser.specs.Steps.{line_bytes, call_count, measured}
use Rattle.log_parser.proofs.Splitting.{lines-few}
use Rattle.log_parser.proofs.Growing.{log_bytes, size_next, count_next, line-short, bytes_most, count_most, bytes_begun}

-- what `map_err` tells of an error that it gives
pub mapped-err : {X E D : Type 0} (r : Result X E) {q : Result X D} (P : E → D → Type 0) → MatchResult r (λ x. q ≡ Ok x) (λ e. IsErrAnd q (P e)) → {d : D} → q ≡ Err d
    → (e : E) × (r ≡ Err e) × P e d
mapped-err {X} {E} {D} (Ok y) P m {d} e = let same : ◌≡◌ {A = Result X D} (Ok y) (Err d) = sym m ∙ e in let z : ◌≡◌ {A = ℕ} 0 1 = cc in absurd (omega arith)
mapped-err (Err d) {q} P m e = (d, refl, rw e at m)

-- the lines in front of the rest are read
pub record Measuring (text : List ℕ) (rest : List (List ℕ)) (number count size : ℕ) : Type 0 where
  pub log : Option Log
  pub same : parse_lines 1 none (lines_of text) ≡ parse_lines number log rest
  pub counted : count ≡ record_count log
  pub sized : size ≡ length (log_bytes log)
  pub sound : Sound log
  pub numbered : number + length rest ≡ 1 + length (lines_of text)

module _ {text : List ℕ} {rest : List (List ℕ)} {number count size : ℕ} (g : Measuring text rest number count size) where
  pub measuring_most : (size ≤ 86022) × (count ≤ 4096) × (number ≤ length text + 1)
  measuring_most = (omega (arith, g.sized, g.counted, bytes_most g.log g.sound, count_most g.log g.sound), omega (arith, g.counted, count_most g.log g.sound), omega (arith, g.numbered, lines-few text))

  module _ {line : List ℕ} {others : List (List ℕ)} (next : rest ≡ line ∷ others) where
    module _ {y : Result said.Line Why} (q : y ≡ limited count (line_of (ltb 0 size) (words_of line))) where
      read : y ≡ line_after g.log line
      read = q ∙ rw (g.counted, g.sized, bytes_begun g.log g.sound)

      fit : Fit g.log y
      fit = rw read (line-fits g.log line)

      here : parse_lines 1 none (lines_of text) ≡ go_on number y (parse_lines (number + 1) (with_line g.log y) others)
      unfolding parse_lines
      here = g.same ∙ rw (next, read)

    pub measuring_refused : {why : Why} → Err why ≡ limited count (line_of (ltb 0 size) (words_of line)) → Err (Refused number why) ≡ measured (parse_lines 1 none (lines_of text))
    measuring_refused q = rw (here q)

    module _ {y : said.Line} (q : Ok y ≡ limited count (line_of (ltb 0 size) (words_of line))) where
      pub measuring_line : length (line_bytes y) ≤ 21
      measuring_line = line-short g.log y (fit q)

      pub measuring_next : {n : ℕ} → n ≡ length (line_bytes y) → {m : ℕ} → m ≡ call_count y → Measuring text others (number + 1) (count + m) (size + n)
      measuring_next {n} a {m} b = record {
        log = with_line g.log (Ok y);
        same = here q;
        counted = omega (arith, g.counted, count_next g.log y (fit q));
        sized = omega (arith, g.sized, size_next g.log y (fit q));
        sound = sound_next g.log (Ok y) g.sound (fit q);
        numbered = omega (arith, g.numbered, ap length next);
      }

  module _ (end : rest ≡ []) where
    ended : parse_lines 1 none (lines_of text) ≡ at_end number g.log
    unfolding parse_lines
    ended = g.same ∙ rw end

    none_yet : (x : Option Log) → Sound x → length (log_bytes x) ≡ 0 → at_end number x ≡ Parsed·refused number NoPoolLine
    none_yet none s z = refl
    none_yet (some l) s z = let b : false ≡ true = rw z at (bytes_begun (some l) s) in let o : ◌≡◌ {A = ℕ} 0 1 = cc in absurd (omega arith)

    pub measuring_none : size ≡ 0 → Err (Refused number NoPoolLine) ≡ measured (parse_lines 1 none (lines_of text))
    measuring_none z = rw (ended, none_yet g.log g.sound (omega (arith, g.sized)))

    some-log : (x : Option Log) → (length (log_bytes x) ≡ 0 → ⊥) → Ok (length (log_bytes x)) ≡ measured (at_end number x)
    some-log none z = absurd (z refl)
    some-log (some l) z = refl

    pub measuring_log : (size ≡ 0 → ⊥) → Ok size ≡ measured (parse_lines 1 none (lines_of text))
    measuring_log z = rw (ended, g.sized) (some-log g.log (λ n. z (omega (arith, g.sized))))
