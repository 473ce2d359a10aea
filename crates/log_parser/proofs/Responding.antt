-- What `respond` leaves, by the answer of `parse_text`. Assumes nothing.
use Prim.Native.Nat.{ℕ, ◌<◌, ◌≤◌}
use mathlib.Core.Path.{◌≡◌, refl}
use mathlib.Core.Bool.{Bool, true, false}
use mathlib.Core.List.{List, ◌++◌, append_assoc}
use native.Mathlib.Omega.{arith}
use lib.ListN.{length}
use Rattle.std.specs.Prelude.{Result, Ok, Err}
use Rattle.output.specs.Wrote.{Wrote}
use Rattle.output.specs.Fill.{outcome, Content·bytes, Content·refused, Responded}
use Rattle.output.proofs.Fill.{response-short, Told, responded_done, responded_refused}
use Rattle.call_log.specs.Log.{bytes_of}
use Rattle.text.specs.Ascii.{ascii}
use Rattle.text.specs.Decimal.{decimal, around}
use Rattle.log_text.specs.declared.Why.{Why}
use Rattle.log_text.specs.declared.Why.TheVariants.{UnknownWord, MissingNumber, NumberTooLarge, TooManyNumbers, NoPoolLine, TooManyRecords}
use Rattle.log_text.specs.Reasons.{why_text}
use Rattle.log_text.specs.Printing.{longest_log}
use Rattle.log_text.specs.Reading.{Parsed, Parsed·log, Parsed·refused, Parsed·tooLong, parse}
use Rattle.log_text.proofs.Theorems.{parse_printable, printable_short}
use Rattle.log_parser.specs.declared.ParseError.{ParseError}
use Rattle.log_parser.specs.declared.ParseError.TheVariants.{Refused, TooLong, NoRoom}
use Rattle.log_parser.specs.Parser.{as_log, parse_text}
use Rattle.log_parser.specs.Response.{refused_line, refusal_line, response_for}

-- the line of a refusal
pub why_short : (why : Why) → length (why_text why) ≤ 24
why_short UnknownWord = omega arith
why_short MissingNumber = omega arith
why_short NumberTooLarge = omega arith
why_short TooManyNumbers = omega arith
why_short NoPoolLine = omega arith
why_short TooManyRecords = omega arith

pub line-parts : (k : ℕ) (why : Why) → around (ascii "line ") k (ascii ": ") ++ why_text why ≡ refused_line k why
line-parts k why = rw (append_assoc (decimal k) (ascii ": ") (why_text why))

-- a line is refused, or the text is too long
abbrev refuses : Result ℕ ParseError → Bool
refuses (Ok n) = false
refuses (Err (Refused k why)) = true
refuses (Err TooLong) = true
refuses (Err NoRoom) = false

told : (text : List ℕ) → Told Ok refuses longest_log (as_log (parse text))
told text = record { stored = λ n. refl; refused = refused (parse text); most = most (parse text) refl }
  where
    refused : (p : Parsed) (a : Result ℕ ParseError) → as_log p ≡ Content·refused a → refuses a ≡ true
    refused (Parsed·log l) a e = let z : ◌≡◌ {A = ℕ} 0 1 = cc in absurd (omega arith)
    refused (Parsed·refused k why) a e = let same : Err (Refused k why) ≡ a = cc in rw (← same)
    refused Parsed·tooLong a e = let same : Err TooLong ≡ a = cc in rw (← same)

    most : (p : Parsed) → parse text ≡ p → (s : List ℕ) → as_log p ≡ Content·bytes s → length s ≤ longest_log
    most (Parsed·log l) q s e = let same : bytes_of l ≡ s = cc in rw (← same) (printable_short l (parse_printable text l q))
    most (Parsed·refused k why) q s e = let z : ◌≡◌ {A = ℕ} 0 1 = cc in absurd (omega arith)
    most Parsed·tooLong q s e = let z : ◌≡◌ {A = ℕ} 0 1 = cc in absurd (omega arith)

-- a buffer that is too short for some
pub response-small : (text buf : List ℕ) → length buf < longest_log → Responded (response_for text buf) buf buf 0
response-small text buf h = response-short longest_log refusal_line (as_log (parse text)) buf h

module _ (text buf : List ℕ) (room : longest_log ≤ length buf) (after : List ℕ) where
  pub response-log : (n : ℕ) → outcome (Ok n) after ≡ parse_text text buf → Responded (response_for text buf) buf after n
  response-log n e =
      let d = responded_done (told text) (Err NoRoom) refusal_line buf room (Ok n) after refl e in
      let size = d.1 in
      let same : n ≡ d.0 = cc in
      rw same d.2

  module _ {last : List ℕ} {end : ℕ} where
    pub response-refused : (a : Result ℕ ParseError) → refuses a ≡ true → outcome a after ≡ parse_text text buf → Wrote after 0 (refusal_line a) last end
        → length (refusal_line a) ≤ longest_log → Responded (response_for text buf) buf last end
    response-refused a k e w h = responded_refused (told text) (Err NoRoom) refusal_line buf room a after k e w h

    pub response_none : outcome (Err NoRoom) after ≡ parse_text text buf → Responded (response_for text buf) buf last end
    response_none e =
        let d = responded_done (told text) (Err NoRoom) refusal_line buf room (Err NoRoom) after refl e in
        let size = d.1 in
        let z : ◌≡◌ {A = ℕ} 0 1 = cc in absurd (omega arith)

    pub response-error : (a : ParseError) → outcome (Err a) after ≡ parse_text text buf → Wrote after 0 (refusal_line (Err a)) last end → end ≤ 64
        → Responded (response_for text buf) buf last end
    response-error (Refused k why) e w h = response-refused (Err (Refused k why)) refl e w (omega (arith, w.place, h))
    response-error TooLong e w h = response-refused (Err TooLong) refl e w (omega (arith, w.place, h))
    response-error NoRoom e w h = response_none e
