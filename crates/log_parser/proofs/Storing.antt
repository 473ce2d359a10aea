-- The loop of `write_lines`: the lines read so far are written. And what `parse_text` leaves. Assumes nothing.
use Prim.Native.Nat.{ℕ, ◌+◌, ◌<◌, ◌≤◌}
use mathlib.Core.Path.{◌≡◌, refl, sym, ◌∙◌}
use mathlib.Core.List.{List, [], ◌∷◌}
use mathlib.Core.Option.{Option, none, some}
use native.Mathlib.Omega.{arith}
use lib.Dec.{ltb}
use lib.ListN.{length}
use borrow.Author.Tests.{le-leb, lt-leb}
use Rattle.std.specs.Prelude.{Result, Ok, Err, IsOk}
use Rattle.output.specs.declared.Output.{Output}
use Rattle.output.specs.Puts.{Room, Puts, Holds}
use Rattle.output.specs.Fill.{outcome, bytes_in}
use Rattle.output.proofs.Wrote.{wrote-length}
use Rattle.output.proofs.Puts.{holds_room, puts-append, puts_nothing, puts-whole}
use Rattle.output.proofs.Fill.{fill-short, fill_done}
use Rattle.call_log.specs.Log.{Log, bytes_of}
use Rattle.text.specs.Words.{lines_of, words_of}
use Rattle.log_text.specs.declared.Line as said
use Rattle.log_text.specs.declared.Why.{Why}
use Rattle.log_text.specs.Reading.{is_begun, record_count, line_of, line_after, with_line, Parsed, Parsed·log, Parsed·refused, Parsed·tooLong, go_on, parse_lines, longest_text, parse}
use Rattle.log_text.proofs.Lines.{Fit, line-fits, Sound, sound_next, Went, went, lines_end}
use Rattle.log_parser.specs.declared.ParseError.{ParseError}
use Rattle.log_parser.specs.declared.ParseError.TheVariants.{TooLong, NoRoom}
use Rattle.log_parser.specs.Parser.{as_log, parsed, parse_text}
use Rattle.log_parser.specs.Steps.{line_bytes, measured, RoomFor}
use Rattle.log_parser.proofs.Growing.{log_bytes, bytes_next, size_next, bytes_begun, lines-most}

-- a line that is not the end of the reading is taken
went_ok : (y : Result said.Line Why) (k : ℕ) (p : Parsed) (l : Log) → go_on k y p ≡ Parsed·log l → IsOk y
went_ok (Ok y) k p l e = refl
went_ok (Err why) k p l e = let z : ◌≡◌ {A = ℕ} 0 1 = cc in absurd (omega arith)

-- the lines in front of the rest are written
pub record Storing (text : List ℕ) (start : Output) (rest : List (List ℕ)) (out : Output) : Type 0 where
  pub log : Option Log
  pub number : ℕ
  pub same : parse_lines 1 none (lines_of text) ≡ parse_lines number log rest
  pub sound : Sound log
  pub put : Puts start (log_bytes log) out

pub storing_start : (text : List ℕ) (out : Output) → Storing text out (lines_of text) out
storing_start text out = record { log = none; number = 1; same = refl; sound = tt; put = puts_nothing out }

module _ {text : List ℕ} {start : Output} (room : RoomFor (parse_lines 1 none (lines_of text)) start) {rest : List (List ℕ)} {out : Output}
    (g : Storing text start rest out) where
  module _ {line : List ℕ} {others : List (List ℕ)} (next : rest ≡ line ∷ others) where
    module _ {y : Result said.Line Why} (q : y ≡ line_of (ltb 0 out.end) (words_of line)) where
      begun : y ≡ line_of (is_begun g.log) (words_of line)
      begun = let size : out.end ≡ length (log_bytes g.log) = omega (arith, g.put.wrote.place, room.empty) in q ∙ rw (size, bytes_begun g.log g.sound)

      -- the text gives a log from here on
      ahead : go_on g.number (line_after g.log line) (parse_lines (g.number + 1) (with_line g.log (line_after g.log line)) others) ≡ Parsed·log room.log
      unfolding parse_lines
      ahead = sym (g.same ∙ rw next) ∙ room.same

      taken : Went (record_count g.log) (line_of (is_begun g.log) (words_of line)) (parse_lines (g.number + 1) (with_line g.log (line_after g.log line)) others)
          room.log
      taken = went g.number (record_count g.log) (line_of (is_begun g.log) (words_of line))
          (parse_lines (g.number + 1) (with_line g.log (line_after g.log line)) others) room.log ahead

      read : y ≡ line_after g.log line
      read = begun ∙ sym taken.same

      fit : Fit g.log y
      fit = rw read (line-fits g.log line)

      onward : parse_lines (g.number + 1) (with_line g.log y) others ≡ Parsed·log room.log
      onward = rw read taken.others

      pub storing_ok : IsOk y
      storing_ok = rw read (went_ok (line_after g.log line) g.number (parse_lines (g.number + 1) (with_line g.log (line_after g.log line)) others) room.log ahead)

    module _ {y : said.Line} (q : Ok y ≡ line_of (ltb 0 out.end) (words_of line)) where
      pub storing_room : Room (length (line_bytes y)) out
      storing_room =
          let most = lines-most others (g.number + 1) (with_line g.log (Ok y)) room.log (onward q) in
          omega (arith, g.put.wrote.place, wrote-length g.put.wrote, room.fits, size_next g.log y (fit q), most)

      pub storing_next : {after : Output} → Puts out (line_bytes y) after → Storing text start others after
      storing_next p = record {
        log = with_line g.log (Ok y);
        number = g.number + 1;
        same = room.same ∙ sym (onward q);
        sound = sound_next g.log (Ok y) g.sound (fit q);
        put = rw (bytes_next g.log y (fit q)) (puts-append g.put p);
      }

  pub storing_done : rest ≡ [] → Puts start (bytes_in (as_log (parse_lines 1 none (lines_of text)))) out
  storing_done end =
      let all : g.log ≡ some room.log = lines_end g.number g.log room.log (sym (g.same ∙ rw end) ∙ room.same) in
      rw room.same (rw all at g.put)

-- ---- what is left in the buffer

pub text-long : (text buf : List ℕ) → longest_text < length text → outcome (Err TooLong) buf ≡ parse_text text buf
unfolding parse
text-long text buf h = rw (lt-leb (length text) longest_text h)

pub text-short : (text : List ℕ) → length text ≤ longest_text → parse text ≡ parse_lines 1 none (lines_of text)
unfolding parse
text-short text h = rw (le-leb (length text) longest_text h)

pub store_kept : (p : Parsed) (buf : List ℕ) {a : ParseError} → Err a ≡ measured p → outcome (Err a) buf ≡ parsed p buf
store_kept (Parsed·log l) buf e = let z : ◌≡◌ {A = ℕ} 0 1 = cc in absurd (omega arith)
store_kept (Parsed·refused k why) buf e = rw e
store_kept Parsed·tooLong buf e = rw e

-- the log of a text that was measured
measured-log : (p : Parsed) (size : ℕ) → measured p ≡ Ok size → (l : Log) × (p ≡ Parsed·log l) × (size ≡ length (bytes_of l))
measured-log (Parsed·log l) size e = (l, refl, cc)
measured-log (Parsed·refused k why) size e = let z : ◌≡◌ {A = ℕ} 0 1 = cc in absurd (omega arith)
measured-log Parsed·tooLong size e = let z : ◌≡◌ {A = ℕ} 0 1 = cc in absurd (omega arith)

module _ (p : Parsed) (buf : List ℕ) {size : ℕ} (e : Ok size ≡ measured p) where
  pub store_short : length buf < size → outcome (Err NoRoom) buf ≡ parsed p buf
  store_short h = let m = measured-log p size (sym e) in rw m.1 (fill-short Ok (Err NoRoom) (bytes_of m.0) buf (omega (arith, m.2)))

  module _ (h : size ≤ length buf) {empty : Output} (made : Holds empty buf 0) where
    pub store_room : RoomFor p empty
    store_room =
        let m = measured-log p size (sym e) in
        record { log = m.0; same = m.1; empty = made.place; fits = holds_room (length (bytes_of m.0)) made (omega (arith, m.2)) }

    pub store_done : {out : Output} {after : List ℕ} → Puts empty (bytes_in (as_log p)) out → after ≡ out.buffer.now → outcome (Ok out.end) after ≡ parsed p buf
    store_done w same =
        let m = measured-log p size (sym e) in
        rw m.1 (fill_done Ok (Err NoRoom) (bytes_of m.0) buf (omega (arith, m.2)) (puts-whole (rw m.1 at w) made same))
