-- The text of a whole log: refused, too long for the buffer, or written. Assumes nothing.
use Prim.Native.Nat.{ℕ, ◌+◌, ◌<◌, ◌≤◌}
use mathlib.Core.Path.{◌≡◌, refl, sym, ◌∙◌}
use mathlib.Core.List.{List, [], ◌++◌, append-nil}
use native.Mathlib.Omega.{arith}
use lib.ListN.{length, length-append}
use borrow.Author.Tests.{le-leb, lt-leb}
use Rattle.std.specs.Prelude.{Some, None, Ok, Err}
use Rattle.output.specs.declared.Output.{Output}
use Rattle.output.specs.Puts.{Room, Puts, Holds}
use Rattle.output.specs.Fill.{outcome}
use Rattle.output.proofs.Puts.{holds_room, puts-whole, Putting, putting_start, putting_room, putting_next, putting_end}
use Rattle.output.proofs.Fill.{fill-short, fill_done}
use Rattle.call_log.specs.declared.Start.{Start}
use Rattle.call_log.specs.Log.{start_of}
use Rattle.call_log.proofs.Starts.{begun}
use Rattle.log_text.specs.Printing.{pool_parts, parts_text, longest_line, longest_log, Printed, Printed·text, Printed·bad, Printed·tooMany, Printed·tooLong, in_front, print_records, print}
use Rattle.log_printer.specs.declared.PrintError.{PrintError}
use Rattle.log_printer.specs.declared.PrintError.TheVariants.{Bad, TooLong, NoRoom}
use Rattle.log_printer.specs.Printer.{printed, print_log}
use Rattle.log_printer.specs.Steps.{measured, text_in, RoomFor}
use Rattle.log_text.proofs.Widths.{pool-short}

module _ (log buf : List ℕ) where
  pub print_too_long : longest_log < length log → outcome (Err TooLong) buf ≡ print_log log buf
  unfolding print
  print_too_long h = rw (lt-leb (length log) longest_log h)

  pub print_no_start : length log ≤ longest_log → start_of log ≡ None → outcome (Err (Bad 0)) buf ≡ print_log log buf
  unfolding print
  print_no_start h e = rw (le-leb (length log) longest_log h, e)

-- a log whose start is read, and the length of its first line
pub record Started (log : List ℕ) (head : Start) (first : ℕ) : Type 0 where
  pub short : length log ≤ longest_log
  pub taken : start_of log ≡ Some head
  pub line : first ≡ length (parts_text (pool_parts head.length head.order))

pub first_short : (log : List ℕ) (head : Start) → start_of log ≡ Some head → length (parts_text (pool_parts head.length head.order)) ≤ longest_line
first_short log head e = let b = begun log head.length head.order head.size e in pool-short head.length head.order b.small b.known

module _ {log : List ℕ} {head : Start} {first : ℕ} (g : Started log head first) where
  abbrev line : List ℕ
  line = parts_text (pool_parts head.length head.order)

  abbrev rest : Printed
  rest = print_records head.size 0 0 log

  text : print log ≡ in_front line rest
  unfolding print
  text = rw (le-leb (length log) longest_log g.short, g.taken)

  pub measure_requires : (head.size ≤ length log) × (first ≤ longest_line)
  measure_requires = ((begun log head.length head.order head.size g.taken).inside, rw g.line (first_short log head g.taken))

  refused : (buf : List ℕ) (x : Printed) {a : PrintError} → Err a ≡ measured first x → outcome (Err a) buf ≡ printed (in_front line x) buf
  refused buf (Printed·text t) e = let z : ◌≡◌ {A = ℕ} 0 1 = cc in absurd (omega arith)
  refused buf (Printed·bad at) e = rw e
  refused buf Printed·tooMany e = rw e
  refused buf Printed·tooLong e = rw e

  pub print-refused : (buf : List ℕ) {a : PrintError} → Err a ≡ measured first rest → outcome (Err a) buf ≡ print_log log buf
  print-refused buf e = rw text (refused buf rest e)

  -- the text of m bytes
  pub record Measured (m : ℕ) : Type 0 where
    pub records : List ℕ
    pub same : rest ≡ Printed·text records
    pub size : m ≡ length (line ++ records)

  measured-text : (m : ℕ) (x : Printed) → rest ≡ x → measured first x ≡ Ok m → Measured m
  measured-text m (Printed·text t) q e =
      let z : first + length t ≡ m = cc in record { records = t; same = q; size = omega (arith, z, g.line, length-append line t) }
  measured-text m (Printed·bad at) q e = absurd (let z : ◌≡◌ {A = ℕ} 0 1 = cc in omega arith)
  measured-text m Printed·tooMany q e = absurd (let z : ◌≡◌ {A = ℕ} 0 1 = cc in omega arith)
  measured-text m Printed·tooLong q e = absurd (let z : ◌≡◌ {A = ℕ} 0 1 = cc in omega arith)

  pub print-measured : (m : ℕ) → Ok m ≡ measured first rest → Measured m
  print-measured m e = measured-text m rest refl (sym e)

module _ {log : List ℕ} {head : Start} {first : ℕ} (g : Started log head first) {m : ℕ} (v : Measured g m) (buf : List ℕ) where
  abbrev whole : List ℕ
  whole = line g ++ v.records

  all : print log ≡ Printed·text whole
  all = text g ∙ rw v.same

  pub print-short : length buf < m → outcome (Err NoRoom) buf ≡ print_log log buf
  print-short h = rw all (fill-short Ok (Err NoRoom) whole buf (omega (arith, v.size)))

  pub line-fits : m ≤ length buf → 0 + length (line g) ≤ length buf
  line-fits h = omega (arith, v.size, length-append (line g) v.records)

  module _ (fits : m ≤ length buf) {empty : Output} (made : Holds empty buf 0) where
    pub line_room : Room (length (line g)) empty
    line_room = holds_room (length (line g)) made (line-fits fits)

    module _ {out : Output} (w : Puts empty (line g) out) where
      -- behind the first line the records are left to write
      left : Putting empty whole out (text_in (rest g))
      left = rw v.same (putting_next (putting_start empty whole (holds_room (length whole) made (omega (arith, v.size)))) v.records refl w)

      pub records_fit : RoomFor log head.size out
      records_fit = record {
        inside = (measure_requires g).0;
        whole = rw v.same refl;
        fits = putting_room left (text_in (rest g)) [] (sym (append-nil (text_in (rest g))));
      }

      pub print_done : {ended : Output} {last : List ℕ} → Puts out (text_in (rest g)) ended → last ≡ ended.buffer.now → outcome (Ok ended.end) last ≡ print_log log buf
      print_done {ended} {last} r e =
          let done = puts-whole (putting_end (putting_next left [] (sym (append-nil (text_in (rest g)))) r) refl) made e in
          rw all (fill_done Ok (Err NoRoom) whole buf (omega (arith, v.size)) done)
