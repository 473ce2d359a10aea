-- The loop that writes the records: the text that is left to write. Assumes nothing.
use Prim.Native.Nat.{ℕ, ◌+◌, ◌≤◌}
use mathlib.Core.Path.{◌≡◌, refl, ◌∙◌}
use mathlib.Core.Bool.{true, false}
use mathlib.Core.List.{List, ◌++◌}
use native.Mathlib.Omega.{arith}
use native.Mathlib.Nat.{zero-add}
use lib.Dec.{ltb}
use lib.ListN.{length, drop, length-drop}
use lib.Seq.{drop-drop}
use Rattle.model.proofs.Tests.{by, clash}
use Rattle.std.specs.Prelude.{Ok, Err, IsOk}
use Rattle.output.specs.declared.Output.{Output}
use Rattle.output.specs.Puts.{Room, Puts}
use Rattle.output.proofs.Puts as puts
use Rattle.call_log.specs.declared.Record.{Record}
use Rattle.call_log.specs.Record.{Read, record_of, taken, end}
use Rattle.call_log.specs.Log.{most_records}
use Rattle.call_log.proofs.Theorems.{record-length}
use Rattle.log_text.specs.Printing.{parts_of, parts_text, print_records}
use Rattle.log_printer.specs.Steps.{is_text, text_in, RoomFor}
use Rattle.log_text.proofs.Records.{print_skip, print_end, print_bad, print_taken}
use Rattle.log_printer.proofs.Records.{text_front}

-- at a turn: the text of the records from the place `next` of the log on is left to write
pub record Putting (log : List ℕ) (place : ℕ) (start out : Output) (next : ℕ) : Type 0 where
  pub count : ℕ
  pub whole : is_text (print_records 0 next count (drop next log)) ≡ true
  pub inside : next ≤ length log
  pub putting : puts.Putting start (text_in (print_records place 0 0 log)) out (text_in (print_records 0 next count (drop next log)))

pub putting_start : {log : List ℕ} {place : ℕ} {out : Output} → RoomFor log place out → Putting log place out out place
putting_start {log} {place} {out} g =
    let e : print_records place 0 0 log ≡ print_records 0 place 0 (drop place log) = print_skip place 0 0 log ∙ rw (zero-add place) in
    record {
      count = 0;
      whole = rw e at g.whole;
      inside = g.inside;
      putting = rw (← e) (puts.putting_start out (text_in (print_records place 0 0 log)) g.fits);
    }

module _ {log : List ℕ} {place : ℕ} {start out : Output} {next : ℕ} (g : Putting log place start out next) where
  -- a text has no bad record
  readable : (x : Read) → record_of (drop next log) ≡ x → IsOk x
  readable (Ok x) e = refl
  readable (Err x) e = clash false (rw (print_bad next g.count (drop next log) e) at g.whole) refl

  pub putting_ok : IsOk (record_of (drop next log))
  putting_ok = readable (record_of (drop next log)) refl

  pub putting_end : record_of (drop next log) ≡ end → Puts start (text_in (print_records place 0 0 log)) out
  putting_end e = puts.putting_end g.putting (rw (print_end next g.count (drop next log) e))

  module _ (r : Record) (n : ℕ) (e : record_of (drop next log) ≡ taken r n) where
    -- a text has no more records than can be printed
    record Front : Type 0 where
      whole : is_text (print_records 0 (next + n) (g.count + 1) (drop (next + n) log)) ≡ true
      text : text_in (print_records 0 next g.count (drop next log)) ≡ parts_text (parts_of r) ++ text_in (print_records 0 (next + n) (g.count + 1) (drop (next + n) log))

    front : Front
    front =
        let q = print_taken next g.count (drop next log) r n e in
        by (ltb g.count most_records)
        (λ p.
        let f = text_front (parts_text (parts_of r)) (print_records 0 (next + n) (g.count + 1) (drop n (drop next log))) (rw (q, p) at g.whole) in
        record { whole = rw (drop-drop n next log) at f.0; text = rw (q, p, ← drop-drop n next log) f.1 })
        (λ p. clash false (rw (q, p) at g.whole) refl)

    pub putting_fits : Room (length (parts_text (parts_of r))) out
    putting_fits = puts.putting_room g.putting (parts_text (parts_of r)) _ front.text

    pub putting_next : {after : Output} → Puts out (parts_text (parts_of r)) after → Putting log place start after (next + n)
    putting_next w = record {
      count = g.count + 1;
      whole = front.whole;
      inside = omega (arith, (record-length (drop next log) r n e).2, length-drop next log, g.inside);
      putting = puts.putting_next g.putting _ front.text w;
    }
