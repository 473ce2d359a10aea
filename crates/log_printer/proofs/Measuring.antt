-- The loop that measures the text: its length up to a record. Assumes nothing.
use Prim.Native.Nat.{ℕ, ◌+◌, ◌*◌, ◌<◌, ◌≤◌}
use mathlib.Core.Path.{◌≡◌, sym, ◌∙◌}
use mathlib.Core.List.{List}
use native.Mathlib.Omega.{arith}
use native.Mathlib.Nat.{add-zero, zero-add}
use lib.ListN.{length, drop, length-drop}
use lib.Seq.{drop-drop}
use borrow.Author.Tests.{lt-ltb, le-ltb}
use Rattle.std.specs.Prelude.{Ok, Err}
use Rattle.call_log.specs.declared.Record.{Record}
use Rattle.call_log.specs.Record.{record_of, taken, end, bad}
use Rattle.call_log.specs.Log.{most_records}
use Rattle.call_log.proofs.Theorems.{record-length, record_expressible}
use Rattle.log_text.specs.Printing.{parts_of, parts_text, longest_line, print_records}
use Rattle.log_printer.specs.declared.PrintError.TheVariants.{Bad, TooMany}
use Rattle.log_printer.specs.Steps.{measured}
use Rattle.log_text.proofs.Widths.{record-short}
use Rattle.log_text.proofs.Records.{print_skip, print_end, print_bad, print_taken}
use Rattle.log_printer.proofs.Records.{measured_front}

-- at a turn: `count` records up to the place `at` of the log have m bytes of text, with the first line
pub record Measuring (log : List ℕ) (place first at count m : ℕ) : Type 0 where
  pub same : measured first (print_records place 0 0 log) ≡ measured m (print_records 0 at count (drop at log))
  pub inside : at ≤ length log
  pub few : count ≤ most_records
  pub short : m ≤ longest_line + longest_line * count

pub measuring_start : (log : List ℕ) (place first : ℕ) → place ≤ length log → first ≤ longest_line → Measuring log place first place 0 first
measuring_start log place first h l = record {
  same = rw (print_skip place 0 0 log, zero-add place);
  inside = h;
  few = omega arith;
  short = omega arith;
}

module _ {log : List ℕ} {place first at count m : ℕ} (g : Measuring log place first at count m) where
  pub measuring_end : record_of (drop at log) ≡ end → Ok m ≡ measured first (print_records place 0 0 log)
  measuring_end e = sym (g.same ∙ rw (print_end at count (drop at log) e, add-zero m))

  pub measuring_bad : record_of (drop at log) ≡ bad → Err (Bad at) ≡ measured first (print_records place 0 0 log)
  measuring_bad e = sym (g.same ∙ rw (print_bad at count (drop at log) e))

  module _ (r : Record) (n : ℕ) (e : record_of (drop at log) ≡ taken r n) where
    pub measuring_many : most_records ≤ count → Err TooMany ≡ measured first (print_records place 0 0 log)
    measuring_many h = sym (g.same ∙ rw (print_taken at count (drop at log) r n e, le-ltb count most_records h))

    pub measuring_next : count < most_records → (b : ℕ) → b ≡ length (parts_text (parts_of r)) → Measuring log place first (at + n) (count + 1) (m + b)
    measuring_next h b q =
        let most = record-short r (record_expressible (drop at log) r n e) in
        record {
          same = g.same ∙ rw (
            print_taken at count (drop at log) r n e,
            lt-ltb count most_records h,
            measured_front (parts_text (parts_of r)) m _,
            drop-drop n at log,
            ← q,
          );
          inside = omega (arith, (record-length (drop at log) r n e).2, length-drop at log, g.inside);
          few = omega arith;
          short = omega (arith, g.short, most);
        }
