-- The theorems of the text form: what is printed, what is read, and each from the other. Assumes nothing.
use Prim.Native.Nat.{ℕ, ◌+◌, ◌≤◌}
use mathlib.Core.Path.{◌≡◌, refl, sym, ap, ◌∙◌}
use mathlib.Core.List.{List, ◌++◌}
use mathlib.Core.Option.{some}
use native.Mathlib.Omega.{arith}
use lib.Dec.{leb}
use lib.ListN.{length}
use borrow.Author.Tests.{le-leb}
use Rattle.std.specs.Prelude.{Option, Some, None}
use Rattle.model.proofs.Tests.{by}
use Rattle.numbers.specs.Number.{Bytes}
use Rattle.call_log.specs.declared.Start.{Start}
use Rattle.call_log.specs.Log.{most_records, start_of, Log, bytes_of, read_log}
use Rattle.call_log.proofs.Logs.{whole}
use Rattle.call_log.proofs.LogTheorems.{log-length, log-most, read_log_lem, log_read, log_expressible}
use Rattle.log_text.specs.Reading.{Parsed·log, parse}
use Rattle.log_text.specs.Printing.{pool_parts, parts_text, Printable, text_of, longest_log, Printed·text, print_records, print_start, print}
use Rattle.log_text.specs.Canonical.{Canonical}
use Rattle.log_text.proofs.Lines as lines
use Rattle.log_text.proofs.Records.{print_skip, front_text, print_source, records-print}
use Rattle.log_text.proofs.Reading.{text_read}
use Rattle.log_text.proofs.Reprinting.{text-printed, text_is_canonical}

-- ---- what is printed

-- the log that a text is printed for
pub record Prints (log text : List ℕ) : Type 0 where
  pub source : Log
  pub read : read_log log ≡ some source
  pub whole : text ≡ text_of source
  pub fits : Printable source

module _ (log text : List ℕ) where
  from_start : (x : Option Start) → start_of log ≡ x → print_start x log ≡ Printed·text text → Prints log text
  unfolding read_log
  from_start None q e = cc
  from_start (Some x) q e =
      let f = front_text (parts_text (pool_parts x.length x.order)) (print_records x.size 0 0 log) e in
      let v = print_source x.size 0 0 log f.0 (omega arith) f.1 in
      let l : Log = record { long = x.length; order = x.order; records = v.records } in
      let same : read_log log ≡ some l = rw (q, read_log, v.same) in
      let in_log = log_expressible log l same in
      record {
        source = l;
        read = same;
        whole = sym f.2 ∙ ap (λ t. parts_text (pool_parts x.length x.order) ++ t) v.text;
        fits = record { small = in_log.0; known = in_log.1; all = in_log.2; few = omega (arith, v.few) };
      }

  -- a text is printed only for a log that is read whole, and is that of its length, order and records
  pub print_read : print log ≡ Printed·text text → Prints log text
  unfolding print
  print_read e =
      by (leb (length log) longest_log)
      (λ h. from_start (start_of log) refl (rw h at e))
      (λ h. let f = rw h at e in cc)

-- and is printed for each that is not too long and has not too many records
pub read_print : (log : List ℕ) (l : Log) → read_log log ≡ some l → length log ≤ longest_log → length l.records ≤ most_records → print log ≡ Printed·text (text_of l)
unfolding print
read_print log l e long few =
    let w = whole log l e in
    rw (le-leb (length log) longest_log long, w.first, print_skip w.place 0 0 log, records-print w.place log l.records w.rest (0 + w.place) 0 (omega arith))

-- it is canonical
pub text_canonical : (l : Log) → Canonical (text_of l)
text_canonical = text_is_canonical

-- ---- what is read

-- a log that a text gives can be written and printed
pub parse_printable : (text : List ℕ) (l : Log) → parse text ≡ Parsed·log l → Printable l
parse_printable = lines.parse-sound

-- in bytes it is a log that is read whole and can be printed
module _ (l : Log) (p : Printable l) where
  pub printable_read : read_log (bytes_of l) ≡ some l
  printable_read = read_log_lem l.long l.order l.records p.small p.known p.all

  pub printable_short : length (bytes_of l) ≤ longest_log
  printable_short = omega (arith, log-length l.long l.order l.records, log-most l.long l.order l.records p.small p.all, p.few)

  pub printable_print : print (bytes_of l) ≡ Printed·text (text_of l)
  printable_print = read_print (bytes_of l) l printable_read printable_short p.few

  -- the text of a log is read as that log
  pub parse-text : parse (text_of l) ≡ Parsed·log l
  parse-text = text_read l p

-- ---- each from the other

-- what was printed is read back: the same length, order and records, and in bytes the same log
module _ (log text : List ℕ) (e : print log ≡ Printed·text text) where
  pub parse-printed : (l : Log) × (read_log log ≡ some l) × (parse text ≡ Parsed·log l)
  parse-printed = let p = print_read log text e in (p.source, p.read, ap parse p.whole ∙ parse-text p.source p.fits)

  pub log_again : Bytes log → (l : Log) × (parse text ≡ Parsed·log l) × (bytes_of l ≡ log)
  log_again b = let p = print_read log text e in (p.source, ap parse p.whole ∙ parse-text p.source p.fits, log_read log p.source p.read b)

-- what was read from canonical text is printed as that text
module _ (text : List ℕ) (l : Log) (c : Canonical text) (e : parse text ≡ Parsed·log l) where
  pub text_again : text_of l ≡ text
  text_again = text-printed text l c e

  pub print-parsed : print (bytes_of l) ≡ Printed·text text
  print-parsed = printable_print l (parse_printable text l e) ∙ ap Printed·text text_again
