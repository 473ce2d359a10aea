-- Laws of the text of the records of a log, one record after another. Assumes nothing.
use Prim.Native.Nat.{ℕ, zero, suc, ◌+◌, ◌-◌, ◌<◌, ◌≤◌}
use mathlib.Core.Path.{◌≡◌, refl, sym, ap, ◌∙◌}
use mathlib.Core.Bool.{cond}
use mathlib.Core.List.{List, [], ◌∷◌, ◌++◌}
use mathlib.Core.Option.{some}
use native.Mathlib.Omega.{arith}
use native.Mathlib.Nat.{add-zero}
use lib.Dec.{ltb}
use lib.ListN.{length, drop}
use borrow.Author.Tests.{ltb-true, lt-ltb}
use Rattle.std.specs.Prelude.{Option, Some, None, Result, Ok, Err}
use Rattle.model.proofs.Tests.{by}
use Rattle.call_log.specs.declared.Record.{Record}
use Rattle.call_log.specs.declared.Taken.{Taken}
use Rattle.call_log.specs.declared.BadRecord.{BadRecord}
use Rattle.call_log.specs.Record.{record_of}
use Rattle.call_log.specs.Log.{most_records, records_of}
use Rattle.call_log.proofs.Theorems.{record-length}
use Rattle.call_log.proofs.Logs.{records_ind}
use Rattle.log_text.specs.Printing.{parts_of, parts_text, records_text, Printed, Printed·text, Printed·bad, Printed·tooMany, Printed·tooLong, in_front, print_records}

-- passing over bytes is going on behind them
pub print_skip : (n at count : ℕ) (s : List ℕ) → print_records n at count s ≡ print_records 0 (at + n) count (drop n s)
unfolding print_records
print_skip zero at count s = rw (add-zero at)
print_skip (suc n) at count [] = refl
print_skip (suc n) at count (b ∷ s) = let e : at + 1 + n ≡ at + suc n = omega arith in print_skip n (at + 1) count s ∙ rw e

module _ (at count : ℕ) where
  pub print_end : (s : List ℕ) → record_of s ≡ Ok None → print_records 0 at count s ≡ Printed·text []
  unfolding print_records
  print_end [] e = refl
  print_end (b ∷ s) e = rw (e, print_records)

  pub print_bad : (s : List ℕ) {e : BadRecord} → record_of s ≡ Err e → print_records 0 at count s ≡ Printed·bad at
  unfolding print_records record_of
  print_bad [] e = cc
  print_bad (b ∷ s) e = rw (e, print_records)

  pub print_taken : (s : List ℕ) (r : Record) (n : ℕ) → record_of s ≡ Ok (Some (record { «record» = r; size = n }))
      → print_records 0 at count s ≡ cond (ltb count most_records) (in_front (parts_text (parts_of r)) (print_records 0 (at + n) (count + 1) (drop n s))) Printed·tooMany
  unfolding print_records
  print_taken [] r n e = absurd (omega (arith, record-length [] r n e))
  print_taken (b ∷ s) r zero e = absurd (omega (arith, record-length (b ∷ s) r 0 e))
  print_taken (b ∷ s) r (suc n) e =
      let m : suc n - 1 ≡ n = omega arith in
      let q : at + 1 + (suc n - 1) ≡ at + suc n = omega arith in
      rw (e, print_records, print_skip (suc n - 1) (at + 1) (count + 1) s, q, m)

nothing : record_of [] ≡ Ok None
unfolding record_of
nothing = refl

-- ---- a log that is read whole, and its text

-- the records that a text comes from
pub record Source (skip count : ℕ) (s t : List ℕ) : Type 0 where
  pub records : List Record
  pub same : records_of skip s ≡ some records
  pub text : t ≡ records_text records
  pub few : count + length records ≤ most_records

pub front_text : (s : List ℕ) (x : Printed) {t : List ℕ} → in_front s x ≡ Printed·text t → (u : List ℕ) × (x ≡ Printed·text u) × (s ++ u ≡ t)
front_text s (Printed·text u) e = (u, refl, cc)
front_text s (Printed·bad at) e = cc
front_text s Printed·tooMany e = cc
front_text s Printed·tooLong e = cc

-- no record, and nothing is printed
source_none : (count : ℕ) (s t : List ℕ) → records_of 0 s ≡ some [] → Printed·text [] ≡ Printed·text t → count ≤ most_records → Source 0 count s t
unfolding records_text
source_none count s t e q h = record { records = []; same = e; text = cc; few = omega arith }

module _ (b : ℕ) (s : List ℕ) (at count : ℕ) (t : List ℕ) (h : count ≤ most_records) (ih : (n : ℕ) (u : List ℕ) → print_records n (at + 1) (count + 1) s ≡ Printed·text u → count < most_records → Source n (count + 1) s u) where
  source_taken : (r : Record) (n : ℕ) → record_of (b ∷ s) ≡ Ok (Some (record { «record» = r; size = n })) → print_records 0 at count (b ∷ s) ≡ Printed·text t → Source 0 count (b ∷ s) t
  unfolding print_records records_of records_text
  source_taken r n q e =
      by (ltb count most_records)
      (λ k.
      let f = front_text (parts_text (parts_of r)) (print_records (n - 1) (at + 1) (count + 1) s) (rw (q, print_records, k) at e) in
      let v = ih (n - 1) f.0 f.1 (ltb-true count most_records k) in
      record { records = r ∷ v.records; same = rw (q, records_of, v.same); text = sym f.2 ∙ ap (λ u. parts_text (parts_of r) ++ u) v.text; few = omega (arith, v.few) })
      (λ k. let f = rw (q, print_records, k) at e in cc)

  source_read : (x : Result (Option Taken) BadRecord) → record_of (b ∷ s) ≡ x → print_records 0 at count (b ∷ s) ≡ Printed·text t → Source 0 count (b ∷ s) t
  unfolding print_records records_of
  source_read (Ok (Some x)) q e = source_taken x.«record» x.size q e
  source_read (Ok None) q e = source_none count (b ∷ s) t (rw (q, records_of)) (rw (q, print_records) at e) h
  source_read (Err w) q e = let f = rw (q, print_records) at e in cc

pub print_source : (skip at count : ℕ) (s t : List ℕ) → count ≤ most_records → print_records skip at count s ≡ Printed·text t → Source skip count s t
unfolding print_records records_of records_text
print_source skip at count [] t h e = record { records = []; same = refl; text = cc; few = omega arith }
print_source (suc n) at count (b ∷ s) t h e =
    let v = print_source n (at + 1) count s t h e in record { records = v.records; same = v.same; text = v.text; few = v.few }
print_source zero at count (b ∷ s) t h e =
    source_read b s at count t h (λ n u q k. print_source n (at + 1) (count + 1) s u (omega arith) q) (record_of (b ∷ s)) refl e

-- and the other way
pub records-print : (k : ℕ) (s : List ℕ) (rs : List Record) → records_of k s ≡ some rs → (at count : ℕ) → count + length rs ≤ most_records → print_records 0 at count (drop k s) ≡ Printed·text (records_text rs)
unfolding records_text
records-print = records_ind (λ s rs. (at count : ℕ) → count + length rs ≤ most_records → print_records 0 at count s ≡ Printed·text (records_text rs)) none next
  where
    none : (at count : ℕ) → count + 0 ≤ most_records → print_records 0 at count [] ≡ Printed·text (records_text [])
    none at count h = print_end at count [] nothing

    next : (s : List ℕ) (r : Record) (n : ℕ) (rs : List Record) → record_of s ≡ Ok (Some (record { «record» = r; size = n }))
        → ((at count : ℕ) → count + length rs ≤ most_records → print_records 0 at count (drop n s) ≡ Printed·text (records_text rs))
        → (at count : ℕ) → count + suc (length rs) ≤ most_records → print_records 0 at count s ≡ Printed·text (records_text (r ∷ rs))
    next s r n rs e ih at count h = print_taken at count s r n e ∙ rw (lt-ltb count most_records (omega arith), ih (at + n) (count + 1) (omega arith))
