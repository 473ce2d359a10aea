-- The place of a bad record is the one that a replay of the log tells. Assumes nothing.
use Prim.Native.Nat.{ℕ, zero, suc, ◌+◌, ◌-◌, ◌≤◌}
use mathlib.Core.Path.{◌≡◌, refl, sym, ◌∙◌}
use mathlib.Core.Bool.{true}
use mathlib.Core.List.{List, [], ◌∷◌, ◌++◌, append_assoc}
use native.Mathlib.Omega.{arith}
use native.Mathlib.Nat.{zero-add}
use lib.Dec.{leb, ltb}
use lib.ListN.{length, drop}
use Rattle.std.specs.Prelude.{Option, Some, None, Ok, Err}
use Rattle.model.specs.declared.Attributes.{Attributes}
use Rattle.model.specs.Rules.{rules}
use Rattle.model.specs.Pool.{Stored, perform}
use Rattle.model.proofs.Tests.{by}
use Rattle.call_log.specs.declared.Start.{Start}
use Rattle.call_log.specs.Record.{Read, record_of}
use Rattle.call_log.specs.Log.{most_records, start, start_of}
use Rattle.transcript.specs.Lines.{pool_line, bad_line}
use Rattle.transcript.specs.Transcript as replayed
use Rattle.transcript.specs.Transcript.{call_of, answer_text, records_text, fresh_pool, with_order, transcript_of}
use Rattle.transcript.proofs.Theorems.{transcript_bad, transcript_pool}
use Rattle.log_text.specs.Printing.{pool_parts, parts_of, parts_text, longest_log, Printed, Printed·text, Printed·bad, Printed·tooMany, Printed·tooLong, in_front, print_records, print_start, print}
use Rattle.log_text.proofs.Records.{print_skip}

-- a text whose last line tells the place p
pub record EndsBad (text : List ℕ) (p : ℕ) : Type 0 where
  pub before : List ℕ
  pub whole : text ≡ before ++ bad_line p

front_bad : (s : List ℕ) (x : Printed) {p : ℕ} → in_front s x ≡ Printed·bad p → x ≡ Printed·bad p
front_bad s (Printed·text t) e = let z : ◌≡◌ {A = ℕ} 0 1 = cc in absurd (omega arith)
front_bad s (Printed·bad at) e = e
front_bad s Printed·tooMany e = let z : ◌≡◌ {A = ℕ} 0 1 = cc in absurd (omega arith)
front_bad s Printed·tooLong e = let z : ◌≡◌ {A = ℕ} 0 1 = cc in absurd (omega arith)

-- ---- record by record, whatever the pool

module _ (b : ℕ) (s : List ℕ) (at count k : ℕ) (st : Stored) (p : ℕ)
    (ih : (n c j : ℕ) (t : Stored) → print_records n (at + 1) c s ≡ Printed·bad p → EndsBad (records_text n (at + 1) j t s) p) where
  at-record : (x : Read) → record_of (b ∷ s) ≡ x → print_records 0 at count (b ∷ s) ≡ Printed·bad p → EndsBad (records_text 0 at k st (b ∷ s)) p
  unfolding print_records records_text
  at-record (Ok None) q e = let f = rw (q, print_records) at e in let z : ◌≡◌ {A = ℕ} 0 1 = cc in absurd (omega arith)
  at-record (Err x) q e = let f = rw (q, print_records) at e in let same : at ≡ p = cc in record { before = []; whole = rw (q, records_text, same) }
  at-record (Ok (Some taken)) q e =
      let r = taken.record in
      let n = taken.size in
      by (ltb count most_records)
      (λ h.
      let f : in_front (parts_text (parts_of r)) (print_records (n - 1) (at + 1) (count + 1) s) ≡ Printed·bad p = rw (q, print_records, h) at e in
      let reply = perform rules (call_of r) st in
      let rest = ih (n - 1) (count + 1) (k + 1) reply.state (front_bad (parts_text (parts_of r)) (print_records (n - 1) (at + 1) (count + 1) s) f) in
      record {
        before = answer_text reply.said ++ rest.before;
        whole = rw (q, records_text, rest.whole) (sym (append_assoc (answer_text reply.said) rest.before (bad_line p)));
      })
      (λ h. let f = rw (q, print_records, h) at e in let z : ◌≡◌ {A = ℕ} 0 1 = cc in absurd (omega arith))

records-place : (s : List ℕ) (skip at count k : ℕ) (st : Stored) (p : ℕ) → print_records skip at count s ≡ Printed·bad p → EndsBad (records_text skip at k st s) p
unfolding print_records records_text
records-place [] skip at count k st p e = let z : ◌≡◌ {A = ℕ} 0 1 = cc in absurd (omega arith)
records-place (b ∷ s) (suc n) at count k st p e = records-place s n (at + 1) count k st p e
records-place (b ∷ s) zero at count k st p e = at-record b s at count k st p (λ n c j t. records-place s n (at + 1) c j t p) (record_of (b ∷ s)) refl e

-- ---- a whole log

-- a log that is not too long to be replayed, and whose pool, if it says one, create takes with the attributes
module _ (a : Attributes) (log : List ℕ) (fits : length log ≤ replayed.longest_log)
    (taken : (n order place : ℕ) → start_of log ≡ start n order place → (rules (with_order order a) n).valid ≡ true) (p : ℕ) where
  by_start : (x : Option Start) → start_of log ≡ x → print_start x log ≡ Printed·bad p → EndsBad (transcript_of a log) p
  by_start None q e = let same : 0 ≡ p = cc in record { before = []; whole = rw (← same) (transcript_bad a log fits q) }
  by_start (Some head) q e =
      let n = head.length in
      let order = head.order in
      let place = head.size in
      let f = front_bad (parts_text (pool_parts n order)) (print_records place 0 0 log) e in
      let g : print_records 0 place 0 (drop place log) ≡ Printed·bad p = sym (print_skip place 0 0 log ∙ rw (zero-add place)) ∙ f in
      let pool = (fresh_pool (with_order order a) n).state in
      let rest = records-place (drop place log) 0 place 0 0 pool p g in
      record {
        before = pool_line n ++ rest.before;
        whole = transcript_pool a log fits n order place q (taken n order place q) ∙ rw rest.whole (sym (append_assoc (pool_line n) rest.before (bad_line p)));
      }

  -- the printer and the replay tell the same place
  pub bad_place : print log ≡ Printed·bad p → EndsBad (transcript_of a log) p
  unfolding print
  bad_place e =
      by (leb (length log) longest_log)
      (λ h. by_start (start_of log) refl (rw h at e))
      (λ h. let f = rw h at e in let z : ◌≡◌ {A = ℕ} 0 1 = cc in absurd (omega arith))
