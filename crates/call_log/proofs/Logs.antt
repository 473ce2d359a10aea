-- Laws of whole logs: the bytes that they need, and records one after another, read and written. Assumes nothing.
use Prim.Native.Nat.{ℕ, zero, suc, ◌-◌, ◌*◌, ◌≤◌}
use mathlib.Core.Path.{◌≡◌, refl, sym, ap, ◌∙◌}
use mathlib.Core.List.{List, [], ◌∷◌, ◌++◌}
use mathlib.Core.Option.{Option, none, some}
use native.Mathlib.Omega.{arith}
use lib.ListN.{length, drop, length-append, take-append-drop}
use lib.Seq.{drop-nil, drop-append_seam}
use Rattle.numbers.specs.Number.{Bytes}
use Rattle.call_log.specs.declared.Record.{Record}
use Rattle.call_log.specs.declared.Start.{Start}
use Rattle.std.specs.Prelude as rust
use Rattle.std.specs.Prelude.{Some, None, Ok, Err}
use Rattle.call_log.specs.Record.{fields_of, Read, taken, record_of, encode_record}
use Rattle.call_log.specs.Log.{encode_records, records_length, AllExpressible, in_front, start, start_of, records_of, Log, with_start, read_log}
use Rattle.call_log.proofs.Fields.{length_fields, bytes_drop}
use Rattle.call_log.proofs.Theorems.{record-encode, encode-record, record_expressible, record-length, record_end, encode-record-length}

pub no_some : {A : Type 0} {X : Type 0} {x : X} → none ≡ some x → A
no_some e = let z : ◌≡◌ {A = ℕ} 0 1 = cc in absurd (omega arith)

-- ---- the bytes that records need

pub length-records : (rs : List Record) → length (encode_records rs) ≡ records_length rs
unfolding encode_records records_length
length-records [] = refl
length-records (r ∷ rs) = length-append (encode_record r) (encode_records rs) ∙ rw (length_fields (fields_of r), length-records rs)

pub records-most : (rs : List Record) → AllExpressible rs → records_length rs ≤ 21 * length rs
unfolding records_length AllExpressible
records-most [] h = omega arith
records-most (r ∷ rs) h = omega (arith, encode-record-length r h.0, length_fields (fields_of r), records-most rs h.1)

-- ---- a record in front of others

-- what both are
pub record Front (x : Option Record) (xs : Option (List Record)) (rs : List Record) : Type 0 where
  pub head : Record
  pub tail : List Record
  pub first : x ≡ some head
  pub rest : xs ≡ some tail
  pub whole : head ∷ tail ≡ rs

pub front : (x : Option Record) (xs : Option (List Record)) (rs : List Record) → in_front x xs ≡ some rs → Front x xs rs
front none xs rs e = no_some e
front (some r) none rs e = no_some e
front (some r) (some ts) rs e = record { head = r; tail = ts; first = refl; rest = refl; whole = cc }

-- ---- records one after another

-- passing over bytes is going on behind them
pub records_skip : (n : ℕ) (s : List ℕ) → records_of n s ≡ records_of 0 (drop n s)
unfolding records_of
records_skip zero s = refl
records_skip (suc n) [] = refl
records_skip (suc n) (b ∷ s) = records_skip n s

pub records_taken : (s : List ℕ) (r : Record) (n : ℕ) → record_of s ≡ taken r n → records_of 0 s ≡ in_front (some r) (records_of 0 (drop n s))
unfolding records_of
records_taken [] r n e = absurd (omega (arith, record-length [] r n e))
records_taken (b ∷ s) r zero e = absurd (omega (arith, record-length (b ∷ s) r 0 e))
records_taken (b ∷ s) r (suc n) e =
    let m : suc n - 1 ≡ n = omega arith in
    rw (e, records_of, m, records_skip n s)

-- induction over the records of a log that is read to its clean end
module _ (P : List ℕ → List Record → Type 0) (end : P [] [])
    (next : (s : List ℕ) (r : Record) (n : ℕ) (rs : List Record) → record_of s ≡ taken r n → P (drop n s) rs → P s (r ∷ rs)) where
  at_size : (b : ℕ) (s : List ℕ) (rs : List Record) → ((k : ℕ) (ts : List Record) → records_of k s ≡ some ts → P (drop k s) ts)
      → (r : Record) (n : ℕ) → record_of (b ∷ s) ≡ taken r n → records_of 0 (b ∷ s) ≡ some rs → P (b ∷ s) rs
  at_size b s rs ih r zero q e = absurd (omega (arith, record-length (b ∷ s) r 0 q))
  at_size b s rs ih r (suc n) q e =
      let f = front (some r) (records_of 0 (drop n s)) rs (sym (records_taken (b ∷ s) r (suc n) q) ∙ e) in
      let same : r ≡ f.head = cc f.first in
      rw (← f.whole, ← same) (next (b ∷ s) r (suc n) f.tail q (ih n f.tail (records_skip n s ∙ f.rest)))

  at-record : (b : ℕ) (s : List ℕ) (rs : List Record) → ((k : ℕ) (ts : List Record) → records_of k s ≡ some ts → P (drop k s) ts)
      → (x : Read) → record_of (b ∷ s) ≡ x → records_of 0 (b ∷ s) ≡ some rs → P (b ∷ s) rs
  unfolding records_of
  at-record b s rs ih (Err x) q e = no_some (rw (q, records_of) at e)
  at-record b s rs ih (Ok None) q e = absurd (omega (arith, ap length (record_end (b ∷ s) q)))
  at-record b s rs ih (Ok (Some t)) q e = at_size b s rs ih t.«record» t.size q e

  pub records_ind : (k : ℕ) (s : List ℕ) (rs : List Record) → records_of k s ≡ some rs → P (drop k s) rs
  unfolding records_of
  records_ind k [] rs e = let q : [] ≡ rs = cc in rw (drop-nil k, ← q) end
  records_ind (suc k) (b ∷ s) rs e = records_ind k s rs e
  records_ind zero (b ∷ s) rs e = at-record b s rs (λ k ts. records_ind k s ts) (record_of (b ∷ s)) refl e

-- what is written is read back
pub records-encode : (rs : List Record) → AllExpressible rs → records_of 0 (encode_records rs) ≡ some rs
unfolding records_of encode_records AllExpressible
records-encode [] h = refl
records-encode (r ∷ rs) h =
    rw (
      records_taken (encode_record r ++ encode_records rs) r (length (encode_record r)) (record-encode r (encode_records rs) h.0),
      drop-append_seam (encode_record r) (encode_records rs),
      records-encode rs h.1,
    )

-- what is read is what would be written
pub encode-records : (k : ℕ) (s : List ℕ) (rs : List Record) → records_of k s ≡ some rs → Bytes (drop k s) → drop k s ≡ encode_records rs
unfolding encode_records
encode-records =
    records_ind (λ s rs. Bytes s → s ≡ encode_records rs)
    (λ bs. refl)
    (λ s r n rs e ih bs. sym (take-append-drop n s) ∙ rw (encode-record s r n e bs, ih (bytes_drop n s bs)))

-- and can be written
pub records_expressible : (k : ℕ) (s : List ℕ) (rs : List Record) → records_of k s ≡ some rs → AllExpressible rs
unfolding AllExpressible
records_expressible = records_ind (λ s rs. AllExpressible rs) tt (λ s r n rs e ih. (record_expressible s r n e, ih))

-- ---- what a log that is read whole comes from: its length and order, in the first bytes, and the records behind them

pub record Whole (s : List ℕ) (l : Log) : Type 0 where
  pub place : ℕ
  pub first : start_of s ≡ start l.long l.order place
  pub rest : records_of place s ≡ some l.records

module _ (s : List ℕ) (l : Log) where
  whole-records : (n order place : ℕ) (x : Option (List Record)) → start_of s ≡ start n order place → records_of place s ≡ x → with_start n order x ≡ some l → Whole s l
  whole-records n order place none q p e = no_some e
  whole-records n order place (some rs) q p e =
      let same : record { long = n; order = order; records = rs } ≡ l = cc in
      record { place = place; first = q ∙ rw (← same); rest = p ∙ rw (← same) }

  whole_start : (x : rust.Option Start) → start_of s ≡ x → read_log s ≡ some l → Whole s l
  unfolding read_log
  whole_start None q e = no_some (rw (q, read_log) at e)
  whole_start (Some x) q e = whole-records x.length x.order x.size (records_of x.size s) q refl (rw (q, read_log) at e)

  pub whole : read_log s ≡ some l → Whole s l
  whole = whole_start (start_of s) refl
