-- Laws of the rows that a writer is given, and of the columns that hold them. Assumes nothing.
use Prim.Native.Nat.{ℕ, zero, suc, ◌+◌, ◌-◌, ◌≤◌, ◌<◌}
use mathlib.Core.Path.{◌≡◌, refl, sym, ap, ◌∙◌}
use mathlib.Core.Bool.{true, cond}
use mathlib.Core.List.{List, [], ◌∷◌}
use mathlib.Core.Option.{none, some}
use native.Mathlib.Omega.{arith}
use native.Mathlib.Nat.{sub-zero}
use native.Mathlib.Numerals.{add-one}
use lib.IntN.{ℤ}
use lib.ListN.{length, take, length-take}
use Rattle.std.specs.Prelude.{Some}
use Rattle.model.proofs.Tests.{by}
use Rattle.numbers.specs.Number.{number_bound}
use Rattle.call_log.specs.declared.Record.{Record}
use Rattle.call_log.specs.declared.Record.TheVariants.{Get, Poll, Release, Cancel, Tick, PriorityGet, PriorityPoll}
use Rattle.call_log.specs.declared.Kind.{Kind}
use Rattle.call_log.specs.declared.Kind.TheVariants as kind
use Rattle.log_writer.specs.declared.Row.{Row}
use Rattle.call_log.specs.Fields.{Small}
use Rattle.call_log.specs.Record.{limit_bound, limit_of, limit_field, is_limit, fields_of, kind_of, field_count, limited_by, record_from, read_as, Limited, Expressible}
use Rattle.call_log.specs.Log.{encode_records, AllExpressible}
use Rattle.log_writer.specs.Writer.{given_as, given, Columns, row_at, given_from, row_of, columns_of, Typed}
use Rattle.log_writer.specs.Steps.{is_some, third_of, row_fields, numbers_of, Holds, rows_bytes}
use Rattle.call_log.proofs.Fields.{small-take}
use Rattle.call_log.proofs.Forms.{Made, made_inv, count-few, limit_field_lem, limit-within}
use Rattle.call_log.proofs.Logs.{no_some, front}

-- a get is a record exactly if its limit is one
pub limit-given : (w : Row) (r : Record) → is_limit w.limit ≡ is_some (cond (is_limit w.limit) (some r) none)
limit-given w r = by (is_limit w.limit) (λ h. rw h) (λ h. rw h)

-- a row's record is the one that the reader makes of the row's numbers
same-limited : (w : Row) (made : ℤ → Record) (r : Record) → cond (is_limit w.limit) (some (made w.limit)) none ≡ some r
    → limited_by (limit_field w.limit) (made (limit_of (limit_field w.limit))) ≡ Some r
same-limited w made r e = by (is_limit w.limit) limited (λ h. no_some (rw h at e))
  where
    limited : is_limit w.limit ≡ true → limited_by (limit_field w.limit) (made (limit_of (limit_field w.limit))) ≡ Some r
    limited h =
        let l = limit_field_lem w.limit h in
        let f = rw h at e in
        sym (limit-within (limit_field w.limit) _ l.1) ∙ rw l.0 (cc)

same-record : (k : Kind) (w : Row) (r : Record) → given_as k w ≡ some r → record_from k w.first w.second (third_of k w) w.priority ≡ Some r
same-record kind.Get w r e = same-limited w (λ l. Get w.first w.second l) r e
same-record kind.Poll w r e = cc
same-record kind.Release w r e = cc
same-record kind.Cancel w r e = cc
same-record kind.Tick w r e = cc
same-record kind.PriorityGet w r e = same-limited w (λ l. PriorityGet w.first w.second l w.priority) r e
same-record kind.PriorityPoll w r e = cc
same-record kind.Unknown w r e = no_some e

-- so it has the row's numbers
abbrev third : Row → ℕ
third w = third_of (kind_of w.kind) w

given_made : (w : Row) (r : Record) → given w ≡ some r → Made w.kind w.first w.second (third w) w.priority 0 r 0
given_made w r e = made_inv w.first w.second (third w) w.priority 0 r 0 w.kind (ap (read_as 0) (same-record (kind_of w.kind) w r e))

pub given_numbers : (w : Row) (r : Record) → given w ≡ some r → fields_of r ≡ numbers_of w
given_numbers w r e = (given_made w r e).numbers

-- and the log can express it
given_expressible : (w : Row) (r : Record) → given w ≡ some r → Small (row_fields w) → Expressible r
given_expressible w r e h =
    let m = given_made w r e in
    let number : w.kind < number_bound = omega (arith, m.known) in
    record { small = rw m.numbers (number, small-take (field_count (kind_of w.kind)) _ h); limited = m.limited }

third_small : (k : Kind) (w : Row) → limit_field w.limit ≤ limit_bound → w.priority < number_bound → third_of k w < number_bound
third_small kind.Get w l p = omega (arith, l)
third_small kind.Poll w l p = omega arith
third_small kind.Release w l p = omega arith
third_small kind.Cancel w l p = omega arith
third_small kind.Tick w l p = omega arith
third_small kind.PriorityGet w l p = omega (arith, l)
third_small kind.PriorityPoll w l p = p
third_small kind.Unknown w l p = omega arith

-- the numbers of a row, in an array
pub row_numbers : (w : Row) (k : Kind) (count field : ℕ) → k ≡ kind_of w.kind → count ≡ field_count k → field ≡ third_of k w
    → Holds (w.kind ∷ w.first ∷ w.second ∷ field ∷ w.priority ∷ []) (count + 1) (numbers_of w)
row_numbers w k count field p q r = record { within = omega (arith, q, count-few k); same = rw (q, r, p, add-one) }

-- at most five
pub numbers_few : (w : Row) → length (numbers_of w) ≤ 5
numbers_few w = omega (arith, length-take (field_count (kind_of w.kind)) (row_fields w), count-few (kind_of w.kind))

pub holds_part : {values : List ℕ} {count : ℕ} {vs : List ℕ} → Holds values count vs → take (count - 0) values ≡ vs
holds_part {values} {count} h = rw (sub-zero count) h.same

-- ---- rows one after another

module _ (c : Columns) where
  -- rows have the bytes of their records
  pub given-bytes : (i k : ℕ) (rs : List Record) → given_from c i k ≡ some rs → rows_bytes c i k ≡ encode_records rs
  unfolding given_from rows_bytes encode_records
  given-bytes i zero rs e = let q : [] ≡ rs = cc in rw (← q)
  given-bytes i (suc k) rs e =
      let f = front (given (row_at c i)) (given_from c (suc i) k) rs e in
      rw (← f.whole, given_numbers (row_at c i) f.head f.first, given-bytes (suc i) k f.tail f.rest)

  -- which the log can express
  pub given-all : Typed c → (i k : ℕ) (rs : List Record) → given_from c i k ≡ some rs → AllExpressible rs
  unfolding given_from AllExpressible
  given-all t i zero rs e = let q : [] ≡ rs = cc in rw (← q) tt
  given-all t i (suc k) rs e =
      let f = front (given (row_at c i)) (given_from c (suc i) k) rs e in
      rw (← f.whole) (
        given_expressible (row_at c i) f.head f.first (t.first i, (t.second i, (third_small (kind_of (row_at c i).kind) (row_at c i) (t.limit i) (t.priority i), (t.priority i, tt)))),
        given-all t (suc i) k f.tail f.rest,
      )

-- ---- the columns of records

-- the row of a record has the record's numbers
numbers_row : (r : Record) → numbers_of (row_of r) ≡ fields_of r
unfolding fields_of
numbers_row (Get task size limit) = refl
numbers_row (Poll task size) = refl
numbers_row (Release offset) = refl
numbers_row (Cancel task) = refl
numbers_row Tick = refl
numbers_row (PriorityGet task size limit priority) = refl
numbers_row (PriorityPoll task size priority) = refl

pub row-record : (w : Row) (r : Record) → w ≡ row_of r → numbers_of w ≡ fields_of r
row-record w r e = rw e (numbers_row r)

given-row : (r : Record) → Limited r → given (row_of r) ≡ some r
given-row (Get task size limit) h = rw h
given-row (Poll task size) h = refl
given-row (Release offset) h = refl
given-row (Cancel task) h = refl
given-row Tick h = refl
given-row (PriorityGet task size limit priority) h = rw h
given-row (PriorityPoll task size priority) h = refl

given_shift : (r : Record) (rs : List Record) (i k : ℕ) → given_from (columns_of (r ∷ rs)) (suc i) k ≡ given_from (columns_of rs) i k
unfolding given_from
given_shift r rs i zero = refl
given_shift r rs i (suc k) = rw (given_shift r rs (suc i) k)

pub given-columns : (rs : List Record) → AllExpressible rs → given_from (columns_of rs) 0 (length rs) ≡ some rs
unfolding given_from AllExpressible
given-columns [] h = refl
given-columns (r ∷ rs) h = rw (given-row r h.0.limited, given_shift r rs 0 (length rs), given-columns rs h.1)
