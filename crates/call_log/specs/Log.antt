-- A whole log: the pool's length and order and the records, in bytes, and how they are read from it.
use Rattle.std.specs.Prelude.{ℕ, zero, suc, ◌+◌, ◌-◌, List, [], ◌∷◌, ◌++◌, cond, eqb, length, drop, Option, Some, None, Ok, Err}
use Rattle.std.proofs.Math.Option as maybe
use Rattle.std.proofs.Math.Option.{none, some}
use Rattle.model.specs.Limits.{fifo_order, priority_order}
use Rattle.numbers.specs.declared.Number.{Number}
use Rattle.numbers.specs.Number.{number_of, encode}
use Rattle.call_log.specs.declared.Record.{Record}
use Rattle.call_log.specs.declared.Start.{Start}
use Rattle.call_log.specs.Fields.{fields_length}
use Rattle.call_log.specs.Record.{fields_of, record_of, encode_record, Expressible}

-- the most records that are written
abbrev pub most_records : ℕ
most_records = 4096

-- ---- a log in bytes

-- records in bytes
unfoldable pub encode_records : List Record → List ℕ
encode_records [] = []
encode_records (r ∷ rs) = encode_record r ++ encode_records rs

-- *Record 8*, without fields, directly behind the pool's length: the pool's order is by priority
abbrev pub order_mark : ℕ
order_mark = 8

abbrev pub mark_of : ℕ → List ℕ
mark_of order = cond (eqb order priority_order) (encode order_mark) []

-- the start of a log: the pool's length and order
abbrev pub start_bytes : ℕ → ℕ → List ℕ
start_bytes n order = encode n ++ mark_of order

-- the log of a pool's length and order, and of records
abbrev pub log_of : ℕ → ℕ → List Record → List ℕ
log_of n order rs = start_bytes n order ++ encode_records rs

-- how many bytes they need
unfoldable pub records_length : List Record → ℕ
records_length [] = 0
records_length (r ∷ rs) = fields_length (fields_of r) + records_length rs

abbrev pub log_length : ℕ → ℕ → List Record → ℕ
log_length n order rs = length (start_bytes n order) + records_length rs

-- what the log can express
unfoldable pub AllExpressible : List Record → Type 0
AllExpressible [] = Unit {0}
AllExpressible (r ∷ rs) = Expressible r × AllExpressible rs

-- ---- the start of a log that is read

-- the pool's length n and order, and the place behind both
abbrev pub start : ℕ → ℕ → ℕ → Option Start
start n order size = Some (record { length = n; order = order; size = size })

-- the same by the number that follows the pool's length
abbrev pub order_after : ℕ → ℕ → Option Number → Option Start
order_after n size (Some mark) = cond (eqb mark.value order_mark) (start n priority_order (size + mark.size)) (start n fifo_order size)
order_after n size None = start n fifo_order size

abbrev pub after_length : Option Number → List ℕ → Option Start
after_length (Some x) s = order_after x.value x.size (number_of (drop x.size s))
after_length None s = None

unfoldable pub start_of : List ℕ → Option Start
start_of s = after_length (number_of s) s

-- ---- a log that is read whole

-- a record in front of others, where there are both
abbrev pub in_front : maybe.Option Record → maybe.Option (List Record) → maybe.Option (List Record)
in_front none rs = none
in_front (some r) none = none
in_front (some r) (some rs) = some (r ∷ rs)

-- the records of the rest of a log, one after another to the clean end; none where one is bad. Its first `skip` bytes are passed over
unfoldable pub records_of : (skip : ℕ) → List ℕ → maybe.Option (List Record)
records_of skip [] = some []
records_of (suc n) (b ∷ s) = records_of n s
records_of zero (b ∷ s) = elim (record_of (b ∷ s)) [ Ok (Some t) ↦ in_front (some t.«record») (records_of (t.size - 1) s) | Ok None ↦ some [] | Err e ↦ none ]

-- the pool's length and order and the records that a log holds
pub record Log : Type 0 where
  pub long : ℕ
  pub order : ℕ
  pub records : List Record

-- a log in bytes
abbrev pub bytes_of : Log → List ℕ
bytes_of l = log_of l.long l.order l.records

abbrev pub with_start : ℕ → ℕ → maybe.Option (List Record) → maybe.Option Log
with_start n order none = none
with_start n order (some rs) = some (record { long = n; order = order; records = rs })

-- what the reader finds in a log that it takes whole, to the clean end
unfoldable pub read_log : List ℕ → maybe.Option Log
read_log s = elim (start_of s) [ Some x ↦ with_start x.length x.order (records_of x.size s) | None ↦ none ]
