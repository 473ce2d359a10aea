-- What the writer's steps answer: the contracts of the functions below `write_log`.
use Rattle.std.specs.Prelude.{ℕ, zero, suc, ◌+◌, ◌*◌, ◌≤◌, ◌≡◌, Bool, true, false, List, [], ◌∷◌, ◌++◌, length, take, Result, Ok, Err}
use Rattle.std.proofs.Math.Option.{Option, none, some}
use Rattle.call_log.specs.declared.Record.{Record}
use Rattle.call_log.specs.declared.Kind.{Kind}
use Rattle.call_log.specs.declared.Kind.TheVariants as kind
use Rattle.log_writer.specs.declared.Row.{Row}
use Rattle.log_writer.specs.declared.WriteError.{WriteError}
use Rattle.log_writer.specs.declared.WriteError.TheVariants.{Parameter}
use Rattle.call_log.specs.Fields.{encode_fields, fields_length}
use Rattle.call_log.specs.Record.{limit_field, kind_of, field_count}
use Rattle.call_log.specs.Log.{start_bytes, records_length}
use Rattle.log_writer.specs.Writer.{Columns, row_at, writable}

-- the columns are equally long
pub record Level (c : Columns) : Type 0 where
  pub firsts : length c.firsts ≡ length c.kinds
  pub seconds : length c.seconds ≡ length c.kinds
  pub limits : length c.limits ≡ length c.kinds
  pub priorities : length c.priorities ≡ length c.kinds

-- whether there is a record
abbrev pub is_some : Option Record → Bool
is_some none = false
is_some (some r) = true

-- m bytes and those of the records, if there are records
abbrev pub needed_after : ℕ → Option (List Record) → Result ℕ WriteError
needed_after m none = Err Parameter
needed_after m (some rs) = Ok (m + records_length rs)

-- the length of the log, where it can be written
abbrev pub needed_for : ℕ → ℕ → Columns → Result ℕ WriteError
needed_for n order c = needed_after (length (start_bytes n order)) (writable order c)

-- the start of a log has r bytes, at most five for the pool's length and one for the order
pub record Started (n order r : ℕ) : Type 0 where
  pub bytes : r ≡ length (start_bytes n order)
  pub few : r ≤ 6

-- the third field of a row, 0 where its kind has none
abbrev pub third_of : Kind → Row → ℕ
third_of kind.Get w = limit_field w.limit
third_of kind.Poll w = 0
third_of kind.Release w = 0
third_of kind.Cancel w = 0
third_of kind.Tick w = 0
third_of kind.PriorityGet w = limit_field w.limit
third_of kind.PriorityPoll w = w.priority
third_of kind.Unknown w = 0

-- the fields of a row, first those that its kind has
abbrev pub row_fields : Row → List ℕ
row_fields w = w.first ∷ w.second ∷ third_of (kind_of w.kind) w ∷ w.priority ∷ []

-- the numbers of a row: that of its kind, then the fields that the kind has
abbrev pub numbers_of : Row → List ℕ
numbers_of w = w.kind ∷ take (field_count (kind_of w.kind)) (row_fields w)

-- the first `count` of the values are the numbers vs
pub record Holds (values : List ℕ) (count : ℕ) (vs : List ℕ) : Type 0 where
  pub within : count ≤ length values
  pub same : take count values ≡ vs

-- the numbers vs need r bytes, at most five each
pub record Counted (vs : List ℕ) (r : ℕ) : Type 0 where
  pub bytes : r ≡ fields_length vs
  pub few : r ≤ 5 * length vs

-- the k rows from the place i on, in bytes
unfoldable pub rows_bytes : Columns → (i k : ℕ) → List ℕ
rows_bytes c i zero = []
rows_bytes c i (suc k) = encode_fields (numbers_of (row_at c i)) ++ rows_bytes c (suc i) k
