-- The log writer: the records that its columns give, and what it answers and leaves in the buffer.
use Rattle.std.specs.Prelude.{ℕ, zero, suc, ◌<◌, ◌≤◌, Bool, cond, ◌&&◌, List, [], map, leb, eqb, ℤ, pos, length, get_or, Result, Ok, Err}
use Rattle.std.proofs.Math.Option.{Option, none, some}
use Rattle.model.specs.Limits.{e_par, e_nomem}
use Rattle.model.specs.Rules.{ok_order}
use Rattle.numbers.specs.Number.{number_bound}
use Rattle.output.specs.Fill.{Outcome, Content, Content·bytes, Content·refused, fill}
use Rattle.call_log.specs.declared.Record.{Record}
use Rattle.call_log.specs.declared.Record.TheVariants.{Get, Poll, Release, Cancel, Tick, PriorityGet, PriorityPoll}
use Rattle.call_log.specs.declared.Kind.{Kind}
use Rattle.call_log.specs.declared.Kind.TheVariants as kind
pub use Rattle.log_writer.specs.declared.Row.{Row}
use Rattle.log_writer.specs.declared.Columns.{Columns as Slices}
pub use Rattle.log_writer.specs.declared.WriteError.{WriteError}
use Rattle.log_writer.specs.declared.WriteError.TheVariants.{Parameter, NoRoom}
use Rattle.call_log.specs.Record.{limit_bound, limit_field, is_limit, kind_of}
use Rattle.call_log.specs.Log.{most_records, log_of, in_front}

-- ---- the records that are given

-- the record of a row, by its kind; none where the log can't express it. Fields that the kind does not have are not looked at
abbrev pub given_as : Kind → Row → Option Record
given_as kind.Get w = cond (is_limit w.limit) (some (Get w.first w.second w.limit)) none
given_as kind.Poll w = some (Poll w.first w.second)
given_as kind.Release w = some (Release w.first)
given_as kind.Cancel w = some (Cancel w.first)
given_as kind.Tick w = some Tick
given_as kind.PriorityGet w = cond (is_limit w.limit) (some (PriorityGet w.first w.second w.limit w.priority)) none
given_as kind.PriorityPoll w = some (PriorityPoll w.first w.second w.priority)
given_as kind.Unknown w = none

abbrev pub given : Row → Option Record
given w = given_as (kind_of w.kind) w

-- records are given in columns, a row at each place
pub record Columns : Type 0 where
  pub kinds : List ℕ
  pub firsts : List ℕ
  pub seconds : List ℕ
  pub limits : List ℤ
  pub priorities : List ℕ

abbrev pub columns : (kinds firsts seconds : List ℕ) → List ℤ → List ℕ → Columns
columns kinds firsts seconds limits priorities = record { kinds = kinds; firsts = firsts; seconds = seconds; limits = limits; priorities = priorities }

-- the columns that are lent
abbrev pub lent : Slices → Columns
lent s = columns s.kinds.now s.firsts.now s.seconds.now s.limits.now s.priorities.now

abbrev pub row_at : Columns → ℕ → Row
row_at c i =
    record {
      kind = get_or c.kinds i 0;
      first = get_or c.firsts i 0;
      second = get_or c.seconds i 0;
      limit = get_or c.limits i (pos 0);
      priority = get_or c.priorities i 0;
    }

-- the records of the k rows from the place i on; none where one of them has none
unfoldable pub given_from : Columns → (i k : ℕ) → Option (List Record)
given_from c i zero = some []
given_from c i (suc k) = in_front (given (row_at c i)) (given_from c (suc i) k)

-- the columns are equally long
abbrev pub level : Columns → Bool
level c =
    eqb (length c.firsts) (length c.kinds)
    && (eqb (length c.seconds) (length c.kinds)
    && (eqb (length c.limits) (length c.kinds)
    && eqb (length c.priorities) (length c.kinds)))

-- the order is known, and the columns are level and hold at most as many records as a log
abbrev pub regular : ℕ → Columns → Bool
regular order c = ok_order order && (leb (length c.kinds) most_records && level c)

-- the records to be written; none where the order is unknown, the columns are not level, there are too many records, or the log can't express one
unfoldable pub writable : ℕ → Columns → Option (List Record)
writable order c = cond (regular order c) (given_from c 0 (length c.kinds)) none

-- ---- what is answered, and the buffer

-- the length of the log
abbrev pub written : ℕ → Result ℕ WriteError
written n = Ok n

abbrev pub refusal : WriteError → Result ℕ WriteError
refusal e = Err e

-- the code of a refusal
abbrev pub code_of : WriteError → ℤ
code_of Parameter = e_par
code_of NoRoom = e_nomem

-- the log of the records, if there are records
abbrev pub log_for : ℕ → ℕ → Option (List Record) → Content (Result ℕ WriteError)
log_for n order none = Content·refused (refusal Parameter)
log_for n order (some rs) = Content·bytes (log_of n order rs)

-- the log is written where the buffer holds it
abbrev pub write_log : ℕ → ℕ → Columns → List ℕ → Outcome (Result ℕ WriteError)
write_log n order c buf = fill written (refusal NoRoom) (log_for n order (writable order c)) buf

-- ---- columns of records

-- a row of a record, zeros in the fields that its kind does not have
abbrev pub row : (kind first second : ℕ) → ℤ → ℕ → Row
row kind first second limit priority = record { kind = kind; first = first; second = second; limit = limit; priority = priority }

abbrev pub row_of : Record → Row
row_of (Get task size limit) = row 1 task size limit 0
row_of (Poll task size) = row 2 task size (pos 0) 0
row_of (Release offset) = row 3 offset 0 (pos 0) 0
row_of (Cancel task) = row 4 task 0 (pos 0) 0
row_of Tick = row 5 0 0 (pos 0) 0
row_of (PriorityGet task size limit priority) = row 6 task size limit priority
row_of (PriorityPoll task size priority) = row 7 task size (pos 0) priority

abbrev pub columns_of : List Record → Columns
columns_of rs =
    columns (map (λ r. (row_of r).kind) rs) (map (λ r. (row_of r).first) rs) (map (λ r. (row_of r).second) rs) (map (λ r. (row_of r).limit) rs) (map (λ r. (row_of r).priority) rs)

-- what the types of the code say of the columns: first and second fields and priorities are below 2^32, limits below 2^31
pub record Typed (c : Columns) : Type 0 where
  pub first : (i : ℕ) → get_or c.firsts i 0 < number_bound
  pub second : (i : ℕ) → get_or c.seconds i 0 < number_bound
  pub limit : (i : ℕ) → limit_field (get_or c.limits i (pos 0)) ≤ limit_bound
  pub priority : (i : ℕ) → get_or c.priorities i 0 < number_bound
