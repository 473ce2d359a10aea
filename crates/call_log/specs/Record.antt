-- The records of a log: the number and the fields of each kind, and how a record is read and written.
use Rattle.std.specs.Prelude.{ℕ, zero, suc, ℤ, pos, negsuc, ◌≡◌, List, [], ◌∷◌, Bool, true, cond, leb, ltb, eqb, drop, get_or, Option, Some, None, Result, Ok, Err}
use Rattle.numbers.specs.declared.Number.{Number}
use Rattle.numbers.specs.Number.{number_of}
use Rattle.call_log.specs.declared.Record.{Record}
use Rattle.call_log.specs.declared.Record.TheVariants.{Get, Poll, Release, Cancel, Tick, PriorityGet, PriorityPoll}
use Rattle.call_log.specs.declared.Kind.{Kind}
use Rattle.call_log.specs.declared.Kind.TheVariants as kind
use Rattle.call_log.specs.declared.Taken.{Taken}
use Rattle.call_log.specs.declared.BadRecord.{BadRecord}
use Rattle.call_log.specs.Fields.{Fields, Fields·read, Fields·refused, before, read_fields, encode_fields, Small}

-- a limit is below 2^31, and its field, the limit plus 1, at most that
abbrev pub limit_bound : ℕ
limit_bound = 2147483648

-- the limit that a field says, and the field of a limit
unfoldable pub limit_of : ℕ → ℤ
limit_of zero = negsuc 0
limit_of (suc n) = pos n

unfoldable pub limit_field : ℤ → ℕ
limit_field (pos n) = suc n
limit_field (negsuc n) = 0

-- the numbers of a record: that of its kind, then its fields
unfoldable pub fields_of : Record → List ℕ
fields_of (Get task size limit) = 1 ∷ task ∷ size ∷ limit_field limit ∷ []
fields_of (Poll task size) = 2 ∷ task ∷ size ∷ []
fields_of (Release offset) = 3 ∷ offset ∷ []
fields_of (Cancel task) = 4 ∷ task ∷ []
fields_of Tick = 5 ∷ []
fields_of (PriorityGet task size limit priority) = 6 ∷ task ∷ size ∷ limit_field limit ∷ priority ∷ []
fields_of (PriorityPoll task size priority) = 7 ∷ task ∷ size ∷ priority ∷ []

-- the kinds in the order of their numbers, from 0 on
abbrev pub kinds : List Kind
kinds = kind.Unknown ∷ kind.Get ∷ kind.Poll ∷ kind.Release ∷ kind.Cancel ∷ kind.Tick ∷ kind.PriorityGet ∷ kind.PriorityPoll ∷ []

abbrev pub kind_of : ℕ → Kind
kind_of n = get_or kinds n kind.Unknown

-- how many fields follow a kind
abbrev pub field_count : Kind → ℕ
field_count kind.Get = 3
field_count kind.Poll = 2
field_count kind.Release = 1
field_count kind.Cancel = 1
field_count kind.Tick = 0
field_count kind.PriorityGet = 4
field_count kind.PriorityPoll = 3
field_count kind.Unknown = 0

-- what is read from the rest of a log: a record r of n bytes, the clean end, or bad bytes
abbrev pub Read : Type 0
Read = Result (Option Taken) BadRecord

abbrev pub taken : Record → ℕ → Read
taken r n = Ok (Some (record { «record» = r; size = n }))

abbrev pub end : Read
end = Ok None

abbrev pub bad : Read
bad = Err (record {})

-- a record with a limit field, which may be too great
abbrev pub limited_by : ℕ → Record → Option Record
limited_by limit r = cond (leb limit limit_bound) (Some r) None

-- the record of a kind with the fields a, b, c and d, as many as the kind has
abbrev pub record_from : Kind → ℕ → ℕ → ℕ → ℕ → Option Record
record_from kind.Get task size limit d = limited_by limit (Get task size (limit_of limit))
record_from kind.Poll task size c d = Some (Poll task size)
record_from kind.Release offset b c d = Some (Release offset)
record_from kind.Cancel task b c d = Some (Cancel task)
record_from kind.Tick a b c d = Some Tick
record_from kind.PriorityGet task size limit priority = limited_by limit (PriorityGet task size (limit_of limit) priority)
record_from kind.PriorityPoll task size priority d = Some (PriorityPoll task size priority)
record_from kind.Unknown a b c d = None

-- a record that was made of n bytes
abbrev pub read_as : ℕ → Option Record → Read
read_as n (Some r) = taken r n
read_as n None = bad

-- the record of a kind with the fields that were read
abbrev pub made : Kind → Fields → Read
made k (Fields·read fs n) = read_as n (record_from k (get_or fs 0 0) (get_or fs 1 0) (get_or fs 2 0) (get_or fs 3 0))
made k Fields·refused = bad

-- the record after the number of its kind
abbrev pub after_kind : Option Number → List ℕ → Read
after_kind (Some x) s = made (kind_of x.value) (before [] x.size (read_fields (field_count (kind_of x.value)) (drop x.size s)))
after_kind None s = bad

-- the record at the start of the rest of a log
unfoldable pub record_of : List ℕ → Read
record_of [] = end
record_of (b ∷ s) = after_kind (number_of (b ∷ s)) (b ∷ s)

-- a record in bytes
abbrev pub encode_record : Record → List ℕ
encode_record r = encode_fields (fields_of r)

-- the limits of a get: -1, and from 0 on those below 2^31
abbrev pub is_limit : ℤ → Bool
is_limit (pos n) = ltb n limit_bound
is_limit (negsuc n) = eqb n 0

abbrev pub Limited : Record → Type 0
Limited (Get task size limit) = is_limit limit ≡ true
Limited (Poll task size) = Unit {0}
Limited (Release offset) = Unit {0}
Limited (Cancel task) = Unit {0}
Limited Tick = Unit {0}
Limited (PriorityGet task size limit priority) = is_limit limit ≡ true
Limited (PriorityPoll task size priority) = Unit {0}

-- what the log can express
pub record Expressible (r : Record) : Type 0 where
  pub small : Small (fields_of r)
  pub limited : Limited r
