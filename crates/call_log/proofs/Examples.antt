-- The log of the examples read one record after another, and bytes that are no record, by computation. Assumes nothing.
use Prim.Native.Nat.{ℕ, zero, suc}
use mathlib.Core.Path.{◌≡◌, refl}
use mathlib.Core.List.{List, [], ◌∷◌, map}
use mathlib.Core.Option.{none, some}
use lib.IntN.{pos, negsuc}
use lib.ListN.{take, drop}
use Rattle.model.specs.Limits.{fifo_order, priority_order}
use Rattle.numbers.specs.Number.{decode, groups}
use Rattle.call_log.specs.declared.Record.{Record}
use Rattle.call_log.specs.declared.Record.TheVariants.{Get, Poll, Release, Cancel, Tick, PriorityGet, PriorityPoll}
use Rattle.std.specs.Prelude.{Some, None, Ok, Err}
use Rattle.call_log.specs.Fields.{read_fields, encode_fields, fields_length}
use Rattle.call_log.specs.Record.{limit_of, limit_field, fields_of, Read, taken, end, bad, record_of, encode_record}
use Rattle.call_log.specs.Log.{records_length, log_length, start, start_of, records_of, read_log}

-- the rest of a log after what was read
abbrev rest : Read → List ℕ → List ℕ
rest (Ok (Some t)) s = drop t.size s
rest (Ok None) s = s
rest (Err e) s = s

-- k answers of the reader one after another
abbrev answers : ℕ → List ℕ → List Read
answers zero s = []
answers (suc k) s = record_of s ∷ answers k (rest (record_of s) s)

abbrev pub log : List ℕ
log =
    0x40 ∷ 0x01 ∷ 0x01 ∷ 0x0A ∷ 0x00 ∷ 0x01 ∷ 0x02 ∷ 0x14 ∷ 0x00 ∷ 0x02 ∷ 0x05 ∷ 0x0C ∷ 0x03 ∷ 0x08 ∷ 0x01 ∷ 0x03 ∷ 0x18 ∷ 0x00 ∷ 0x03 ∷ 0x1C ∷ []

log_start : start_of log ≡ start 64 fifo_order 1
unfolding decode start_of
log_start = refl

log-records : answers 7 (drop 1 log)
    ≡ taken (Get 1 10 (negsuc 0)) 4 ∷ taken (Get 2 20 (negsuc 0)) 4 ∷ taken (Poll 5 12) 3 ∷ taken (Release 8) 2 ∷ taken (Get 3 24 (negsuc 0)) 4
    ∷ taken (Release 28) 2 ∷ end ∷ []
unfolding decode read_fields limit_of record_of
log-records = refl

cancel-tick : answers 3 (0x04 ∷ 0x03 ∷ 0x05 ∷ []) ≡ taken (Cancel 3) 2 ∷ taken Tick 1 ∷ end ∷ []
unfolding decode read_fields record_of
cancel-tick = refl

-- the greatest limit, and one above it
longest : record_of (0x01 ∷ 0x01 ∷ 0x01 ∷ 0x80 ∷ 0x80 ∷ 0x80 ∷ 0x80 ∷ 0x08 ∷ []) ≡ taken (Get 1 1 (pos 2147483647)) 8
unfolding decode read_fields limit_of record_of
longest = refl

too_long : record_of (0x01 ∷ 0x01 ∷ 0x01 ∷ 0x81 ∷ 0x80 ∷ 0x80 ∷ 0x80 ∷ 0x08 ∷ []) ≡ bad
unfolding decode read_fields record_of
too_long = refl

-- a get and a poll with a priority, which may be any number
with_priority : answers 3 (0x06 ∷ 0x01 ∷ 0x0A ∷ 0x00 ∷ 0x09 ∷ 0x07 ∷ 0x05 ∷ 0x0C ∷ 0x11 ∷ []) ≡ taken (PriorityGet 1 10 (negsuc 0) 9) 5 ∷ taken (PriorityPoll 5 12 17) 4 ∷ end ∷ []
unfolding decode read_fields limit_of record_of
with_priority = refl

priority_too_long : record_of (0x06 ∷ 0x01 ∷ 0x01 ∷ 0x81 ∷ 0x80 ∷ 0x80 ∷ 0x80 ∷ 0x08 ∷ 0x01 ∷ []) ≡ bad
unfolding decode read_fields record_of
priority_too_long = refl

priority_cut_off : record_of (0x07 ∷ 0x01 ∷ 0x04 ∷ []) ≡ bad
unfolding decode read_fields record_of
priority_cut_off = refl

-- the mark of the order is no record, and no other number is
another_kind : map record_of ((0x08 ∷ []) ∷ (0x00 ∷ []) ∷ (0x09 ∷ []) ∷ []) ≡ bad ∷ bad ∷ bad ∷ []
unfolding decode read_fields record_of
another_kind = refl

cut_off : record_of (0x02 ∷ 0x01 ∷ []) ≡ bad
unfolding decode read_fields record_of
cut_off = refl

written : encode_record (Get 1 200 (pos 9)) ≡ 0x01 ∷ 0x01 ∷ 0xC8 ∷ 0x01 ∷ 0x0A ∷ []
unfolding groups fields_of limit_field encode_fields
written = refl

-- ---- whole logs

abbrev records : List Record
records = Get 1 10 (negsuc 0) ∷ Get 2 20 (negsuc 0) ∷ Poll 5 12 ∷ Release 8 ∷ Get 3 24 (negsuc 0) ∷ Release 28 ∷ []

read_whole : read_log log ≡ some (record { long = 64; order = fifo_order; records = records })
unfolding decode read_fields limit_of record_of start_of records_of read_log
read_whole = refl

-- cut off by one byte
read_cut_off : read_log (take 19 log) ≡ none
unfolding decode read_fields limit_of record_of start_of records_of read_log
read_cut_off = refl

-- the mark of the order directly behind the length, and nowhere else: not twice, not behind a record
read_marked : read_log (0x40 ∷ 0x08 ∷ 0x05 ∷ []) ≡ some (record { long = 64; order = priority_order; records = Tick ∷ [] })
unfolding decode read_fields record_of start_of records_of read_log
read_marked = refl

read_mark_alone : read_log (0x40 ∷ 0x08 ∷ []) ≡ some (record { long = 64; order = priority_order; records = [] })
unfolding decode record_of start_of records_of read_log
read_mark_alone = refl

read_misplaced : map read_log ((0x40 ∷ 0x08 ∷ 0x08 ∷ []) ∷ (0x40 ∷ 0x05 ∷ 0x08 ∷ []) ∷ (0x40 ∷ 0x08 ∷ 0x05 ∷ 0x08 ∷ []) ∷ []) ≡ none ∷ none ∷ none ∷ []
unfolding decode read_fields record_of start_of records_of read_log
read_misplaced = refl

-- a length of two bytes whose last is 8: no mark
read_length_8 : read_log (0xC0 ∷ 0x08 ∷ 0x05 ∷ []) ≡ some (record { long = 1088; order = fifo_order; records = Tick ∷ [] })
unfolding decode read_fields record_of start_of records_of read_log
read_length_8 = refl

log_needs : log_length 64 fifo_order records ≡ 20
unfolding groups fields_of limit_field fields_length records_length
log_needs = refl
