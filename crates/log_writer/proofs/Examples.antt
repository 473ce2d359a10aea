-- What the writer leaves, by computation. Assumes nothing.
use mathlib.Core.Path.{◌≡◌, refl}
use mathlib.Core.List.{[], ◌∷◌, ◌++◌}
use mathlib.Core.Option.{none}
use lib.IntN.{ℤ, pos, negsuc}
use lib.ListN.{replicate}
use Rattle.model.specs.Limits.{fifo_order, priority_order}
use Rattle.numbers.specs.Number.{groups}
use Rattle.output.specs.Fill.{outcome}
use Rattle.call_log.specs.Fields.{encode_fields}
use Rattle.call_log.specs.Record.{limit_field, fields_of}
use Rattle.call_log.specs.Log.{encode_records}
use Rattle.call_log.proofs.Examples.{log}
use Rattle.log_writer.specs.declared.WriteError.TheVariants.{Parameter, NoRoom}
use Rattle.log_writer.specs.Writer.{Columns, columns, given_from, writable, written, refusal, write_log}

-- the records of the log, with other numbers in the fields that a kind does not have
abbrev given : Columns
given =
    columns (1 ∷ 1 ∷ 2 ∷ 3 ∷ 1 ∷ 3 ∷ []) (1 ∷ 2 ∷ 5 ∷ 8 ∷ 3 ∷ 28 ∷ []) (10 ∷ 20 ∷ 12 ∷ 99 ∷ 24 ∷ 7 ∷ [])
    (negsuc 0 ∷ negsuc 0 ∷ negsuc 6 ∷ pos 3 ∷ negsuc 0 ∷ negsuc 1 ∷ []) (0 ∷ 1 ∷ 2 ∷ 3 ∷ 4 ∷ 5 ∷ [])

-- a byte past the log is kept
written-whole : write_log 64 fifo_order given (replicate 21 0xFF) ≡ outcome (written 20) (log ++ 0xFF ∷ [])
unfolding groups fields_of limit_field encode_fields encode_records given_from writable
written-whole = refl

just_fits : write_log 64 fifo_order given (replicate 20 0xFF) ≡ outcome (written 20) log
unfolding groups fields_of limit_field encode_fields encode_records given_from writable
just_fits = refl

one_short : write_log 64 fifo_order given (replicate 19 0xFF) ≡ outcome (refusal NoRoom) (replicate 19 0xFF)
unfolding groups fields_of limit_field encode_fields encode_records given_from writable
one_short = refl

-- no records, and a length that create refuses
length_alone : write_log 14 fifo_order (columns [] [] [] [] []) (0xFF ∷ []) ≡ outcome (written 1) (14 ∷ [])
unfolding groups encode_fields encode_records given_from writable
length_alone = refl

-- a get of size 1 by task 1
abbrev get : ℤ → Columns
get limit = columns (1 ∷ []) (1 ∷ []) (1 ∷ []) (limit ∷ []) (0 ∷ [])

greatest-limit : write_log 64 fifo_order (get (pos 2147483647)) (replicate 9 0)
    ≡ outcome (written 9) (0x40 ∷ 0x01 ∷ 0x01 ∷ 0x01 ∷ 0x80 ∷ 0x80 ∷ 0x80 ∷ 0x80 ∷ 0x08 ∷ [])
unfolding groups fields_of limit_field encode_fields encode_records given_from writable
greatest-limit = refl

limit-zero : write_log 64 fifo_order (get (pos 0)) (replicate 5 0) ≡ outcome (written 5) (0x40 ∷ 0x01 ∷ 0x01 ∷ 0x01 ∷ 0x01 ∷ [])
unfolding groups fields_of limit_field encode_fields encode_records given_from writable
limit-zero = refl

-- a limit of -2, also where the buffer is too short
limit_below : write_log 64 fifo_order (get (negsuc 1)) [] ≡ outcome (refusal Parameter) []
unfolding given_from writable
limit_below = refl

-- a get and a poll with a priority, in a pool by priority: the mark stands behind the length
abbrev with_priorities : Columns
with_priorities = columns (6 ∷ 7 ∷ 1 ∷ []) (1 ∷ 5 ∷ 2 ∷ []) (10 ∷ 12 ∷ 20 ∷ []) (negsuc 0 ∷ negsuc 6 ∷ negsuc 0 ∷ []) (9 ∷ 17 ∷ 3 ∷ [])

written-priorities : write_log 64 priority_order with_priorities (replicate 15 0xFF)
    ≡ outcome (written 15)
    (0x40 ∷ 0x08 ∷ 0x06 ∷ 0x01 ∷ 0x0A ∷ 0x00 ∷ 0x09 ∷ 0x07 ∷ 0x05 ∷ 0x0C ∷ 0x11 ∷ 0x01 ∷ 0x02 ∷ 0x14 ∷ 0x00 ∷ [])
unfolding groups fields_of limit_field encode_fields encode_records given_from writable
written-priorities = refl

one_short_priorities : write_log 64 priority_order with_priorities (replicate 14 0xFF) ≡ outcome (refusal NoRoom) (replicate 14 0xFF)
unfolding groups fields_of limit_field encode_fields encode_records given_from writable
one_short_priorities = refl

-- an unknown order
order_two : write_log 64 2 with_priorities (replicate 15 0xFF) ≡ outcome (refusal Parameter) (replicate 15 0xFF)
unfolding writable
order_two = refl

limit_below_priority : writable fifo_order (columns (6 ∷ []) (1 ∷ []) (1 ∷ []) (negsuc 1 ∷ []) (1 ∷ [])) ≡ none
unfolding given_from writable
limit_below_priority = refl

kind-zero : writable fifo_order (columns (5 ∷ 0 ∷ []) (0 ∷ 0 ∷ []) (0 ∷ 0 ∷ []) (pos 0 ∷ pos 0 ∷ []) (0 ∷ 0 ∷ [])) ≡ none
unfolding given_from writable
kind-zero = refl

-- the mark of the order is no kind of record
kind_eight : writable priority_order (columns (8 ∷ []) (0 ∷ []) (0 ∷ []) (pos 0 ∷ []) (0 ∷ [])) ≡ none
unfolding given_from writable
kind_eight = refl

-- columns that are not equally long
no_limit : writable fifo_order (columns (5 ∷ []) (0 ∷ []) (0 ∷ []) [] (0 ∷ [])) ≡ none
unfolding writable
no_limit = refl

no_priority : writable fifo_order (columns (5 ∷ []) (0 ∷ []) (0 ∷ []) (pos 0 ∷ []) []) ≡ none
unfolding writable
no_priority = refl

one_too_many : writable fifo_order (columns (replicate 4097 5) (replicate 4097 0) (replicate 4097 0) (replicate 4097 (pos 0)) (replicate 4097 0)) ≡ none
unfolding writable
one_too_many = refl
