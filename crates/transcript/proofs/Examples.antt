-- The text of the example log, and of other logs, by computation. Assumes nothing.
use Prim.Native.Nat.{ℕ}
use mathlib.Core.Path.{◌≡◌, refl}
use mathlib.Core.List.{List, [], ◌∷◌, ◌++◌}
use lib.IntN.{negsuc}
use Rattle.model.specs.Blocks.{total, tiled, fits, first_fit, carve, granted, starts_at, join, freed, sum_free, greatest_free}
use Rattle.model.specs.Bytes.{blocks_from, le32, header, overlay, written, mask, render, erase}
use Rattle.model.specs.Waiting.{waits, remove, head_task, insert, blocked, leads, expired, remaining}
use Rattle.model.specs.Rules.{queued, rules}
use Rattle.model.specs.Calls.{leave, serve, head_stuck, sound, tests, act}
use Rattle.model.specs.Places.{pad, used, all_unused, tidy}
use Rattle.model.specs.Pool.{defaults, view, sound_by, perform_by, create}
use Rattle.numbers.specs.Number.{decode}
use Rattle.call_log.specs.Fields.{read_fields}
use Rattle.call_log.specs.Record.{limit_of, record_of}
use Rattle.call_log.specs.Log.{start_of}
use Rattle.text.specs.Ascii.{ascii}
use Rattle.text.specs.Decimal.{digits}
use Rattle.transcript.specs.Lines.{signed}
use Rattle.transcript.specs.Transcript.{woken_text, answer_text, records_text, pool_text, transcript_of}

least : signed (negsuc 2147483647) ≡ ascii "-2147483648"
unfolding digits
least = refl

-- the example log
abbrev log : List ℕ
log = 0x40 ∷ 0x01 ∷ 0x01 ∷ 0x0A ∷ 0x00 ∷ 0x01 ∷ 0x02 ∷ 0x14 ∷ 0x00 ∷ 0x02 ∷ 0x05 ∷ 0x0C ∷ 0x03 ∷ 0x08 ∷ 0x01 ∷ 0x03 ∷ 0x18 ∷ 0x00 ∷ 0x03 ∷ 0x1C ∷ []

abbrev log-text : List ℕ
log-text =
    ascii "pool 64\n"
    ++ ascii "0 8\n"
    ++ ascii "0 28\n"
    ++ ascii "-50 0\n"
    ++ ascii "0 0\n"
    ++ ascii "1 0\n"
    ++ ascii "0 0\n"
    ++ ascii "w 3 0 8\n"
    ++ ascii "end 6 records\n"

-- a tick that wakes nobody, one that ends a wait of limit 1 and lets another be served, then a cancel of a task that does not wait
abbrev ticks : List ℕ
ticks = 0x40 ∷ 0x01 ∷ 0x01 ∷ 0x0A ∷ 0x00 ∷ 0x01 ∷ 0x02 ∷ 0x14 ∷ 0x00 ∷ 0x01 ∷ 0x03 ∷ 0x0C ∷ 0x02 ∷ 0x01 ∷ 0x04 ∷ 0x04 ∷ 0x00 ∷ 0x05 ∷ 0x05 ∷ 0x04 ∷ 0x03 ∷ []

abbrev ticks-text : List ℕ
ticks-text =
    ascii "pool 64\n"
    ++ ascii "0 8\n"
    ++ ascii "0 28\n"
    ++ ascii "1 0\n"
    ++ ascii "1 0\n"
    ++ ascii "0 0\n"
    ++ ascii "0 0\n"
    ++ ascii "w 3 -50 0\n"
    ++ ascii "w 4 0 56\n"
    ++ ascii "-41 0\n"
    ++ ascii "end 7 records\n"

-- a kind that is none, after a tick
abbrev bad : List ℕ
bad = 0x0C ∷ 0x05 ∷ 0x09 ∷ 0x05 ∷ []

abbrev bad_text : List ℕ
bad_text =
    ascii "pool 12\n"
    ++ ascii "0 0\n"
    ++ ascii "bad log at 2\n"

-- by priority: task 3 waits with priority 9, a poll of priority 9 is refused, a get without a priority has 16 and waits, and a poll of priority 1 is granted
abbrev priorities : List ℕ
priorities =
    0x40 ∷ 0x08 ∷ 0x01 ∷ 0x01 ∷ 0x0A ∷ 0x00 ∷ 0x01 ∷ 0x02 ∷ 0x14 ∷ 0x00 ∷ 0x06 ∷ 0x03 ∷ 0x0C ∷ 0x00 ∷ 0x09
    ∷ 0x07 ∷ 0x05 ∷ 0x04 ∷ 0x09 ∷ 0x01 ∷ 0x04 ∷ 0x04 ∷ 0x00 ∷ 0x07 ∷ 0x05 ∷ 0x04 ∷ 0x01 ∷ []

abbrev priorities-text : List ℕ
priorities-text =
    ascii "pool 64\n"
    ++ ascii "0 8\n"
    ++ ascii "0 28\n"
    ++ ascii "1 0\n"
    ++ ascii "-50 0\n"
    ++ ascii "1 0\n"
    ++ ascii "0 56\n"
    ++ ascii "end 6 records\n"

-- the mark of the order after a tick, and twice: bad at its place
abbrev misplaced : List ℕ
misplaced = 0x0C ∷ 0x05 ∷ 0x08 ∷ 0x05 ∷ []

abbrev twice : List ℕ
twice = 0x0C ∷ 0x08 ∷ 0x08 ∷ 0x05 ∷ []

abbrev twice_text : List ℕ
twice_text =
    ascii "pool 12\n"
    ++ ascii "bad log at 2\n"

-- a length and no record
abbrev no_record : List ℕ
no_record = 0x0C ∷ []

abbrev no_record_text : List ℕ
no_record_text =
    ascii "pool 12\n"
    ++ ascii "end 0 records\n"

computed : (transcript_of defaults log ≡ log-text) × (transcript_of defaults ticks ≡ ticks-text) × (transcript_of defaults bad ≡ bad_text) × (transcript_of defaults no_record ≡ no_record_text)
    × (transcript_of defaults priorities ≡ priorities-text) × (transcript_of defaults misplaced ≡ bad_text) × (transcript_of defaults twice ≡ twice_text)
unfolding total tiled fits first_fit carve granted starts_at join freed sum_free greatest_free blocks_from le32 header overlay written mask render erase waits remove head_task insert blocked leads expired remaining queued rules leave serve head_stuck sound tests act pad used all_unused tidy view sound_by perform_by create decode read_fields limit_of record_of digits woken_text answer_text records_text start_of pool_text transcript_of
computed = (refl, refl, refl, refl, refl, refl, refl)

-- an empty log
empty : transcript_of defaults [] ≡ ascii "bad log at 0\n"
unfolding decode digits start_of pool_text transcript_of
empty = refl

-- a length that is not in its shortest form
not_shortest : transcript_of defaults (0x80 ∷ 0x00 ∷ 0x05 ∷ []) ≡ ascii "bad log at 0\n"
unfolding decode digits start_of pool_text transcript_of
not_shortest = refl

-- lengths that are not allowed: 14 and 2^32 - 1
refused : transcript_of defaults (0x0E ∷ 0x05 ∷ []) ≡ ascii "pool refused -17\n"
unfolding rules decode start_of pool_text transcript_of
refused = refl

refused-greatest : transcript_of defaults (0xFF ∷ 0xFF ∷ 0xFF ∷ 0xFF ∷ 0x0F ∷ 0x05 ∷ []) ≡ ascii "pool refused -17\n"
unfolding rules decode start_of pool_text transcript_of
refused-greatest = refl
