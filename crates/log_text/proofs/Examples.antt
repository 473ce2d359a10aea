-- Texts that are read, refused and printed, by computation. Assumes nothing.
use Prim.Native.Nat.{ℕ}
use Prim.Native.String.{String}
use mathlib.Core.Path.{◌≡◌, refl}
use mathlib.Core.List.{List, [], ◌∷◌, ◌++◌, map}
use lib.IntN.{pos, negsuc}
use Rattle.model.specs.Limits.{fifo_order, priority_order}
use Rattle.numbers.specs.Number.{decode}
use Rattle.call_log.specs.declared.Record.TheVariants.{Get, Poll, Release, Cancel, Tick, PriorityGet, PriorityPoll}
use Rattle.call_log.specs.Fields.{read_fields}
use Rattle.call_log.specs.Record.{limit_of, limit_field, record_of}
use Rattle.call_log.specs.Log.{start_of, Log}
use Rattle.text.specs.Ascii.{ascii}
use Rattle.text.specs.Decimal.{digits, value_from, all_digits}
use Rattle.text.specs.Words.{span, pieces, nonempty, same, numeral_of}
use Rattle.log_text.specs.declared.Why.{Why}
use Rattle.log_text.specs.declared.Why.TheVariants.{UnknownWord, MissingNumber, NumberTooLarge, TooManyNumbers, NoPoolLine}
use Rattle.log_text.specs.Reading.{take_slots, line_of, Parsed, Parsed·log, Parsed·refused, parse_lines, parse}
use Rattle.log_text.specs.Printing.{slots_words, spaced, records_text, text_of, Printed·text, Printed·bad, print_records, print}

-- a comment, a blank line, several spaces, a tab, a carriage return, a leading zero, no newline at the end
abbrev six : List ℕ
six = ascii "# six lines\npool 64\n\nget 1 10\n  get\t3   12 limit 5 # waits\r\nrelease 008"

read_six : parse six ≡ Parsed·log (record { long = 64; order = fifo_order; records = Get 1 10 (negsuc 0) ∷ Get 3 12 (pos 5) ∷ Release 8 ∷ [] })
unfolding value_from all_digits span pieces nonempty same numeral_of take_slots line_of parse_lines parse limit_of
read_six = refl

-- every line that there is
abbrev all : List ℕ
all =
    ascii "pool 64 priority\n"
    ++ ascii "get 1 10\n"
    ++ ascii "get 3 12 limit 5\n"
    ++ ascii "get 3 12 priority 2\n"
    ++ ascii "get 3 12 limit 5 priority 2\n"
    ++ ascii "poll 5 4\n"
    ++ ascii "poll 5 4 priority 1\n"
    ++ ascii "release 8\n"
    ++ ascii "cancel 3\n"
    ++ ascii "tick\n"

abbrev all-log : Log
all-log =
    record {
      long = 64;
      order = priority_order;
      records =
          Get 1 10 (negsuc 0)
          ∷ Get 3 12 (pos 5)
          ∷ PriorityGet 3 12 (negsuc 0) 2
          ∷ PriorityGet 3 12 (pos 5) 2
          ∷ Poll 5 4
          ∷ PriorityPoll 5 4 1
          ∷ Release 8
          ∷ Cancel 3
          ∷ Tick
          ∷ [];
    }

read_all : parse all ≡ Parsed·log all-log
unfolding value_from all_digits span pieces nonempty same numeral_of take_slots line_of parse_lines parse limit_of
read_all = refl

print-all : text_of all-log ≡ all
unfolding digits limit_field slots_words spaced records_text
print-all = refl

-- lines that are refused, behind a pool line
abbrev behind : String → Parsed
behind line = parse (ascii "pool 9\n" ++ ascii line)

abbrev refused-lines : List String
refused-lines =
    "gte 1 10"
    ∷ "pool 64"
    ∷ "get 1"
    ∷ "get x 10"
    ∷ "get 1 10 limit"
    ∷ "get 1 limit 5"
    ∷ "get 1 4294967296"
    ∷ "get 1 2 limit 2147483648"
    ∷ "tick 1"
    ∷ "get 1 10 20"
    ∷ "get 1 10 soon"
    ∷ "get 1 10 priority 2 limit 5"
    ∷ []

abbrev reasons : List Why
reasons =
    UnknownWord
    ∷ UnknownWord
    ∷ MissingNumber
    ∷ MissingNumber
    ∷ MissingNumber
    ∷ MissingNumber
    ∷ NumberTooLarge
    ∷ NumberTooLarge
    ∷ TooManyNumbers
    ∷ TooManyNumbers
    ∷ UnknownWord
    ∷ UnknownWord
    ∷ []

refused : map behind refused-lines ≡ map (Parsed·refused 2) reasons
unfolding value_from all_digits span pieces nonempty same numeral_of take_slots line_of parse_lines parse
refused = refl

-- no pool line: an empty text, a comment alone, a record first
no_pool : map parse ([] ∷ ascii "#\n" ∷ ascii "tick" ∷ []) ≡ Parsed·refused 1 NoPoolLine ∷ Parsed·refused 2 NoPoolLine ∷ Parsed·refused 1 NoPoolLine ∷ []
unfolding value_from all_digits span pieces nonempty same numeral_of take_slots line_of parse_lines parse
no_pool = refl

-- the log of the examples
abbrev log : List ℕ
log =
    0x40 ∷ 0x01 ∷ 0x01 ∷ 0x0A ∷ 0x00 ∷ 0x01 ∷ 0x02 ∷ 0x14 ∷ 0x00 ∷ 0x02 ∷ 0x05 ∷ 0x0C ∷ 0x03 ∷ 0x08 ∷ 0x01 ∷ 0x03 ∷ 0x18 ∷ 0x00 ∷ 0x03 ∷ 0x1C ∷ []

-- its text
abbrev log-text : List ℕ
log-text = ascii "pool 64\nget 1 10\nget 2 20\npoll 5 12\nrelease 8\nget 3 24\nrelease 28\n"

print-log : print log ≡ Printed·text log-text
unfolding decode read_fields limit_of limit_field record_of start_of digits slots_words spaced print_records print
print-log = refl

-- the place of a record that can't be read
print_bad : print (0x40 ∷ 0x05 ∷ 0x09 ∷ []) ≡ Printed·bad 2
unfolding decode read_fields record_of start_of print_records print
print_bad = refl
