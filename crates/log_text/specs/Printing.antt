-- The canonical text of a log: a line for the pool and one for each record, one space between words, numbers in their shortest form.
use Rattle.std.specs.Prelude.{ℕ, zero, suc, ◌+◌, ◌-◌, ◌<◌, ◌≤◌, ◌≡◌, List, [], ◌∷◌, ◌++◌, true, cond, leb, ltb, length, Option, Some, None, Ok, Err}
use Rattle.model.specs.Rules.{ok_order}
use Rattle.numbers.specs.Number.{number_bound}
use Rattle.call_log.specs.declared.Record.{Record}
use Rattle.call_log.specs.declared.Record.TheVariants as variants
use Rattle.call_log.specs.declared.Start.{Start}
use Rattle.call_log.specs.Record.{limit_field, record_of}
use Rattle.call_log.specs.Log.{most_records, AllExpressible, start_of, Log}
use Rattle.text.specs.Ascii.{ascii}
use Rattle.text.specs.Decimal.{decimal}
use Rattle.log_text.specs.declared.Keyword.{Keyword}
use Rattle.log_text.specs.declared.Keyword.TheVariants.{Pool, Get, Poll, Release, Cancel, Tick}
use Rattle.log_text.specs.declared.Slot.{Slot}
use Rattle.log_text.specs.declared.Slot.TheVariants.{Number, Limit, Priority, Order}
pub use Rattle.log_text.specs.declared.Parts.{Parts}
use Rattle.log_text.specs.Form.{keyword_text, limit_text, priority_text, form}

-- ---- the words of a line

-- a first word and arguments
abbrev pub parts : Keyword → ℕ → ℕ → ℕ → ℕ → Parts
parts k a b c d = record { keyword = k; arguments = a ∷ b ∷ c ∷ d ∷ [] }

abbrev pub pool_parts : ℕ → ℕ → Parts
pool_parts n order = parts Pool n order 0 0

abbrev pub parts_of : Record → Parts
parts_of (variants.Get task size limit) = parts Get task size (limit_field limit) 0
parts_of (variants.Poll task size) = parts Poll task size 0 0
parts_of (variants.Release offset) = parts Release offset 0 0 0
parts_of (variants.Cancel task) = parts Cancel task 0 0 0
parts_of variants.Tick = parts Tick 0 0 0 0
parts_of (variants.PriorityGet task size limit priority) = parts Get task size (limit_field limit) (priority + 1)
parts_of (variants.PriorityPoll task size priority) = parts Poll task size (priority + 1) 0

-- the words of an option by its argument
abbrev pub option_words : List ℕ → ℕ → List (List ℕ)
option_words name zero = []
option_words name (suc v) = name ∷ decimal v ∷ []

abbrev pub flag_words : List ℕ → ℕ → List (List ℕ)
flag_words name zero = []
flag_words name (suc v) = name ∷ []

abbrev pub slot_words : Slot → ℕ → List (List ℕ)
slot_words Number v = decimal v ∷ []
slot_words Limit v = option_words limit_text v
slot_words Priority v = option_words priority_text v
slot_words Order v = flag_words priority_text v

unfoldable pub slots_words : List Slot → List ℕ → List (List ℕ)
slots_words [] vs = []
slots_words (s ∷ ss) [] = []
slots_words (s ∷ ss) (v ∷ vs) = slot_words s v ++ slots_words ss vs

abbrev pub line_words : Parts → List (List ℕ)
line_words p = keyword_text p.keyword ∷ slots_words (form p.keyword) p.arguments

-- ---- text

-- words with a space in front of each
unfoldable pub spaced : List (List ℕ) → List ℕ
spaced [] = []
spaced (w ∷ ws) = ascii " " ++ (w ++ spaced ws)

-- words with one space between them
abbrev pub joined : List (List ℕ) → List ℕ
joined [] = []
joined (w ∷ ws) = w ++ spaced ws

-- the line of words, with its newline
abbrev pub line_text : List (List ℕ) → List ℕ
line_text ws = joined ws ++ ascii "\n"

abbrev pub parts_text : Parts → List ℕ
parts_text p = line_text (line_words p)

-- the most bytes of a line: a get with four numbers of ten digits
abbrev pub longest_line : ℕ
longest_line = 63

unfoldable pub records_text : List Record → List ℕ
records_text [] = []
records_text (r ∷ rs) = parts_text (parts_of r) ++ records_text rs

-- a log that can be written, of no more records than a text may have
pub record Printable (l : Log) : Type 0 where
  pub small : l.long < number_bound
  pub known : ok_order l.order ≡ true
  pub all : AllExpressible l.records
  pub few : length l.records ≤ most_records

-- the canonical text of a log
abbrev pub text_of : Log → List ℕ
text_of l = parts_text (pool_parts l.long l.order) ++ records_text l.records

-- ---- the text of a log in bytes

-- the most bytes of a log that is printed: at most 6 for the start, and 21 for each of 4,096 records
abbrev pub longest_log : ℕ
longest_log = 86022

-- what a log gives: a text, or the place of the first record that can't be read, or that it has too many records or is too long
pub data Printed : Type 0 where
  Printed·text : List ℕ → Printed
  Printed·bad : ℕ → Printed
  Printed·tooMany : Printed
  Printed·tooLong : Printed

-- a text in front of another
abbrev pub in_front : List ℕ → Printed → Printed
in_front s (Printed·text t) = Printed·text (s ++ t)
in_front s (Printed·bad at) = Printed·bad at
in_front s Printed·tooMany = Printed·tooMany
in_front s Printed·tooLong = Printed·tooLong

-- The records of the rest of a log, from the place `at` on: its first `skip` bytes are passed over, and `count` records were read before.
unfoldable pub print_records : (skip at count : ℕ) → List ℕ → Printed
print_records skip at count [] = Printed·text []
print_records (suc n) at count (b ∷ s) = print_records n (at + 1) count s
print_records zero at count (b ∷ s) =
    elim (record_of (b ∷ s)) [
      | Ok (Some taken) ↦ cond (ltb count most_records) (in_front (parts_text (parts_of taken.record)) (print_records (taken.size - 1) (at + 1) (count + 1) s)) Printed·tooMany
      | Ok None ↦ Printed·text []
      | Err e ↦ Printed·bad at
    ]

abbrev pub print_start : Option Start → List ℕ → Printed
print_start (Some start) log = in_front (parts_text (pool_parts start.length start.order)) (print_records start.size 0 0 log)
print_start None log = Printed·bad 0

unfoldable pub print : List ℕ → Printed
print log = cond (leb (length log) longest_log) (print_start (start_of log) log) Printed·tooLong
