-- How a text is read: line by line, the words of a line from left to right.
use Rattle.std.specs.Prelude.{ℕ, zero, suc, ◌+◌, List, [], ◌∷◌, ◌++◌, Bool, true, false, cond, leb, ltb, ℤ, length, get_or, Result, Ok, Err}
use Rattle.std.proofs.Math.Option.{Option, none, some}
use Rattle.model.specs.Limits.{fifo_order, priority_order}
use Rattle.call_log.specs.declared.Record.{Record}
use Rattle.call_log.specs.declared.Record.TheVariants as record_of
use Rattle.call_log.specs.Record.{limit_of}
use Rattle.call_log.specs.Log.{most_records, Log}
use Rattle.text.specs.declared.words.NumeralError.{NumeralError}
use Rattle.text.specs.declared.words.NumeralError.TheVariants.{TooLarge, NotDigits}
use Rattle.text.specs.Words.{lines_of, words_of, same, numeral_of}
use Rattle.log_text.specs.declared.Keyword.{Keyword}
use Rattle.log_text.specs.declared.Keyword.TheVariants as keyword
use Rattle.log_text.specs.declared.Slot.{Slot}
use Rattle.log_text.specs.declared.Slot.TheVariants.{Number, Limit, Priority, Order}
use Rattle.log_text.specs.declared.Why.{Why}
use Rattle.log_text.specs.declared.Why.TheVariants.{UnknownWord, MissingNumber, NumberTooLarge, TooManyNumbers, NoPoolLine, TooManyRecords}
use Rattle.log_text.specs.declared.Line.{Line}
use Rattle.log_text.specs.declared.Line.TheVariants.{Blank, Pool, Call}
use Rattle.log_text.specs.Form.{keyword_text, limit_text, priority_text, form, number_most, limit_most}

-- ---- the slots of a line

-- what a slot takes from the words: its argument, with the words behind it, or why it can't
abbrev pub Taken : Type 0
Taken = Result (ℕ × List (List ℕ)) Why

abbrev pub by_numeral : Result ℕ NumeralError → List (List ℕ) → Taken
by_numeral (Ok v) ws = Ok (v, ws)
by_numeral (Err TooLarge) ws = Err NumberTooLarge
by_numeral (Err NotDigits) ws = Err MissingNumber

-- a number
abbrev pub take_number : ℕ → List (List ℕ) → Taken
take_number most [] = Err MissingNumber
take_number most (w ∷ ws) = by_numeral (numeral_of most w) ws

-- the argument of an option that is there
abbrev pub plus_one : Taken → Taken
plus_one (Ok (v, ws)) = Ok (v + 1, ws)
plus_one (Err why) = Err why

-- a word and a number, or nothing
abbrev pub take_option : List ℕ → ℕ → List (List ℕ) → Taken
take_option name most [] = Ok (0, [])
take_option name most (w ∷ ws) = cond (same w name) (plus_one (take_number most ws)) (Ok (0, w ∷ ws))

-- a word, or nothing
abbrev pub take_word : List ℕ → List (List ℕ) → Taken
take_word name [] = Ok (0, [])
take_word name (w ∷ ws) = cond (same w name) (Ok (1, ws)) (Ok (0, w ∷ ws))

abbrev pub take_slot : Slot → List (List ℕ) → Taken
take_slot Number ws = take_number number_most ws
take_slot Limit ws = take_option limit_text limit_most ws
take_slot Priority ws = take_option priority_text number_most ws
take_slot Order ws = take_word priority_text ws

-- the arguments of slots one after another, with the words behind them, or why one can't be taken
abbrev pub Arguments : Type 0
Arguments = Result (List ℕ × List (List ℕ)) Why

-- arguments in front of others
abbrev pub before : List ℕ → Arguments → Arguments
before vs (Ok (us, ws)) = Ok (vs ++ us, ws)
before vs (Err why) = Err why

-- an argument, and the others from the words behind it
abbrev pub first : Taken → (List (List ℕ) → Arguments) → Arguments
first (Ok (v, ws)) rest = before (v ∷ []) (rest ws)
first (Err why) rest = Err why

unfoldable pub take_slots : List Slot → List (List ℕ) → Arguments
take_slots [] ws = Ok ([], ws)
take_slots (s ∷ ss) ws = first (take_slot s ws) λ rest. take_slots ss rest

-- ---- a line

-- a get or poll has a priority where that argument is not 0
abbrev pub get_with : ℕ → ℕ → ℤ → ℕ → Record
get_with task size limit zero = record_of.Get task size limit
get_with task size limit (suc priority) = record_of.PriorityGet task size limit priority

abbrev pub poll_with : ℕ → ℕ → ℕ → Record
poll_with task size zero = record_of.Poll task size
poll_with task size (suc priority) = record_of.PriorityPoll task size priority

abbrev pub order_with : ℕ → ℕ
order_with zero = fifo_order
order_with (suc n) = priority_order

-- what a line says, from its first word and the arguments a, b, c and d, as many as it has slots
abbrev pub line_from : Keyword → ℕ → ℕ → ℕ → ℕ → Result Line Why
line_from keyword.Pool n order c d = Ok (Pool n (order_with order))
line_from keyword.Get task size limit priority = Ok (Call (get_with task size (limit_of limit) priority))
line_from keyword.Poll task size priority d = Ok (Call (poll_with task size priority))
line_from keyword.Release offset b c d = Ok (Call (record_of.Release offset))
line_from keyword.Cancel task b c d = Ok (Call (record_of.Cancel task))
line_from keyword.Tick a b c d = Ok (Call record_of.Tick)
line_from keyword.Unknown a b c d = Err UnknownWord

-- a word where the line should end
abbrev pub extra : Result ℕ NumeralError → Why
extra (Ok v) = TooManyNumbers
extra (Err TooLarge) = TooManyNumbers
extra (Err NotDigits) = UnknownWord

abbrev pub made : Keyword → Arguments → Result Line Why
made k (Ok (vs, [])) = line_from k (get_or vs 0 0) (get_or vs 1 0) (get_or vs 2 0) (get_or vs 3 0)
made k (Ok (vs, w ∷ ws)) = Err (extra (numeral_of number_most w))
made k (Err why) = Err why

-- the first word of a line: before the pool line only `pool` may stand, behind it only the words of the calls
abbrev pub keyword_of : Bool → List ℕ → Keyword
keyword_of false w = cond (same w (keyword_text keyword.Pool)) keyword.Pool keyword.Unknown
keyword_of true w =
    cond (same w (keyword_text keyword.Get)) keyword.Get
    (cond (same w (keyword_text keyword.Poll)) keyword.Poll
    (cond (same w (keyword_text keyword.Release)) keyword.Release
    (cond (same w (keyword_text keyword.Cancel)) keyword.Cancel
    (cond (same w (keyword_text keyword.Tick)) keyword.Tick keyword.Unknown))))

abbrev pub unknown : Bool → Why
unknown false = NoPoolLine
unknown true = UnknownWord

abbrev pub is_known : Keyword → Bool
is_known keyword.Pool = true
is_known keyword.Get = true
is_known keyword.Poll = true
is_known keyword.Release = true
is_known keyword.Cancel = true
is_known keyword.Tick = true
is_known keyword.Unknown = false

abbrev pub line_by : Bool → Keyword → List (List ℕ) → Result Line Why
line_by begun k ws = cond (is_known k) (made k (take_slots (form k) ws)) (Err (unknown begun))

-- what the words of a line say, before the pool line and behind it
unfoldable pub line_of : Bool → List (List ℕ) → Result Line Why
line_of begun [] = Ok Blank
line_of begun (w ∷ ws) = line_by begun (keyword_of begun w) ws

-- ---- a text

-- what was read so far: nothing before the pool line, then a log
abbrev pub is_begun : Option Log → Bool
is_begun none = false
is_begun (some l) = true

abbrev pub record_count : Option Log → ℕ
record_count none = 0
record_count (some l) = length l.records

-- a record behind the last one that can be taken
abbrev pub limited : ℕ → Result Line Why → Result Line Why
limited count (Ok Blank) = Ok Blank
limited count (Ok (Pool n order)) = Ok (Pool n order)
limited count (Ok (Call r)) = cond (ltb count most_records) (Ok (Call r)) (Err TooManyRecords)
limited count (Err why) = Err why

-- the next line
abbrev pub line_after : Option Log → List ℕ → Result Line Why
line_after x l = limited (record_count x) (line_of (is_begun x) (words_of l))

-- what was read with that line
abbrev pub with_record : Option Log → Record → Option Log
with_record none r = none
with_record (some l) r = some (record { long = l.long; order = l.order; records = l.records ++ (r ∷ []) })

abbrev pub with_line : Option Log → Result Line Why → Option Log
with_line x (Ok Blank) = x
with_line x (Ok (Pool n order)) = some (record { long = n; order = order; records = [] })
with_line x (Ok (Call r)) = with_record x r
with_line x (Err why) = x

-- what a text gives: a log, or the number of the first line that can't be taken and why, or that it is too long
pub data Parsed : Type 0 where
  Parsed·log : Log → Parsed
  Parsed·refused : ℕ → Why → Parsed
  Parsed·tooLong : Parsed

-- the end of the text, behind line number k - 1
abbrev pub at_end : ℕ → Option Log → Parsed
at_end k none = Parsed·refused k NoPoolLine
at_end k (some l) = Parsed·log l

abbrev pub go_on : ℕ → Result Line Why → Parsed → Parsed
go_on k (Ok line) rest = rest
go_on k (Err why) rest = Parsed·refused k why

-- the lines from number k on
unfoldable pub parse_lines : ℕ → Option Log → List (List ℕ) → Parsed
parse_lines k x [] = at_end k x
parse_lines k x (l ∷ ls) = go_on k (line_after x l) (parse_lines (k + 1) (with_line x (line_after x l)) ls)

-- the most bytes of a text
abbrev pub longest_text : ℕ
longest_text = 1048576

unfoldable pub parse : List ℕ → Parsed
parse text = cond (leb (length text) longest_text) (parse_lines 1 none (lines_of text)) Parsed·tooLong
