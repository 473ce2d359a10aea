-- What is printed is read: the words of a line, and the lines of a text. Assumes nothing.
use Prim.Native.Nat.{ℕ, zero, suc, ◌+◌, ◌*◌, ◌<◌, ◌≤◌}
use mathlib.Core.Path.{◌≡◌, refl, ◌∙◌}
use mathlib.Core.Bool.{true, false}
use mathlib.Core.List.{List, [], ◌∷◌, ◌++◌, append_assoc, append-nil}
use mathlib.Core.Option.{none, some}
use native.Mathlib.Omega.{arith}
use native.Mathlib.Numerals.{add-one}
use lib.ListN.{length, length-append}
use borrow.Author.Tests.{le-leb, lt-ltb}
use Rattle.std.specs.Prelude.{Ok}
use Rattle.model.specs.Rules.{ok_order}
use Rattle.numbers.specs.Number.{number_bound}
use Rattle.call_log.specs.declared.Record.{Record}
use Rattle.call_log.specs.declared.Record.TheVariants as record_of
use Rattle.call_log.specs.Record.{limit_of, limit_field, Expressible}
use Rattle.call_log.specs.Log.{most_records, AllExpressible, Log}
use Rattle.call_log.proofs.Forms.{limit_field_lem}
use Rattle.text.specs.Decimal.{decimal}
use Rattle.text.specs.Words.{pieces, lines_of, words_of, same, numeral_of}
use Rattle.text.proofs.Decimal.{decimal-digits}
use Rattle.text.proofs.Spans.{every}
use Rattle.text.proofs.Theorems.{value_decimal}
use Rattle.log_text.specs.declared.Keyword.TheVariants as keyword
use Rattle.log_text.specs.declared.Slot.{Slot}
use Rattle.log_text.specs.declared.Slot.TheVariants.{Number, Limit, Priority, Order}
use Rattle.log_text.specs.declared.Line.TheVariants.{Pool, Call}
use Rattle.log_text.specs.declared.Parts.{Parts}
use Rattle.log_text.specs.Form.{keyword_text, limit_text, priority_text, form, number_most, limit_most, Bounded}
use Rattle.log_text.specs.Reading.{take_slots, get_with, poll_with, line_of, line_after, Parsed·log, parse_lines, longest_text, parse}
use Rattle.log_text.specs.Printing.{parts, pool_parts, parts_of, slot_words, slots_words, line_words, joined, parts_text, longest_line, records_text, Printable, text_of}
use Rattle.log_text.proofs.Bounds.{record-bounded, pool-bounded}
use Rattle.log_text.proofs.Widths.{record-short, pool-short}
use Rattle.log_text.proofs.Joining.{Wordy, wordy_decimal, AllWordy, words-joined, lines-joined}

-- ---- the words of a line

numeral_decimal : (most v : ℕ) → v ≤ most → numeral_of most (decimal v) ≡ Ok v
unfolding numeral_of
numeral_decimal most v h = rw (decimal-digits v, value_decimal v, le-leb v most h)

get-line : (t s f p : ℕ) → Bounded (form keyword.Get) (t ∷ s ∷ f ∷ p ∷ []) → line_of true (line_words (parts keyword.Get t s f p)) ≡ Ok (Call (get_with t s (limit_of f) p))
unfolding line_of take_slots same slots_words
get-line t s zero zero b = rw (numeral_decimal number_most t (b.most 0 (omega arith)), numeral_decimal number_most s (b.most 1 (omega arith)))
get-line t s (suc f) zero b =
    rw (numeral_decimal number_most t (b.most 0 (omega arith)), numeral_decimal number_most s (b.most 1 (omega arith)), numeral_decimal limit_most f (omega (arith, b.most 2 (omega arith))), add-one f)
get-line t s zero (suc p) b =
    rw (numeral_decimal number_most t (b.most 0 (omega arith)), numeral_decimal number_most s (b.most 1 (omega arith)), numeral_decimal number_most p (omega (arith, b.most 3 (omega arith))), add-one p)
get-line t s (suc f) (suc p) b =
    rw (
      numeral_decimal number_most t (b.most 0 (omega arith)),
      numeral_decimal number_most s (b.most 1 (omega arith)),
      numeral_decimal limit_most f (omega (arith, b.most 2 (omega arith))),
      numeral_decimal number_most p (omega (arith, b.most 3 (omega arith))),
      add-one f,
      add-one p,
    )

poll-line : (t s p : ℕ) → Bounded (form keyword.Poll) (t ∷ s ∷ p ∷ 0 ∷ []) → line_of true (line_words (parts keyword.Poll t s p 0)) ≡ Ok (Call (poll_with t s p))
unfolding line_of take_slots same slots_words
poll-line t s zero b = rw (numeral_decimal number_most t (b.most 0 (omega arith)), numeral_decimal number_most s (b.most 1 (omega arith)))
poll-line t s (suc p) b =
    rw (numeral_decimal number_most t (b.most 0 (omega arith)), numeral_decimal number_most s (b.most 1 (omega arith)), numeral_decimal number_most p (omega (arith, b.most 2 (omega arith))), add-one p)

record-line : (r : Record) → Expressible r → line_of true (line_words (parts_of r)) ≡ Ok (Call r)
unfolding line_of take_slots same slots_words
record-line (record_of.Get task size limit) x =
    get-line task size (limit_field limit) 0 (record-bounded (record_of.Get task size limit) x) ∙ rw (limit_field_lem limit x.limited).0
record-line (record_of.Poll task size) x = poll-line task size 0 (record-bounded (record_of.Poll task size) x)
record-line (record_of.Release offset) x = rw (numeral_decimal number_most offset ((record-bounded (record_of.Release offset) x).most 0 (omega arith)))
record-line (record_of.Cancel task) x = rw (numeral_decimal number_most task ((record-bounded (record_of.Cancel task) x).most 0 (omega arith)))
record-line record_of.Tick x = refl
record-line (record_of.PriorityGet task size limit priority) x =
    get-line task size (limit_field limit) (priority + 1) (record-bounded (record_of.PriorityGet task size limit priority) x) ∙ rw ((limit_field_lem limit x.limited).0, add-one priority)
record-line (record_of.PriorityPoll task size priority) x =
    poll-line task size (priority + 1) (record-bounded (record_of.PriorityPoll task size priority) x) ∙ rw (add-one priority)

pool-line : (n order : ℕ) → n < number_bound → ok_order order ≡ true → line_of false (line_words (pool_parts n order)) ≡ Ok (Pool n order)
unfolding line_of take_slots same slots_words
pool-line n zero h k = rw (numeral_decimal number_most n (omega arith))
pool-line n (suc zero) h k = rw (numeral_decimal number_most n (omega arith))
pool-line n (suc (suc order)) h k = absurd (omega (arith, (pool-bounded n (suc (suc order)) h k).most 1 (omega arith)))

-- ---- words

wordy_append : (vs ws : List (List ℕ)) → AllWordy vs → AllWordy ws → AllWordy (vs ++ ws)
unfolding AllWordy
wordy_append [] ws a b = b
wordy_append (v ∷ vs) ws a b = (a.0, wordy_append vs ws a.1 b)

wordy_name : Wordy limit_text × Wordy priority_text
unfolding every
wordy_name = (record { some = omega arith; line = refl; plain = refl; word = refl }, record { some = omega arith; line = refl; plain = refl; word = refl })

slot_wordy : (s : Slot) (v : ℕ) → AllWordy (slot_words s v)
unfolding AllWordy
slot_wordy Number v = (wordy_decimal v, tt)
slot_wordy Limit zero = tt
slot_wordy Limit (suc v) = (wordy_name.0, (wordy_decimal v, tt))
slot_wordy Priority zero = tt
slot_wordy Priority (suc v) = (wordy_name.1, (wordy_decimal v, tt))
slot_wordy Order zero = tt
slot_wordy Order (suc v) = (wordy_name.1, tt)

slots_wordy : (ss : List Slot) (vs : List ℕ) → AllWordy (slots_words ss vs)
unfolding AllWordy slots_words
slots_wordy [] vs = tt
slots_wordy (s ∷ ss) [] = tt
slots_wordy (s ∷ ss) (v ∷ vs) = wordy_append (slot_words s v) (slots_words ss vs) (slot_wordy s v) (slots_wordy ss vs)

pub record_wordy : (r : Record) → Wordy (keyword_text (parts_of r).keyword)
unfolding every
record_wordy (record_of.Get task size limit) = record { some = omega arith; line = refl; plain = refl; word = refl }
record_wordy (record_of.Poll task size) = record { some = omega arith; line = refl; plain = refl; word = refl }
record_wordy (record_of.Release offset) = record { some = omega arith; line = refl; plain = refl; word = refl }
record_wordy (record_of.Cancel task) = record { some = omega arith; line = refl; plain = refl; word = refl }
record_wordy record_of.Tick = record { some = omega arith; line = refl; plain = refl; word = refl }
record_wordy (record_of.PriorityGet task size limit priority) = record { some = omega arith; line = refl; plain = refl; word = refl }
record_wordy (record_of.PriorityPoll task size priority) = record { some = omega arith; line = refl; plain = refl; word = refl }

pub pool_wordy : Wordy (keyword_text keyword.Pool)
unfolding every
pool_wordy = record { some = omega arith; line = refl; plain = refl; word = refl }

-- the line of a record, and its words
module _ (p : Parts) (a : Wordy (keyword_text p.keyword)) where
  pub line-words : words_of (joined (line_words p)) ≡ line_words p
  line-words = words-joined (keyword_text p.keyword) (slots_words (form p.keyword) p.arguments) a (slots_wordy (form p.keyword) p.arguments)

  pub line-lines : (s : List ℕ) → lines_of (parts_text p ++ s) ≡ joined (line_words p) ∷ lines_of s
  line-lines s = lines-joined (keyword_text p.keyword) (slots_words (form p.keyword) p.arguments) s a (slots_wordy (form p.keyword) p.arguments)

-- ---- the lines of a text

-- a log with records behind its own
abbrev with_records : Log → List Record → Log
with_records l rs = record { long = l.long; order = l.order; records = l.records ++ rs }

record-after : (r : Record) (l : Log) → Expressible r → length l.records < most_records → line_after (some l) (joined (line_words (parts_of r))) ≡ Ok (Call r)
record-after r l x h = rw (line-words (parts_of r) (record_wordy r), record-line r x, lt-ltb (length l.records) most_records h)

records_read : (rs : List Record) (k : ℕ) (l : Log) → AllExpressible rs → length l.records + length rs ≤ most_records
    → parse_lines k (some l) (lines_of (records_text rs)) ≡ Parsed·log (with_records l rs)
unfolding parse_lines pieces records_text AllExpressible
records_read [] k l x h = rw (append-nil l.records)
records_read (r ∷ rs) k l x h =
    let few : length (with_records l (r ∷ [])).records + length rs ≤ most_records = simp length-append (omega arith) in
    rw (
      line-lines (parts_of r) (record_wordy r) (records_text rs),
      record-after r l x.0 (omega arith),
      records_read rs (k + 1) (with_records l (r ∷ [])) x.1 few,
      append_assoc l.records (r ∷ []) rs,
    )

records-most : (rs : List Record) → AllExpressible rs → length (records_text rs) ≤ longest_line * length rs
unfolding records_text AllExpressible
records-most [] x = omega arith
records-most (r ∷ rs) x = omega (arith, length-append (parts_text (parts_of r)) (records_text rs), record-short r x.0, records-most rs x.1)

-- a text has at most 258,111 bytes
pub text-most : (l : Log) → Printable l → length (text_of l) ≤ longest_line + longest_line * length l.records
text-most l s =
    omega (arith, length-append (parts_text (pool_parts l.long l.order)) (records_text l.records), pool-short l.long l.order s.small s.known, records-most l.records s.all)

pool-after : (n order : ℕ) → n < number_bound → ok_order order ≡ true → line_after none (joined (line_words (pool_parts n order))) ≡ Ok (Pool n order)
pool-after n order h k = rw (line-words (pool_parts n order) pool_wordy, pool-line n order h k)

-- and is read
pub text_read : (l : Log) → Printable l → parse (text_of l) ≡ Parsed·log l
unfolding parse parse_lines
text_read l s =
    rw (
      le-leb (length (text_of l)) longest_text (omega (arith, text-most l s, s.few)),
      line-lines (pool_parts l.long l.order) pool_wordy (records_text l.records),
      pool-after l.long l.order s.small s.known,
    )
    (records_read l.records 2 (record { long = l.long; order = l.order; records = [] }) s.all (omega (arith, s.few)))
