-- The most bytes of a line. Assumes nothing.
use Prim.Native.Nat.{ℕ, zero, suc, ◌+◌, ◌<◌, ◌≤◌}
use mathlib.Core.Path.{◌≡◌, refl}
use mathlib.Core.Bool.{true}
use mathlib.Core.List.{List, [], ◌∷◌, ◌++◌, append_assoc, append-nil}
use native.Mathlib.Omega.{arith}
use lib.ListN.{length, length-append}
use Rattle.model.specs.Rules.{ok_order}
use Rattle.numbers.specs.Number.{number_bound}
use Rattle.call_log.specs.declared.Record.{Record}
use Rattle.call_log.specs.Record.{Expressible}
use Rattle.text.specs.Decimal.{decimal}
use Rattle.text.proofs.Decimal.{length_half}
use Rattle.log_text.specs.declared.Keyword.{Keyword}
use Rattle.log_text.specs.declared.Keyword.TheVariants.{Pool, Get, Poll, Release, Cancel, Tick, Unknown}
use Rattle.log_text.specs.declared.Slot.{Slot}
use Rattle.log_text.specs.declared.Slot.TheVariants.{Number, Limit, Priority, Order}
use Rattle.log_text.specs.declared.Parts.{Parts}
use Rattle.log_text.specs.Form.{keyword_text, form, slot_most, Bounded}
use Rattle.log_text.specs.Printing.{pool_parts, parts_of, slot_words, slots_words, spaced, parts_text, longest_line}
use Rattle.log_text.proofs.Bounds.{record-bounded, pool-bounded}

pub spaced-append : (vs ws : List (List ℕ)) → spaced (vs ++ ws) ≡ spaced vs ++ spaced ws
unfolding spaced
spaced-append [] ws = refl
spaced-append (v ∷ vs) ws = rw (spaced-append vs ws, append_assoc v (spaced vs) (spaced ws))

-- the most bytes of a slot, with its spaces
abbrev slot_room : Slot → ℕ
slot_room Number = 11
slot_room Limit = 17
slot_room Priority = 20
slot_room Order = 9

slot_short : (s : Slot) (v : ℕ) → v ≤ slot_most s → length (spaced (slot_words s v)) ≤ slot_room s
unfolding spaced
slot_short Number v h = rw (append-nil (decimal v)) (omega (arith, length_half v (omega arith)))
slot_short Limit zero h = omega arith
slot_short Limit (suc v) h = rw (append-nil (decimal v)) (omega (arith, length_half v (omega arith)))
slot_short Priority zero h = omega arith
slot_short Priority (suc v) h = rw (append-nil (decimal v)) (omega (arith, length_half v (omega arith)))
slot_short Order zero h = omega arith
slot_short Order (suc v) h = omega arith

abbrev slots_room : List Slot → ℕ
slots_room [] = 0
slots_room (s ∷ ss) = slot_room s + slots_room ss

slots_short : (ss : List Slot) (vs : List ℕ) → Bounded ss vs → length (spaced (slots_words ss vs)) ≤ slots_room ss
unfolding slots_words spaced
slots_short [] vs h = omega arith
slots_short (s ∷ ss) [] h = omega arith
slots_short (s ∷ ss) (v ∷ vs) h =
    rw (spaced-append (slot_words s v) (slots_words ss vs), length-append (spaced (slot_words s v)) (spaced (slots_words ss vs)))
    (omega (arith, slot_short s v (h.most 0 (omega arith)), slots_short ss vs (record { most = λ i l. h.most (suc i) (omega arith) })))

keyword_short : (k : Keyword) → length (keyword_text k) + slots_room (form k) + 1 ≤ longest_line
keyword_short Pool = omega arith
keyword_short Get = omega arith
keyword_short Poll = omega arith
keyword_short Release = omega arith
keyword_short Cancel = omega arith
keyword_short Tick = omega arith
keyword_short Unknown = omega arith

line-short : (p : Parts) → Bounded (form p.keyword) p.arguments → length (parts_text p) ≤ longest_line
line-short p h = simp length-append (omega (arith, slots_short (form p.keyword) p.arguments h, keyword_short p.keyword))

-- the line of a record that was read, and that of the pool
pub record-short : (r : Record) → Expressible r → length (parts_text (parts_of r)) ≤ longest_line
record-short r x = line-short (parts_of r) (record-bounded r x)

pub pool-short : (n order : ℕ) → n < number_bound → ok_order order ≡ true → length (parts_text (pool_parts n order)) ≤ longest_line
pool-short n order h k = line-short (pool_parts n order) (pool-bounded n order h k)
