-- What is read is not too large, and what is printed: the arguments of slots, and the records that they give. Assumes nothing.
use Prim.Native.Nat.{ℕ, zero, suc, ◌+◌, ◌<◌, ◌≤◌}
use mathlib.Core.Path.{◌≡◌, refl, ap}
use mathlib.Core.Bool.{true}
use mathlib.Core.List.{List, [], ◌∷◌}
use native.Mathlib.Omega.{arith}
use lib.Dec.{leb, eqb}
use lib.ListN.{length, get_or}
use borrow.Author.Tests.{leb-true, eqb-true}
use Rattle.std.specs.Prelude.{Result, Ok, Err}
use Rattle.model.specs.Limits.{fifo_order}
use Rattle.model.specs.Rules.{ok_order}
use Rattle.model.proofs.Tests.{by}
use Rattle.numbers.specs.Number.{number_bound}
use Rattle.call_log.specs.declared.Record.{Record}
use Rattle.call_log.specs.declared.Record.TheVariants as record_of
use Rattle.call_log.specs.Record.{limit_of, limit_field, fields_of, Expressible}
use Rattle.call_log.proofs.Forms.{field_limit, limit_field_lem}
use Rattle.text.specs.declared.words.NumeralError.{NumeralError}
use Rattle.text.specs.declared.words.NumeralError.TheVariants.{TooLarge, NotDigits}
use Rattle.text.specs.Decimal.{value_of, all_digits}
use Rattle.text.specs.Words.{same, numeral_of}
use Rattle.log_text.specs.declared.Keyword.{Keyword}
use Rattle.log_text.specs.declared.Keyword.TheVariants as keyword
use Rattle.log_text.specs.declared.Slot.{Slot}
use Rattle.log_text.specs.declared.Slot.TheVariants.{Number, Limit, Priority, Order}
use Rattle.log_text.specs.declared.Line.TheVariants as line
use Rattle.log_text.specs.Form.{limit_text, priority_text, form, number_most, limit_most, slot_most, Bounded}
use Rattle.log_text.specs.Reading.{Taken, Arguments, by_numeral, take_number, plus_one, take_option, take_word, take_slot, before, first, take_slots, line_from}
use Rattle.log_text.specs.Printing.{pool_parts, parts_of}

-- the parts of a pair
pub ok_parts : {X Y E : Type 0} {a c : X} {b d : Y} → ◌≡◌ {A = Result (X × Y) E} (Ok (a, b)) (Ok (c, d)) → (a ≡ c) × (b ≡ d)
ok_parts {X} {Y} {E} {a} {c} {b} {d} e = let q : ◌≡◌ {A = X × Y} (a, b) (c, d) = cc in (ap (λ p. p.0) q, ap (λ p. p.1) q)

-- ---- the argument of a slot

numeral_most : (most : ℕ) (w : List ℕ) (v : ℕ) → numeral_of most w ≡ Ok v → v ≤ most
unfolding numeral_of
numeral_most most w v e = by (all_digits w) digits (λ h. absurd (other (rw h at e)))
  where
    other : Err NotDigits ≡ Ok v → ⊥
    other q = cc

    large : Err TooLarge ≡ Ok v → ⊥
    large q = cc

    digits : all_digits w ≡ true → v ≤ most
    digits h =
        let f = rw h at e in
        by (leb (value_of w) most)
        (λ k. let g = rw k at f in let q : value_of w ≡ v = cc in omega (arith, leb-true (value_of w) most k))
        (λ k. absurd (large (rw k at f)))

by_most : (most : ℕ) (w : List ℕ) (x : Result ℕ NumeralError) → numeral_of most w ≡ x → (ws : List (List ℕ)) {v : ℕ} {rest : List (List ℕ)} → by_numeral x ws ≡ Ok (v, rest) → v ≤ most
by_most most w (Ok u) q ws {v} e = let same = (ok_parts e).0 in rw (← same) (numeral_most most w u q)
by_most most w (Err TooLarge) q ws e = cc
by_most most w (Err NotDigits) q ws e = cc

pub number_most_lem : (most : ℕ) (ws : List (List ℕ)) {v : ℕ} {rest : List (List ℕ)} → take_number most ws ≡ Ok (v, rest) → v ≤ most
number_most_lem most [] e = cc
number_most_lem most (w ∷ ws) e = by_most most w (numeral_of most w) refl ws e

plus_most : (most : ℕ) (ws : List (List ℕ)) (x : Taken) → take_number most ws ≡ x → {v : ℕ} {rest : List (List ℕ)} → plus_one x ≡ Ok (v, rest) → v ≤ most + 1
plus_most most ws (Ok (u, us)) q {v} e = let same = (ok_parts e).0 in omega (arith, number_most_lem most ws q)
plus_most most ws (Err why) q e = cc

option_most : (name : List ℕ) (most : ℕ) (ws : List (List ℕ)) {v : ℕ} {rest : List (List ℕ)} → take_option name most ws ≡ Ok (v, rest) → v ≤ most + 1
option_most name most [] e = let same = (ok_parts e).0 in omega arith
option_most name most (w ∷ ws) {v} e =
    by (same w name)
    (λ h. plus_most most ws (take_number most ws) refl (rw h at e))
    (λ h. let same = (ok_parts (rw h at e)).0 in omega arith)

flag_most : (name : List ℕ) (ws : List (List ℕ)) {v : ℕ} {rest : List (List ℕ)} → take_word name ws ≡ Ok (v, rest) → v ≤ 1
flag_most name [] e = let same = (ok_parts e).0 in omega arith
flag_most name (w ∷ ws) {v} e =
    by (same w name)
    (λ h. let same = (ok_parts (rw h at e)).0 in omega arith)
    (λ h. let same = (ok_parts (rw h at e)).0 in omega arith)

slot_most_lem : (s : Slot) (ws : List (List ℕ)) {v : ℕ} {rest : List (List ℕ)} → take_slot s ws ≡ Ok (v, rest) → v ≤ slot_most s
slot_most_lem Number ws e = number_most_lem number_most ws e
slot_most_lem Limit ws e = option_most limit_text limit_most ws e
slot_most_lem Priority ws e = option_most priority_text number_most ws e
slot_most_lem Order ws e = flag_most priority_text ws e

-- ---- the arguments of a line

-- what an argument in front of others comes from
pub record Headed (v : ℕ) (x : Arguments) (vs : List ℕ) (rest : List (List ℕ)) : Type 0 where
  pub tail : List ℕ
  pub others : x ≡ Ok (tail, rest)
  pub whole : v ∷ tail ≡ vs

pub headed : (v : ℕ) (x : Arguments) {vs : List ℕ} {rest : List (List ℕ)} → before (v ∷ []) x ≡ Ok (vs, rest) → Headed v x vs rest
headed v (Ok (us, ws)) e = let q = ok_parts e in record { tail = us; others = ap (λ ts. Ok (us, ts)) q.1; whole = q.0 }
headed v (Err why) e = cc

-- induction over the slots that are taken
module _ (P : List Slot → List (List ℕ) → List ℕ → List (List ℕ) → Type 0)
    (none : (ws : List (List ℕ)) → P [] ws [] ws)
    (more : (s : Slot) (ss : List Slot) (ws mid rest : List (List ℕ)) (v : ℕ) (vs : List ℕ) → take_slot s ws ≡ Ok (v, mid) → P ss mid vs rest → P (s ∷ ss) ws (v ∷ vs) rest) where
  at_slot : (s : Slot) (ss : List Slot) (ws : List (List ℕ)) (vs : List ℕ) (rest : List (List ℕ))
      → ((us : List (List ℕ)) (ts : List ℕ) → take_slots ss us ≡ Ok (ts, rest) → P ss us ts rest)
      → (x : Taken) → take_slot s ws ≡ x → first x (λ us. take_slots ss us) ≡ Ok (vs, rest) → P (s ∷ ss) ws vs rest
  at_slot s ss ws vs rest ih (Err why) q e = cc
  at_slot s ss ws vs rest ih (Ok (v, mid)) q e =
      let h = headed v (take_slots ss mid) e in rw (← h.whole) (more s ss ws mid rest v h.tail q (ih mid h.tail h.others))

  pub slots_ind : (ss : List Slot) (ws : List (List ℕ)) (vs : List ℕ) (rest : List (List ℕ)) → take_slots ss ws ≡ Ok (vs, rest) → P ss ws vs rest
  unfolding take_slots
  slots_ind [] ws vs rest e = let q = ok_parts e in rw (← q.0, ← q.1) (none ws)
  slots_ind (s ∷ ss) ws vs rest e = at_slot s ss ws vs rest (λ us ts. slots_ind ss us ts rest) (take_slot s ws) refl e

-- each is one that its slot can have
pub slots_bounded : (ss : List Slot) (ws : List (List ℕ)) (vs : List ℕ) (rest : List (List ℕ)) → take_slots ss ws ≡ Ok (vs, rest) → Bounded ss vs
slots_bounded = slots_ind (λ ss ws vs rest. Bounded ss vs) (λ ws. record { most = λ i h. absurd (omega arith) }) next
  where
    at : (s : Slot) (ss : List Slot) (v : ℕ) (vs : List ℕ) → v ≤ slot_most s → Bounded ss vs → (i : ℕ) → i < length (s ∷ ss) → get_or (v ∷ vs) i 0 ≤ slot_most (get_or (s ∷ ss) i Number)
    at s ss v vs h b zero k = h
    at s ss v vs h b (suc i) k = b.most i (omega arith)

    next : (s : Slot) (ss : List Slot) (ws mid rest : List (List ℕ)) (v : ℕ) (vs : List ℕ) → take_slot s ws ≡ Ok (v, mid) → Bounded ss vs → Bounded (s ∷ ss) (v ∷ vs)
    next s ss ws mid rest v vs e b = record { most = at s ss v vs (slot_most_lem s ws e) b }

-- ---- the record of a line

get_expressible : (task size limit priority : ℕ) → Bounded (form keyword.Get) (task ∷ size ∷ limit ∷ priority ∷ []) → (r : Record) → line_from keyword.Get task size limit priority ≡ Ok (line.Call r) → Expressible r
unfolding fields_of
get_expressible task size limit zero b r e =
    let l = field_limit limit (b.most 2 (omega arith)) in
    let q : record_of.Get task size (limit_of limit) ≡ r = cc in
    rw (← q) (record { small = rw l.0 (omega arith, (omega (arith, b.most 0 (omega arith)), (omega (arith, b.most 1 (omega arith)), (omega (arith, b.most 2 (omega arith)), tt)))); limited = l.1 })
get_expressible task size limit (suc p) b r e =
    let l = field_limit limit (b.most 2 (omega arith)) in
    let q : record_of.PriorityGet task size (limit_of limit) p ≡ r = cc in
    rw (← q) (record {
      small = rw l.0 (omega arith, (omega (arith, b.most 0 (omega arith)), (omega (arith, b.most 1 (omega arith)), (omega (arith, b.most 2 (omega arith)), (omega (arith, b.most 3 (omega arith)), tt)))));
      limited = l.1;
    })

poll_expressible : (task size priority d : ℕ) → Bounded (form keyword.Poll) (task ∷ size ∷ priority ∷ d ∷ []) → (r : Record) → line_from keyword.Poll task size priority d ≡ Ok (line.Call r) → Expressible r
unfolding fields_of
poll_expressible task size zero d b r e =
    let q : record_of.Poll task size ≡ r = cc in
    rw (← q) (record { small = (omega arith, (omega (arith, b.most 0 (omega arith)), (omega (arith, b.most 1 (omega arith)), tt))); limited = tt })
poll_expressible task size (suc p) d b r e =
    let q : record_of.PriorityPoll task size p ≡ r = cc in
    rw (← q) (record { small = (omega arith, (omega (arith, b.most 0 (omega arith)), (omega (arith, b.most 1 (omega arith)), (omega (arith, b.most 2 (omega arith)), tt)))); limited = tt })

-- the log can express it
pub from_expressible : (k : Keyword) (a b c d : ℕ) → Bounded (form k) (a ∷ b ∷ c ∷ d ∷ []) → (r : Record) → line_from k a b c d ≡ Ok (line.Call r) → Expressible r
unfolding fields_of
from_expressible keyword.Pool a b c d h r e = cc
from_expressible keyword.Get a b c d h r e = get_expressible a b c d h r e
from_expressible keyword.Poll a b c d h r e = poll_expressible a b c d h r e
from_expressible keyword.Release a b c d h r e =
    let q : record_of.Release a ≡ r = cc in rw (← q) (record { small = (omega arith, (omega (arith, h.most 0 (omega arith)), tt)); limited = tt })
from_expressible keyword.Cancel a b c d h r e =
    let q : record_of.Cancel a ≡ r = cc in rw (← q) (record { small = (omega arith, (omega (arith, h.most 0 (omega arith)), tt)); limited = tt })
from_expressible keyword.Tick a b c d h r e = let q : record_of.Tick ≡ r = cc in rw (← q) (record { small = (omega arith, tt); limited = tt })
from_expressible keyword.Unknown a b c d h r e = cc

-- ---- and the other way: the arguments of a record that the log can express

bounded_four : (ss : List Slot) (a b c d : ℕ) → length ss ≤ 4 → a ≤ slot_most (get_or ss 0 Number) → (1 < length ss → b ≤ slot_most (get_or ss 1 Number)) → (2 < length ss → c ≤ slot_most (get_or ss 2 Number))
    → (3 < length ss → d ≤ slot_most (get_or ss 3 Number)) → Bounded ss (a ∷ b ∷ c ∷ d ∷ [])
bounded_four ss a b c d few p q r s = record { most = at }
  where
    at : (i : ℕ) → i < length ss → get_or (a ∷ b ∷ c ∷ d ∷ []) i 0 ≤ slot_most (get_or ss i Number)
    at zero h = p
    at (suc zero) h = q h
    at (suc (suc zero)) h = r h
    at (suc (suc (suc zero))) h = s h
    at (suc (suc (suc (suc i)))) h = absurd (omega arith)

pub record-bounded : (r : Record) → Expressible r → Bounded (form (parts_of r).keyword) (parts_of r).arguments
unfolding fields_of
record-bounded (record_of.Get task size limit) x =
    bounded_four (form keyword.Get) task size (limit_field limit) 0 (omega arith) (omega (arith, x.small.1.0)) (λ h. omega (arith, x.small.1.1.0)) (λ h. (limit_field_lem limit x.limited).1) (λ h. omega arith)
record-bounded (record_of.Poll task size) x =
    bounded_four (form keyword.Poll) task size 0 0 (omega arith) (omega (arith, x.small.1.0)) (λ h. omega (arith, x.small.1.1.0)) (λ h. omega arith) (λ h. omega arith)
record-bounded (record_of.Release offset) x =
    bounded_four (form keyword.Release) offset 0 0 0 (omega arith) (omega (arith, x.small.1.0)) (λ h. omega arith) (λ h. omega arith) (λ h. omega arith)
record-bounded (record_of.Cancel task) x =
    bounded_four (form keyword.Cancel) task 0 0 0 (omega arith) (omega (arith, x.small.1.0)) (λ h. omega arith) (λ h. omega arith) (λ h. omega arith)
record-bounded record_of.Tick x = bounded_four (form keyword.Tick) 0 0 0 0 (omega arith) (omega arith) (λ h. omega arith) (λ h. omega arith) (λ h. omega arith)
record-bounded (record_of.PriorityGet task size limit priority) x =
    bounded_four (form keyword.Get) task size (limit_field limit) (priority + 1) (omega arith) (omega (arith, x.small.1.0)) (λ h. omega (arith, x.small.1.1.0)) (λ h. (limit_field_lem limit x.limited).1)
    (λ h. omega (arith, x.small.1.1.1.1.0))
record-bounded (record_of.PriorityPoll task size priority) x =
    bounded_four (form keyword.Poll) task size (priority + 1) 0 (omega arith) (omega (arith, x.small.1.0)) (λ h. omega (arith, x.small.1.1.0)) (λ h. omega (arith, x.small.1.1.1.0)) (λ h. omega arith)

order_small : (order : ℕ) → ok_order order ≡ true → order ≤ 1
order_small order h =
    by (eqb order fifo_order)
    (λ p. omega (arith, eqb-true order fifo_order p))
    (λ p. omega (arith, eqb-true order _ (rw p at h)))

pub pool-bounded : (n order : ℕ) → n < number_bound → ok_order order ≡ true → Bounded (form keyword.Pool) (pool_parts n order).arguments
pool-bounded n order h k = bounded_four (form keyword.Pool) n order 0 0 (omega arith) (omega arith) (λ l. order_small order k) (λ l. omega arith) (λ l. omega arith)
