-- The words of a line that is read, where its numbers are in their shortest form, are those that are printed for it. Assumes nothing.
use Prim.Native.Nat.{ℕ, zero, suc}
use mathlib.Core.Path.{◌≡◌, refl, sym, ap, ◌∙◌}
use mathlib.Core.Bool.{Bool, true, false}
use mathlib.Core.List.{List, [], ◌∷◌, ◌++◌, append_assoc, append-nil}
use native.Mathlib.Omega.{arith}
use native.Mathlib.Numerals.{add-one}
use lib.Dec.{leb}
use lib.ListN.{length, take, get_or}
use Rattle.std.specs.Prelude.{Result, Ok, Err}
use Rattle.model.proofs.Tests.{by}
use Rattle.call_log.specs.declared.Record.{Record}
use Rattle.call_log.specs.declared.Record.TheVariants as record_of
use Rattle.call_log.specs.Record.{limit_of, limit_field}
use Rattle.call_log.proofs.Forms.{four, take_four}
use Rattle.text.specs.declared.words.NumeralError.{NumeralError}
use Rattle.text.specs.declared.words.NumeralError.TheVariants.{TooLarge, NotDigits}
use Rattle.text.specs.Decimal.{decimal, value_of, all_digits}
use Rattle.text.specs.Words.{same, numeral_of}
use Rattle.text.proofs.Sameness.{same_true}
use Rattle.log_text.specs.declared.Keyword.{Keyword}
use Rattle.log_text.specs.declared.Keyword.TheVariants as keyword
use Rattle.log_text.specs.declared.Slot.{Slot}
use Rattle.log_text.specs.declared.Slot.TheVariants.{Number, Limit, Priority, Order}
use Rattle.log_text.specs.declared.Why.{Why}
use Rattle.log_text.specs.declared.Line.{Line}
use Rattle.log_text.specs.declared.Line.TheVariants.{Blank, Pool, Call}
use Rattle.log_text.specs.Form.{keyword_text, limit_text, priority_text, form, number_most, limit_most}
use Rattle.log_text.specs.Reading.{Taken, Arguments, by_numeral, take_number, plus_one, take_option, take_word, take_slot, take_slots, order_with, line_from, made, keyword_of, is_known, line_by, line_of}
use Rattle.log_text.specs.Printing.{pool_parts, parts_of, option_words, flag_words, slot_words, slots_words, line_words}
use Rattle.log_text.specs.Canonical.{AllShortest}
use Rattle.log_text.proofs.Slots.{form-few}
use Rattle.log_text.proofs.Bounds.{ok_parts, slots_ind}

-- ---- the words that a slot takes

-- the words of an argument, in front of those that are left
record Split (words mid ws : List (List ℕ)) : Type 0 where
  same : words ++ mid ≡ ws
  short : AllShortest mid

numeral_value : (most : ℕ) (w : List ℕ) (v : ℕ) → numeral_of most w ≡ Ok v → (all_digits w ≡ true) × (value_of w ≡ v)
unfolding numeral_of
numeral_value most w v e =
    by (all_digits w)
    (λ h.
    let f = rw h at e in
    by (leb (value_of w) most)
    (λ k. let g = rw k at f in (h, cc))
    (λ k. let g = rw k at f in cc))
    (λ h. let f = rw h at e in cc)

by_numeral_lem : (most : ℕ) (w : List ℕ) (ws : List (List ℕ)) (x : Result ℕ NumeralError) → numeral_of most w ≡ x → {v : ℕ} {mid : List (List ℕ)} → by_numeral x ws ≡ Ok (v, mid)
    → AllShortest (w ∷ ws) → Split (decimal v ∷ []) mid (w ∷ ws)
unfolding AllShortest
by_numeral_lem most w ws (Ok u) q {v} {mid} e a =
    let p = ok_parts e in
    let n = numeral_value most w u q in
    record { same = rw (← p.1, ← p.0, ← n.1, ← a.0 n.0); short = rw p.1 at a.1 }
by_numeral_lem most w ws (Err TooLarge) q e a = cc
by_numeral_lem most w ws (Err NotDigits) q e a = cc

number_words : (most : ℕ) (ws : List (List ℕ)) {v : ℕ} {mid : List (List ℕ)} → take_number most ws ≡ Ok (v, mid) → AllShortest ws → Split (decimal v ∷ []) mid ws
number_words most [] e a = cc
number_words most (w ∷ ws) e a = by_numeral_lem most w ws (numeral_of most w) refl e a

none_words : (words : List (List ℕ)) (ws : List (List ℕ)) {v : ℕ} {mid : List (List ℕ)} → ◌≡◌ {A = Taken} (Ok (0, ws)) (Ok (v, mid)) → (v ≡ 0 → words ≡ []) → AllShortest ws → Split words mid ws
none_words words ws {v} {mid} e n a =
    let p = ok_parts e in record { same = rw (n (sym p.0), ← p.1); short = rw p.1 at a }

plus_words : (name : List ℕ) (most : ℕ) (ws : List (List ℕ)) (x : Taken) → take_number most ws ≡ x → {v : ℕ} {mid : List (List ℕ)} → plus_one x ≡ Ok (v, mid) → AllShortest ws
    → Split (option_words name v) mid (name ∷ ws)
plus_words name most ws (Ok (u, us)) q {v} {mid} e a =
    let p = ok_parts e in
    let n = number_words most ws (rw p.1 at q) a in
    record { same = rw (← p.0, add-one u, ← n.same); short = n.short }
plus_words name most ws (Err why) q e a = cc

option_words_lem : (name : List ℕ) (most : ℕ) (ws : List (List ℕ)) {v : ℕ} {mid : List (List ℕ)} → take_option name most ws ≡ Ok (v, mid) → AllShortest ws → Split (option_words name v) mid ws
unfolding AllShortest
option_words_lem name most [] {v} e a = none_words (option_words name v) [] e (λ z. rw z) a
option_words_lem name most (w ∷ ws) {v} e a =
    by (same w name)
    (λ h. rw (same_true w name h) (plus_words name most ws (take_number most ws) refl (rw h at e) a.1))
    (λ h. none_words (option_words name v) (w ∷ ws) (rw h at e) (λ z. rw z) a)

flag_words_lem : (name : List ℕ) (ws : List (List ℕ)) {v : ℕ} {mid : List (List ℕ)} → take_word name ws ≡ Ok (v, mid) → AllShortest ws → Split (flag_words name v) mid ws
unfolding AllShortest
flag_words_lem name [] {v} e a = none_words (flag_words name v) [] e (λ z. rw z) a
flag_words_lem name (w ∷ ws) {v} {mid} e a =
    by (same w name)
    (λ h.
    let p = ok_parts (rw h at e) in record { same = rw (← p.0, ← p.1, same_true w name h); short = rw p.1 at a.1 })
    (λ h. none_words (flag_words name v) (w ∷ ws) (rw h at e) (λ z. rw z) a)

slot_words_lem : (s : Slot) (ws : List (List ℕ)) {v : ℕ} {mid : List (List ℕ)} → take_slot s ws ≡ Ok (v, mid) → AllShortest ws → Split (slot_words s v) mid ws
slot_words_lem Number ws e a = number_words number_most ws e a
slot_words_lem Limit ws e a = option_words_lem limit_text limit_most ws e a
slot_words_lem Priority ws e a = option_words_lem priority_text number_most ws e a
slot_words_lem Order ws e a = flag_words_lem priority_text ws e a

-- ---- the words that a line takes

record Filled (ss : List Slot) (vs : List ℕ) (rest ws : List (List ℕ)) : Type 0 where
  same : slots_words ss vs ++ rest ≡ ws
  size : length vs ≡ length ss

slots_words_lem : (ss : List Slot) (ws : List (List ℕ)) (vs : List ℕ) (rest : List (List ℕ)) → take_slots ss ws ≡ Ok (vs, rest) → AllShortest ws → Filled ss vs rest ws
unfolding slots_words
slots_words_lem = slots_ind (λ ss ws vs rest. AllShortest ws → Filled ss vs rest ws) (λ ws a. record { same = refl; size = refl }) next
  where
    next : (s : Slot) (ss : List Slot) (ws mid rest : List (List ℕ)) (v : ℕ) (vs : List ℕ) → take_slot s ws ≡ Ok (v, mid) → (AllShortest mid → Filled ss vs rest mid)
        → AllShortest ws → Filled (s ∷ ss) (v ∷ vs) rest ws
    next s ss ws mid rest v vs e ih a =
        let p = slot_words_lem s ws e a in
        let f = ih p.short in
        record { same = append_assoc (slot_words s v) (slots_words ss vs) rest ∙ rw f.same p.same; size = ap suc f.size }

slots_take : (ss : List Slot) (us : List ℕ) → slots_words ss (take (length ss) us) ≡ slots_words ss us
unfolding slots_words
slots_take [] us = refl
slots_take (s ∷ ss) [] = refl
slots_take (s ∷ ss) (u ∷ us) = rw (slots_take ss us)

slots_four : (k : Keyword) (vs : List ℕ) → length vs ≡ length (form k) → slots_words (form k) (four vs) ≡ slots_words (form k) vs
slots_four k vs e = sym (slots_take (form k) (four vs)) ∙ rw (← e, take_four vs (omega (arith, form-few k)))

-- a line that says something
abbrev is_said : Result Line Why → Bool
is_said (Ok Blank) = false
is_said (Ok (Pool n order)) = true
is_said (Ok (Call r)) = true
is_said (Err why) = false

made-words : (k : Keyword) (ws : List (List ℕ)) (x : Arguments) → take_slots (form k) ws ≡ x → (y : Result Line Why) → made k x ≡ y → is_said y ≡ true → AllShortest ws
    → (vs : List ℕ) × (line_from k (get_or vs 0 0) (get_or vs 1 0) (get_or vs 2 0) (get_or vs 3 0) ≡ y) × (slots_words (form k) (four vs) ≡ ws)
made-words k ws (Ok (vs, [])) q y e s a =
    let f = slots_words_lem (form k) ws vs [] q a in (vs, e, slots_four k vs f.size ∙ sym (append-nil (slots_words (form k) vs)) ∙ f.same)
made-words k ws (Ok (vs, u ∷ us)) q y e s a = let f : false ≡ true = ap is_said e ∙ s in cc
made-words k ws (Err why) q y e s a = let f : false ≡ true = ap is_said e ∙ s in cc

-- ---- the words of what a line says

field_of : (f : ℕ) → limit_field (limit_of f) ≡ f
unfolding limit_of limit_field
field_of zero = refl
field_of (suc n) = refl

from-call : (k : Keyword) (a b c d : ℕ) (r : Record) → line_from k a b c d ≡ Ok (Call r) → line_words (parts_of r) ≡ keyword_text k ∷ slots_words (form k) (a ∷ b ∷ c ∷ d ∷ [])
unfolding slots_words
from-call keyword.Pool a b c d r e = cc
from-call keyword.Get a b c zero r e = let q : record_of.Get a b (limit_of c) ≡ r = cc in rw (← q, field_of c)
from-call keyword.Get a b c (suc d) r e = let q : record_of.PriorityGet a b (limit_of c) d ≡ r = cc in rw (← q, field_of c, add-one d)
from-call keyword.Poll a b zero d r e = let q : record_of.Poll a b ≡ r = cc in rw (← q)
from-call keyword.Poll a b (suc c) d r e = let q : record_of.PriorityPoll a b c ≡ r = cc in rw (← q, add-one c)
from-call keyword.Release a b c d r e = let q : record_of.Release a ≡ r = cc in rw (← q)
from-call keyword.Cancel a b c d r e = let q : record_of.Cancel a ≡ r = cc in rw (← q)
from-call keyword.Tick a b c d r e = let q : record_of.Tick ≡ r = cc in rw (← q)
from-call keyword.Unknown a b c d r e = cc

from-pool : (a b c d n order : ℕ) → line_from keyword.Pool a b c d ≡ Ok (Pool n order) → line_words (pool_parts n order) ≡ keyword_text keyword.Pool ∷ slots_words (form keyword.Pool) (a ∷ b ∷ c ∷ d ∷ [])
unfolding slots_words
from-pool a zero c d n order e = let p : a ≡ n = cc in let q : order_with 0 ≡ order = cc in rw (← p, ← q)
from-pool a (suc b) c d n order e = let p : a ≡ n = cc in let q : order_with (suc b) ≡ order = cc in rw (← p, ← q)

call-words : (k : Keyword) (ws : List (List ℕ)) (r : Record) → made k (take_slots (form k) ws) ≡ Ok (Call r) → AllShortest ws → line_words (parts_of r) ≡ keyword_text k ∷ ws
call-words k ws r e a =
    let m = made-words k ws (take_slots (form k) ws) refl (Ok (Call r)) e refl a in
    from-call k (get_or m.0 0 0) (get_or m.0 1 0) (get_or m.0 2 0) (get_or m.0 3 0) r m.1 ∙ rw m.2

by_call : (k : Keyword) (ws : List (List ℕ)) (r : Record) → line_by true k ws ≡ Ok (Call r) → AllShortest ws → line_words (parts_of r) ≡ keyword_text k ∷ ws
by_call k ws r e a =
    by (is_known k)
    (λ h. call-words k ws r (rw h at e) a)
    (λ h. let f = rw h at e in cc)

-- ---- with the first word

known_word : (w : List ℕ) (k : Keyword) → same w (keyword_text k) ≡ true → (ws : List (List ℕ)) → keyword_text k ∷ ws ≡ w ∷ ws
known_word w k h ws = rw (same_true w (keyword_text k) h)

module _ (w : List ℕ) (ws : List (List ℕ)) (r : Record) (a : AllShortest ws) where
  with_word : (k : Keyword) → same w (keyword_text k) ≡ true → line_by true k ws ≡ Ok (Call r) → line_words (parts_of r) ≡ w ∷ ws
  with_word k h e = by_call k ws r e a ∙ known_word w k h ws

  pub words-call : line_of true (w ∷ ws) ≡ Ok (Call r) → line_words (parts_of r) ≡ w ∷ ws
  unfolding line_of
  words-call e =
      by (same w (keyword_text keyword.Get)) (λ p. with_word keyword.Get p (rw p at e))
      (λ p. by (same w (keyword_text keyword.Poll)) (λ q. with_word keyword.Poll q (rw (p, q) at e))
      (λ q. by (same w (keyword_text keyword.Release)) (λ s. with_word keyword.Release s (rw (p, q, s) at e))
      (λ s. by (same w (keyword_text keyword.Cancel)) (λ t. with_word keyword.Cancel t (rw (p, q, s, t) at e))
      (λ t. by (same w (keyword_text keyword.Tick)) (λ u. with_word keyword.Tick u (rw (p, q, s, t, u) at e))
      (λ u. let f = rw (p, q, s, t, u) at e in cc)))))

pub words-pool : (w : List ℕ) (ws : List (List ℕ)) (n order : ℕ) → AllShortest ws → line_of false (w ∷ ws) ≡ Ok (Pool n order) → line_words (pool_parts n order) ≡ w ∷ ws
unfolding line_of
words-pool w ws n order a e =
    by (same w (keyword_text keyword.Pool))
    (λ h.
    let m = made-words keyword.Pool ws (take_slots (form keyword.Pool) ws) refl (Ok (Pool n order)) (rw h at e) refl a in
    from-pool (get_or m.0 0 0) (get_or m.0 1 0) (get_or m.0 2 0) (get_or m.0 3 0) n order m.1 ∙ rw m.2 (known_word w keyword.Pool h ws))
    (λ h. let f = rw h at e in cc)

-- a line with words is not blank
made_some : (k : Keyword) (x : Arguments) → made k x ≡ Ok Blank → ⊥
made_some keyword.Pool (Ok (vs, [])) e = cc
made_some keyword.Get (Ok (vs, [])) e = cc
made_some keyword.Poll (Ok (vs, [])) e = cc
made_some keyword.Release (Ok (vs, [])) e = cc
made_some keyword.Cancel (Ok (vs, [])) e = cc
made_some keyword.Tick (Ok (vs, [])) e = cc
made_some keyword.Unknown (Ok (vs, [])) e = cc
made_some k (Ok (vs, u ∷ us)) e = cc
made_some k (Err why) e = cc

by_some : (begun : Bool) (k : Keyword) (ws : List (List ℕ)) → line_by begun k ws ≡ Ok Blank → ⊥
by_some begun k ws e =
    by (is_known k)
    (λ h. made_some k (take_slots (form k) ws) (rw h at e))
    (λ h. let f = rw h at e in cc)

pub words-some : (begun : Bool) (w : List ℕ) (ws : List (List ℕ)) → line_of begun (w ∷ ws) ≡ Ok Blank → ⊥
unfolding line_of
words-some begun w ws e = by_some begun (keyword_of begun w) ws e
