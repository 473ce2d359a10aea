-- What a line can say behind what was read, and what is read with it. Assumes nothing.
use Prim.Native.Nat.{ℕ, zero, suc, ◌+◌, ◌<◌}
use mathlib.Core.Path.{◌≡◌, refl, ap}
use mathlib.Core.Bool.{Bool, true, false}
use mathlib.Core.List.{List, [], ◌∷◌, ◌++◌}
use mathlib.Core.Option.{Option, none, some}
use native.Mathlib.Omega.{arith}
use lib.Dec.{leb, ltb}
use lib.ListN.{length, get_or, length-append}
use borrow.Author.Tests.{ltb-true}
use Rattle.std.specs.Prelude.{Result, Ok, Err}
use Rattle.model.specs.Rules.{ok_order}
use Rattle.model.proofs.Tests.{by}
use Rattle.numbers.specs.Number.{number_bound}
use Rattle.call_log.specs.declared.Record.{Record}
use Rattle.call_log.specs.Record.{Expressible}
use Rattle.call_log.specs.Log.{most_records, AllExpressible, Log}
use Rattle.call_log.proofs.Forms.{four, four_at}
use Rattle.text.specs.Words.{lines_of, words_of, same}
use Rattle.log_text.specs.declared.Keyword.{Keyword}
use Rattle.log_text.specs.declared.Keyword.TheVariants as keyword
use Rattle.log_text.specs.declared.Why.{Why}
use Rattle.log_text.specs.declared.Line.{Line}
use Rattle.log_text.specs.declared.Line.TheVariants.{Blank, Pool, Call}
use Rattle.log_text.specs.Form.{keyword_text, form, Bounded}
use Rattle.log_text.specs.Reading.{Arguments, take_slots, order_with, line_from, made, keyword_of, line_by, line_of, is_begun, record_count, limited, line_after, with_line, Parsed, Parsed·log, at_end, go_on, parse_lines, longest_text, parse}
use Rattle.log_text.specs.Printing.{Printable}
use Rattle.log_text.proofs.Slots.{form-few}
use Rattle.log_text.proofs.Bounds.{slots_bounded, from_expressible}

-- ---- what a line can say

-- before the pool line only a pool that a log can have; behind it only a record that the log can have and that is not one too many
abbrev pub Fit : Option Log → Result Line Why → Type 0
Fit none (Ok Blank) = Unit {0}
Fit none (Ok (Pool n order)) = (n < number_bound) × (ok_order order ≡ true)
Fit none (Ok (Call r)) = ⊥
Fit none (Err why) = Unit {0}
Fit (some l) (Ok Blank) = Unit {0}
Fit (some l) (Ok (Pool n order)) = ⊥
Fit (some l) (Ok (Call r)) = Expressible r × (length l.records < most_records)
Fit (some l) (Err why) = Unit {0}

order_ok : (n : ℕ) → ok_order (order_with n) ≡ true
order_ok zero = refl
order_ok (suc n) = refl

pool-fits : (ws : List (List ℕ)) (x : Arguments) → take_slots (form keyword.Pool) ws ≡ x → Fit none (limited 0 (made keyword.Pool x))
pool-fits ws (Ok (vs, [])) e =
    (omega (arith, (slots_bounded (form keyword.Pool) ws vs [] e).most 0 (omega arith)), order_ok (get_or vs 1 0))
pool-fits ws (Ok (vs, u ∷ us)) e = tt
pool-fits ws (Err why) e = tt

module _ (l : Log) where
  -- a record, or a refusal
  call_fits : (y : Result Line Why) (r : Record) → y ≡ Ok (Call r) → Expressible r → Fit (some l) (limited (length l.records) y)
  call_fits y r e h =
      rw e (by (ltb (length l.records) most_records) (λ k. rw k (h, ltb-true (length l.records) most_records k)) (λ k. rw k tt))

  -- the arguments at each place
  four_bounded : (k : Keyword) (vs : List ℕ) → Bounded (form k) vs → Bounded (form k) (four vs)
  four_bounded k vs b = record { most = λ i h. rw (four_at vs i (omega (arith, form-few k))) (b.most i h) }

  made-fits : (k : Keyword) (ws : List (List ℕ)) (x : Arguments) → take_slots (form k) ws ≡ x
      → ((vs : List ℕ) → (r : Record) × (line_from k (get_or vs 0 0) (get_or vs 1 0) (get_or vs 2 0) (get_or vs 3 0) ≡ Ok (Call r))) → Fit (some l) (limited (length l.records) (made k x))
  made-fits k ws (Ok (vs, [])) e call =
      let c = call vs in
      call_fits (line_from k (get_or vs 0 0) (get_or vs 1 0) (get_or vs 2 0) (get_or vs 3 0)) c.0 c.1
      (from_expressible k (get_or vs 0 0) (get_or vs 1 0) (get_or vs 2 0) (get_or vs 3 0) (four_bounded k vs (slots_bounded (form k) ws vs [] e)) c.0 c.1)
  made-fits k ws (Ok (vs, u ∷ us)) e call = tt
  made-fits k ws (Err why) e call = tt

-- behind the pool line no word says a pool
abbrev is_pool : Keyword → Bool
is_pool keyword.Pool = true
is_pool keyword.Get = false
is_pool keyword.Poll = false
is_pool keyword.Release = false
is_pool keyword.Cancel = false
is_pool keyword.Tick = false
is_pool keyword.Unknown = false

no_pool : (w : List ℕ) → is_pool (keyword_of true w) ≡ false
no_pool w =
    by (same w (keyword_text keyword.Get)) (λ a. rw a)
    (λ a. by (same w (keyword_text keyword.Poll)) (λ b. rw (a, b))
    (λ b. by (same w (keyword_text keyword.Release)) (λ c. rw (a, b, c))
    (λ c. by (same w (keyword_text keyword.Cancel)) (λ d. rw (a, b, c, d))
    (λ d. by (same w (keyword_text keyword.Tick)) (λ e. rw (a, b, c, d, e)) (λ e. rw (a, b, c, d, e))))))

known-fits : (l : Log) (k : Keyword) (ws : List (List ℕ)) → is_pool k ≡ false → Fit (some l) (limited (length l.records) (line_by true k ws))
known-fits l keyword.Pool ws h = cc
known-fits l keyword.Get ws h = made-fits l keyword.Get ws (take_slots (form keyword.Get) ws) refl (λ vs. (_, refl))
known-fits l keyword.Poll ws h = made-fits l keyword.Poll ws (take_slots (form keyword.Poll) ws) refl (λ vs. (_, refl))
known-fits l keyword.Release ws h = made-fits l keyword.Release ws (take_slots (form keyword.Release) ws) refl (λ vs. (_, refl))
known-fits l keyword.Cancel ws h = made-fits l keyword.Cancel ws (take_slots (form keyword.Cancel) ws) refl (λ vs. (_, refl))
known-fits l keyword.Tick ws h = made-fits l keyword.Tick ws (take_slots (form keyword.Tick) ws) refl (λ vs. (_, refl))
known-fits l keyword.Unknown ws h = tt

words_fit : (x : Option Log) (ws : List (List ℕ)) → Fit x (limited (record_count x) (line_of (is_begun x) ws))
unfolding line_of
words_fit none [] = tt
words_fit none (w ∷ ws) = by (same w (keyword_text keyword.Pool)) (λ h. rw h (pool-fits ws (take_slots (form keyword.Pool) ws) refl)) (λ h. rw h tt)
words_fit (some l) [] = tt
words_fit (some l) (w ∷ ws) = known-fits l (keyword_of true w) ws (no_pool w)

pub line-fits : (x : Option Log) (l : List ℕ) → Fit x (line_after x l)
line-fits x l = words_fit x (words_of l)

-- ---- what was read

-- nothing, or a log that can be written
abbrev pub Sound : Option Log → Type 0
Sound none = Unit {0}
Sound (some l) = Printable l

all_snoc : (rs : List Record) (r : Record) → AllExpressible rs → Expressible r → AllExpressible (rs ++ (r ∷ []))
unfolding AllExpressible
all_snoc [] r h e = (e, tt)
all_snoc (q ∷ rs) r h e = (h.0, all_snoc rs r h.1 e)

pub sound_next : (x : Option Log) (y : Result Line Why) → Sound x → Fit x y → Sound (with_line x y)
unfolding AllExpressible
sound_next none (Ok Blank) s f = tt
sound_next none (Ok (Pool n order)) s f = record { small = f.0; known = f.1; all = tt; few = omega arith }
sound_next none (Ok (Call r)) s f = absurd f
sound_next none (Err why) s f = tt
sound_next (some l) (Ok Blank) s f = s
sound_next (some l) (Ok (Pool n order)) s f = absurd f
sound_next (some l) (Ok (Call r)) s f = record { small = s.small; known = s.known; all = all_snoc l.records r s.all f.0; few = simp length-append (omega (arith, f.1)) }
sound_next (some l) (Err why) s f = s

-- ---- a text that gives a log

-- where a log is read, no line was refused
pub record Went (count : ℕ) (y : Result Line Why) (rest : Parsed) (l : Log) : Type 0 where
  pub same : limited count y ≡ y
  pub others : rest ≡ Parsed·log l

went_call : (k count : ℕ) (r : Record) (rest : Parsed) (l : Log) → go_on k (limited count (Ok (Call r))) rest ≡ Parsed·log l → Went count (Ok (Call r)) rest l
went_call k count r rest l e =
    by (ltb count most_records)
    (λ h. record { same = rw h; others = rw h at e })
    (λ h. let f = rw h at e in cc)

pub went : (k count : ℕ) (y : Result Line Why) (rest : Parsed) (l : Log) → go_on k (limited count y) rest ≡ Parsed·log l → Went count y rest l
went k count (Ok Blank) rest l e = record { same = refl; others = e }
went k count (Ok (Pool n order)) rest l e = record { same = refl; others = e }
went k count (Ok (Call r)) rest l e = went_call k count r rest l e
went k count (Err why) rest l e = cc

pub end_log : (k : ℕ) (x : Option Log) (l : Log) → at_end k x ≡ Parsed·log l → x ≡ some l
end_log k none l e = cc
end_log k (some m) l e = let q : m ≡ l = cc in ap some q

pub lines_end : (k : ℕ) (x : Option Log) (l : Log) → parse_lines k x [] ≡ Parsed·log l → x ≡ some l
unfolding parse_lines
lines_end k x l e = end_log k x l e

-- it can be written
lines-sound : (ls : List (List ℕ)) (k : ℕ) (x : Option Log) (l : Log) → Sound x → parse_lines k x ls ≡ Parsed·log l → Sound (some l)
unfolding parse_lines
lines-sound [] k x l s e = rw (end_log k x l e) at s
lines-sound (m ∷ ls) k x l s e =
    let y = line_after x m in
    let w = went k (record_count x) (line_of (is_begun x) (words_of m)) (parse_lines (k + 1) (with_line x y) ls) l e in
    lines-sound ls (k + 1) (with_line x y) l (sound_next x y s (line-fits x m)) w.others

pub parse-sound : (text : List ℕ) (l : Log) → parse text ≡ Parsed·log l → Printable l
unfolding parse
parse-sound text l e =
    by (leb (length text) longest_text)
    (λ h. lines-sound (lines_of text) 1 none l tt (rw h at e))
    (λ h. let f = rw h at e in cc)
