-- Canonical text that is read is printed again, and what is printed is canonical. Assumes nothing.
use Prim.Native.Nat.{ℕ, zero, suc, ◌+◌}
use mathlib.Core.Path.{◌≡◌, refl, sym, ap, ◌∙◌}
use mathlib.Core.List.{List, [], ◌∷◌, ◌++◌, append_assoc, append-nil}
use mathlib.Core.Option.{Option, none, some}
use native.Mathlib.Omega.{arith}
use lib.Dec.{leb}
use lib.ListN.{length}
use Rattle.std.specs.Prelude.{Result, Ok, Err}
use Rattle.model.proofs.Tests.{by}
use Rattle.call_log.specs.declared.Record.{Record}
use Rattle.call_log.specs.Log.{Log}
use Rattle.text.specs.Decimal.{decimal, all_digits}
use Rattle.text.specs.Words.{pieces, lines_of, words_of}
use Rattle.text.proofs.Theorems.{value_decimal}
use Rattle.log_text.specs.declared.Keyword.{Keyword}
use Rattle.log_text.specs.declared.Keyword.TheVariants as keyword
use Rattle.log_text.specs.declared.Slot.{Slot}
use Rattle.log_text.specs.declared.Slot.TheVariants.{Number, Limit, Priority, Order}
use Rattle.log_text.specs.declared.Parts.{Parts}
use Rattle.log_text.specs.Form.{keyword_text, limit_text, priority_text, form}
use Rattle.log_text.specs.declared.Why.{Why}
use Rattle.log_text.specs.declared.Line.{Line}
use Rattle.log_text.specs.declared.Line.TheVariants.{Blank, Pool, Call}
use Rattle.log_text.specs.Reading.{line_of, is_begun, record_count, limited, line_after, with_line, Parsed, Parsed·log, go_on, parse_lines, longest_text, parse}
use Rattle.log_text.specs.Printing.{pool_parts, parts_of, slot_words, slots_words, line_text, parts_text, records_text, text_of}
use Rattle.log_text.specs.Canonical.{Shortest, AllShortest, CanonicalLines, rejoined, Canonical}
use Rattle.log_text.proofs.Lines.{Fit, line-fits, went, end_log}
use Rattle.log_text.proofs.Joining.{Wordy}
use Rattle.log_text.proofs.Reading.{record_wordy, pool_wordy, line-words, line-lines}
use Rattle.log_text.proofs.Canonical.{words-call, words-pool, words-some}

-- the text of what was read so far
abbrev text_so : Option Log → List ℕ
text_so none = []
text_so (some l) = text_of l

records_snoc : (rs : List Record) (r : Record) → records_text (rs ++ (r ∷ [])) ≡ records_text rs ++ parts_text (parts_of r)
unfolding records_text
records_snoc [] r = append-nil (parts_text (parts_of r))
records_snoc (q ∷ rs) r = rw (records_snoc rs r, append_assoc (parts_text (parts_of q)) (records_text rs) (parts_text (parts_of r)))

-- a line that is taken has the text of its words
module _ (k count : ℕ) (rest : Parsed) (l : Log) where
  line-text : (x : Option Log) (ws : List (List ℕ)) (y : Result Line Why) → line_of (is_begun x) ws ≡ y → Fit x y → (ws ≡ [] → ⊥) → AllShortest ws → go_on k (limited count y) rest ≡ Parsed·log l
      → text_so (with_line x y) ≡ text_so x ++ line_text ws
  unfolding AllShortest records_text
  line-text x [] y q f n a e = absurd (n refl)
  line-text x (w ∷ ws) (Ok Blank) q f n a e = absurd (words-some (is_begun x) w ws q)
  line-text x (w ∷ ws) (Err why) q f n a e = cc
  line-text none (w ∷ ws) (Ok (Pool m order)) q f n a e = append-nil (parts_text (pool_parts m order)) ∙ ap line_text (words-pool w ws m order a.1 q)
  line-text none (w ∷ ws) (Ok (Call r)) q f n a e = absurd f
  line-text (some p) (w ∷ ws) (Ok (Pool m order)) q f n a e = absurd f
  line-text (some p) (w ∷ ws) (Ok (Call r)) q f n a e =
      rw (records_snoc p.records r, append_assoc (parts_text (pool_parts p.long p.order)) (records_text p.records) (line_text (w ∷ ws)))
      (ap (λ t. parts_text (pool_parts p.long p.order) ++ (records_text p.records ++ t)) (ap line_text (words-call w ws r a.1 q)))

lines-text : (ls : List (List ℕ)) (k : ℕ) (x : Option Log) (l : Log) → parse_lines k x ls ≡ Parsed·log l → CanonicalLines ls → text_so x ++ rejoined ls ≡ text_of l
unfolding parse_lines CanonicalLines rejoined
lines-text [] k x l e c = append-nil (text_so x) ∙ ap text_so (end_log k x l e)
lines-text (m ∷ ls) k x l e c =
    let y' = line_of (is_begun x) (words_of m) in
    let rest = parse_lines (k + 1) (with_line x (line_after x m)) ls in
    let w = went k (record_count x) y' rest l e in
    let fit : Fit x y' = rw w.same at (line-fits x m) in
    let here = line-text k (record_count x) rest l x (words_of m) y' refl fit c.0 c.1 e in
    sym (append_assoc (text_so x) (line_text (words_of m)) (rejoined ls))
    ∙ ap (λ t. t ++ rejoined ls) (sym here ∙ ap (λ y. text_so (with_line x y)) (sym w.same))
    ∙ lines-text ls (k + 1) (with_line x (line_after x m)) l w.others c.2

pub text-printed : (text : List ℕ) (l : Log) → Canonical text → parse text ≡ Parsed·log l → text_of l ≡ text
unfolding parse
text-printed text l c e =
    by (leb (length text) longest_text)
    (λ h. sym (lines-text (lines_of text) 1 none l (rw h at e) c.lines) ∙ c.whole)
    (λ h. let f = rw h at e in cc)

-- ---- what is printed is canonical

keyword_shortest : (k : Keyword) → Wordy (keyword_text k) → Shortest (keyword_text k)
unfolding all_digits
keyword_shortest keyword.Pool a e = cc
keyword_shortest keyword.Get a e = cc
keyword_shortest keyword.Poll a e = cc
keyword_shortest keyword.Release a e = cc
keyword_shortest keyword.Cancel a e = cc
keyword_shortest keyword.Tick a e = cc
keyword_shortest keyword.Unknown a e = absurd (omega (arith, a.some))

decimal_shortest : (v : ℕ) → Shortest (decimal v)
decimal_shortest v e = sym (ap decimal (value_decimal v))

name_shortest : Shortest limit_text × Shortest priority_text
unfolding all_digits
name_shortest = ((λ e. cc), (λ e. cc))

shortest_append : (vs ws : List (List ℕ)) → AllShortest vs → AllShortest ws → AllShortest (vs ++ ws)
unfolding AllShortest
shortest_append [] ws a b = b
shortest_append (v ∷ vs) ws a b = (a.0, shortest_append vs ws a.1 b)

slot_shortest : (s : Slot) (v : ℕ) → AllShortest (slot_words s v)
unfolding AllShortest
slot_shortest Number v = (decimal_shortest v, tt)
slot_shortest Limit zero = tt
slot_shortest Limit (suc v) = (name_shortest.0, (decimal_shortest v, tt))
slot_shortest Priority zero = tt
slot_shortest Priority (suc v) = (name_shortest.1, (decimal_shortest v, tt))
slot_shortest Order zero = tt
slot_shortest Order (suc v) = (name_shortest.1, tt)

slots_shortest : (ss : List Slot) (vs : List ℕ) → AllShortest (slots_words ss vs)
unfolding AllShortest slots_words
slots_shortest [] vs = tt
slots_shortest (s ∷ ss) [] = tt
slots_shortest (s ∷ ss) (v ∷ vs) = shortest_append (slot_words s v) (slots_words ss vs) (slot_shortest s v) (slots_shortest ss vs)

-- a line in front of canonical text
line_canonical : (p : Parts) → Wordy (keyword_text p.keyword) → (s : List ℕ) → Canonical s → Canonical (parts_text p ++ s)
unfolding AllShortest CanonicalLines rejoined
line_canonical p a s c =
    let lines = line-lines p a s in
    let words = line-words p a in
    record {
      lines = rw (lines, words) ((λ e. cc), (keyword_shortest p.keyword a, slots_shortest (form p.keyword) p.arguments), c.lines);
      whole = rw (lines, words) (ap (λ t. parts_text p ++ t) c.whole);
    }

records_canonical : (rs : List Record) → Canonical (records_text rs)
unfolding records_text CanonicalLines rejoined pieces
records_canonical [] = record { lines = tt; whole = refl }
records_canonical (r ∷ rs) = line_canonical (parts_of r) (record_wordy r) (records_text rs) (records_canonical rs)

pub text_is_canonical : (l : Log) → Canonical (text_of l)
text_is_canonical l = line_canonical (pool_parts l.long l.order) pool_wordy (records_text l.records) (records_canonical l.records)
