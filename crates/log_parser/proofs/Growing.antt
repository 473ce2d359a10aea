-- What was read so far, in bytes, and what each line adds to it. Assumes nothing.
use Prim.Native.Nat.{ℕ, ◌+◌, ◌*◌, ◌≤◌}
use mathlib.Core.Path.{◌≡◌, refl, sym, ap, ◌∙◌}
use mathlib.Core.List.{List, [], ◌∷◌, ◌++◌, append_assoc, append-nil}
use mathlib.Core.Option.{Option, none, some}
use native.Mathlib.Omega.{arith}
use lib.Dec.{ltb}
use lib.ListN.{length, length-append}
use borrow.Author.Tests.{lt-ltb}
use Rattle.std.specs.Prelude.{Result, Ok, Err}
use Rattle.output.specs.Wrote.{Wrote}
use Rattle.numbers.proofs.Theorems.{encode-length}
use Rattle.numbers.specs.Number.{encode}
use Rattle.call_log.specs.declared.Record.{Record}
use Rattle.call_log.specs.Record.{encode_record}
use Rattle.call_log.specs.Log.{most_records, start_bytes, mark_of, encode_records, Log, bytes_of}
use Rattle.call_log.proofs.Starts.{start_most}
use Rattle.call_log.proofs.Theorems.{encode-record-length}
use Rattle.call_log.proofs.LogTheorems.{log-length, log-most}
use Rattle.text.specs.Words.{words_of}
use Rattle.log_text.specs.declared.Line.{Line}
use Rattle.log_text.specs.declared.Line.TheVariants.{Blank, Pool, Call}
use Rattle.log_text.specs.declared.Why.{Why}
use Rattle.log_text.specs.Reading.{is_begun, record_count, line_of, line_after, with_line, Parsed·log, parse_lines}
use Rattle.log_text.proofs.Lines.{Fit, line-fits, Sound, went, end_log}
use Rattle.log_parser.specs.Steps.{line_bytes, call_count}

pub wrote_nothing : (buf : List ℕ) (at : ℕ) → Wrote buf at [] buf at
wrote_nothing buf at = record { place = omega arith; stored = refl }

-- ---- what was read, in bytes

abbrev pub log_bytes : Option Log → List ℕ
log_bytes none = []
log_bytes (some l) = bytes_of l

encode_snoc : (rs : List Record) (r : Record) → encode_records (rs ++ (r ∷ [])) ≡ encode_records rs ++ encode_record r
unfolding encode_records
encode_snoc [] r = append-nil (encode_record r)
encode_snoc (q ∷ rs) r = rw (encode_snoc rs r, append_assoc (encode_record q) (encode_records rs) (encode_record r))

pub bytes_next : (x : Option Log) (y : Line) → Fit x (Ok y) → log_bytes (with_line x (Ok y)) ≡ log_bytes x ++ line_bytes y
unfolding encode_records
bytes_next none Blank f = refl
bytes_next none (Pool n order) f = append-nil (start_bytes n order)
bytes_next none (Call r) f = absurd f
bytes_next (some l) Blank f = sym (append-nil (bytes_of l))
bytes_next (some l) (Pool n order) f = absurd f
bytes_next (some l) (Call r) f = rw (encode_snoc l.records r, append_assoc (start_bytes l.long l.order) (encode_records l.records) (encode_record r))

pub size_next : (x : Option Log) (y : Line) → Fit x (Ok y) → length (log_bytes (with_line x (Ok y))) ≡ length (log_bytes x) + length (line_bytes y)
size_next x y f = ap length (bytes_next x y f) ∙ length-append (log_bytes x) (line_bytes y)

pub count_next : (x : Option Log) (y : Line) → Fit x (Ok y) → record_count (with_line x (Ok y)) ≡ record_count x + call_count y
count_next none Blank f = refl
count_next none (Pool n order) f = refl
count_next none (Call r) f = absurd f
count_next (some l) Blank f = omega arith
count_next (some l) (Pool n order) f = absurd f
count_next (some l) (Call r) f = length-append l.records (r ∷ [])

-- a line adds a few bytes
pub line-short : (x : Option Log) (y : Line) → Fit x (Ok y) → length (line_bytes y) ≤ 21
line-short none Blank f = omega arith
line-short none (Pool n order) f = omega (arith, start_most n order f.0)
line-short none (Call r) f = absurd f
line-short (some l) Blank f = omega arith
line-short (some l) (Pool n order) f = absurd f
line-short (some l) (Call r) f = omega (arith, encode-record-length r f.0)

pub bytes_most : (x : Option Log) → Sound x → length (log_bytes x) ≤ 6 + 21 * record_count x
bytes_most none s = omega arith
bytes_most (some l) s = omega (arith, log-length l.long l.order l.records, log-most l.long l.order l.records s.small s.all)

pub count_most : (x : Option Log) → Sound x → record_count x ≤ most_records
count_most none s = omega arith
count_most (some l) s = s.few

-- there are bytes once the pool line is taken
pub bytes_begun : (x : Option Log) → Sound x → ltb 0 (length (log_bytes x)) ≡ is_begun x
bytes_begun none s = refl
bytes_begun (some l) s =
    let parts = length-append (start_bytes l.long l.order) (encode_records l.records) in
    let first = length-append (encode l.long) (mark_of l.order) in
    lt-ltb 0 (length (bytes_of l)) (omega (arith, parts, first, encode-length l.long s.small))

-- ---- line by line

-- no line takes bytes from the log
grown : (x : Option Log) (y : Result Line Why) → Fit x y → length (log_bytes x) ≤ length (log_bytes (with_line x y))
grown x (Ok y) f = omega (arith, size_next x y f)
grown x (Err why) f = omega arith

-- the log has at least the bytes that were read
pub lines-most : (ls : List (List ℕ)) (k : ℕ) (x : Option Log) (l : Log) → parse_lines k x ls ≡ Parsed·log l → length (log_bytes x) ≤ length (bytes_of l)
unfolding parse_lines
lines-most [] k x l e = rw (end_log k x l e) (omega arith)
lines-most (m ∷ ls) k x l e =
    let y = line_after x m in
    let w = went k (record_count x) (line_of (is_begun x) (words_of m)) (parse_lines (k + 1) (with_line x y) ls) l e in
    omega (arith, grown x y (line-fits x m), lines-most ls (k + 1) (with_line x y) l w.others)
