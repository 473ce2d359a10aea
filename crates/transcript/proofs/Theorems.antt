-- The theorems of integers in text, of the lines, and of the text of a log. Assumes nothing.
use Prim.Native.Nat.{ℕ, zero, suc, ◌+◌, ◌-◌, ◌<◌, ◌≤◌}
use mathlib.Core.Path.{◌≡◌, refl, sym, ap, ◌∙◌}
use mathlib.Core.Bool.{true, false, cond}
use mathlib.Core.List.{List, [], ◌∷◌, ◌++◌, append_assoc}
use native.Mathlib.Nat.{add-zero, zero-add}
use native.Mathlib.Omega.{arith}
use mir.Syntax.{w32}
use mir.Val.{SFits}
use lib.IntN.{ℤ, pos, negsuc}
use Rattle.std.specs.Prelude.{None}
use lib.ListN.{length, drop, length-append, length-replicate}
use lib.Seq.{drop-append_seam}
use borrow.Author.Tests.{le-leb, lt-leb}
use Rattle.model.specs.Limits.{e_ok, e_par}
use Rattle.model.specs.declared.Attributes.{Attributes}
use Rattle.model.specs.Rules.{ok_long, ok_kinds, ok_order, ok_attributes, rules}
use Rattle.model.specs.Runs.{run}
use Rattle.model.specs.Pool.{Stored, perform, create}
use Rattle.model.proofs.Tests.{by, and_l, and_r}
use Rattle.numbers.specs.Number.{number_bound}
use Rattle.call_log.specs.declared.Record.{Record}
use Rattle.call_log.specs.Record.{taken, end, bad, record_of, encode_record}
use Rattle.call_log.specs.Log.{start_bytes, start, start_of, encode_records, log_of, AllExpressible}
use Rattle.call_log.proofs.Theorems.{record-encode, record-length}
use Rattle.call_log.proofs.Starts.{start_encode}
use Rattle.text.specs.Ascii.{ascii}
use Rattle.text.specs.Decimal.{digits, decimal, around, all_digits}
use Rattle.transcript.specs.Lines.{signed, pool_line, answer_line, woken_line, end_line, bad_line, refused_line, too_long_line, longest_answer, longest_line, is_line}
use Rattle.transcript.specs.Transcript.{longest_log, call_of, answer_text, records_text, fresh_pool, with_order, pool_text, transcript_of, calls_of, turns_text}
use Rattle.text.proofs.Decimal.{decimal-digits, length_word, length_half}
use Rattle.text.proofs.Theorems.{decimal_injective}
use Rattle.transcript.proofs.Sign.{signed-length}
use Rattle.transcript.proofs.Lines.{line-decimal, line-signed}

-- ---- integers

minus-decimal : {A : Type 0} (m n : ℕ) → ascii "-" ++ decimal m ≡ decimal n → A
unfolding all_digits
minus-decimal m n e = let z : false ≡ true = ap all_digits e ∙ decimal-digits n in let o : ◌≡◌ {A = ℕ} 0 1 = cc in absurd (omega arith)

pub signed_injective : (y z : ℤ) → signed y ≡ signed z → y ≡ z
signed_injective (pos m) (pos n) e = ap pos (decimal_injective m n e)
signed_injective (pos m) (negsuc n) e = minus-decimal (suc n) m (sym e)
signed_injective (negsuc m) (pos n) e = minus-decimal (suc m) n e
signed_injective (negsuc m) (negsuc n) e =
    let same : decimal (suc m) ≡ decimal (suc n) = cc in ap negsuc (omega (arith, decimal_injective (suc m) (suc n) same))

-- ---- lines: one newline, at the end

pub line-pool : (n : ℕ) → is_line (pool_line n) ≡ true
unfolding is_line
line-pool n = line-decimal n (ascii "\n")

pub line-answer : (code : ℤ) (offset : ℕ) → is_line (answer_line code offset) ≡ true
unfolding is_line
line-answer code offset = line-signed code (around (ascii " ") offset (ascii "\n")) ∙ line-decimal offset (ascii "\n")

pub line-woken : (task : ℕ) (code : ℤ) (offset : ℕ) → is_line (woken_line task code offset) ≡ true
unfolding is_line
line-woken task code offset =
    rw (append_assoc (decimal task) (ascii " ") (answer_line code offset)) (line-decimal task (ascii " " ++ answer_line code offset) ∙ line-answer code offset)

pub line_end : (count : ℕ) → is_line (end_line count) ≡ true
unfolding is_line
line_end count = line-decimal count _

pub line_bad : (place : ℕ) → is_line (bad_line place) ≡ true
unfolding is_line
line_bad place = line-decimal place (ascii "\n")

pub line_refused : is_line refused_line ≡ true
unfolding is_line
line_refused = refl

pub line_too_long : is_line too_long_line ≡ true
unfolding is_line
line_too_long = refl

-- ---- lines: the code of a pool that is refused

pub refused-code : refused_line ≡ ascii "pool refused " ++ (signed e_par ++ ascii "\n")
unfolding digits
refused-code = refl

-- ---- lines: the most bytes, of numbers that a usize, an i32 and a u32 can hold

module _ (n : ℕ) (h : n < 18446744073709551616) where
  pub length-pool : length (pool_line n) ≤ longest_line
  length-pool = simp length-append (omega (arith, length_word n h))

  pub length_end : length (end_line n) ≤ longest_line
  length_end = simp length-append (omega (arith, length_word n h))

  pub length_bad : length (bad_line n) ≤ longest_line
  length_bad = simp length-append (omega (arith, length_word n h))

  module _ (code : ℤ) (f : SFits w32 code) where
    pub length-answer : length (answer_line code n) ≤ longest_answer
    length-answer = simp length-append (omega (arith, length_word n h, signed-length code f))

    pub length-woken : (task : ℕ) → task < 4294967296 → length (woken_line task code n) ≤ longest_line
    length-woken task g = simp length-append (omega (arith, length_word n h, signed-length code f, length_half task g))

-- ---- the records of a log

-- passing over bytes is going on behind them
pub records_skip : (n at count : ℕ) (p : Stored) (s : List ℕ) → records_text n at count p s ≡ records_text 0 (at + n) count p (drop n s)
unfolding records_text
records_skip zero at count p s = rw (add-zero at)
records_skip (suc n) at count p [] = refl
records_skip (suc n) at count p (b ∷ s) =
    let e : at + 1 + n ≡ at + suc n = omega arith in records_skip n (at + 1) count p s ∙ rw e

module _ (at count : ℕ) (p : Stored) where
  pub records_end : (s : List ℕ) → record_of s ≡ end → records_text 0 at count p s ≡ end_line count
  unfolding records_text
  records_end [] e = refl
  records_end (b ∷ s) e = rw (e, records_text)

  pub records_bad : (s : List ℕ) → record_of s ≡ bad → records_text 0 at count p s ≡ bad_line at
  unfolding records_text record_of
  records_bad [] e = let z : ◌≡◌ {A = ℕ} 0 1 = cc in absurd (omega arith)
  records_bad (b ∷ s) e = rw (e, records_text)

  pub records_taken : (s : List ℕ) (r : Record) (n : ℕ) → record_of s ≡ taken r n
      → records_text 0 at count p s
      ≡ answer_text (perform rules (call_of r) p).said ++ records_text 0 (at + n) (count + 1) (perform rules (call_of r) p).state (drop n s)
  unfolding records_text
  records_taken [] r n e = absurd (omega (arith, record-length [] r n e))
  records_taken (b ∷ s) r zero e = absurd (omega (arith, record-length (b ∷ s) r 0 e))
  records_taken (b ∷ s) r (suc n) e =
      let m : suc n - 1 ≡ n = omega arith in
      let q : at + 1 + (suc n - 1) ≡ at + suc n = omega arith in
      rw (e, records_text, records_skip (suc n - 1) (at + 1) (count + 1) (perform rules (call_of r) p).state s, q, m)

-- records that were written: the text of the run of their calls
pub records-run : (rs : List Record) (at count : ℕ) (p : Stored) → AllExpressible rs
    → records_text 0 at count p (encode_records rs) ≡ turns_text (run (perform rules) p (calls_of rs)) ++ end_line (count + length rs)
unfolding records_text encode_records turns_text run calls_of AllExpressible
records-run [] at count p h = rw (add-zero count)
records-run (r ∷ rs) at count p h =
    let q : count + 1 + length rs ≡ count + suc (length rs) = omega arith in
    rw (
      records_taken at count p (encode_record r ++ encode_records rs) r (length (encode_record r)) (record-encode r (encode_records rs) h.0),
      drop-append_seam (encode_record r) (encode_records rs),
      records-run rs (at + length (encode_record r)) (count + 1) (perform rules (call_of r) p).state h.1,
      q,
      append_assoc,
    )

-- ---- the text of a log

-- create refuses a pool of zeros exactly where its length or its attributes are not valid
pub fresh_pool-code : (a : Attributes) (n : ℕ) → (fresh_pool a n).said.code ≡ cond (rules a n).valid e_ok e_par
unfolding create
fresh_pool-code a n = by (rules a n).valid (λ v. rw (length-replicate, v)) (λ v. rw (length-replicate, v))

-- a pool that create takes has a known order
valid-order : (a : Attributes) (n : ℕ) → (rules a n).valid ≡ true → ok_order a.order ≡ true
unfolding rules
valid-order a n v = and_l (ok_order a.order) (ok_kinds a n) (and_r (ok_long n) (ok_attributes a n) v)

module _ (a : Attributes) (log : List ℕ) where
  pub transcript_too_long : longest_log < length log → transcript_of a log ≡ too_long_line
  unfolding transcript_of
  transcript_too_long h = rw (lt-leb (length log) longest_log h, transcript_of)

  module _ (fits : length log ≤ longest_log) where
    text : transcript_of a log ≡ pool_text a (start_of log) log
    unfolding transcript_of
    text = rw (le-leb (length log) longest_log fits, transcript_of)

    pub transcript_bad : start_of log ≡ None → transcript_of a log ≡ bad_line 0
    unfolding pool_text
    transcript_bad e = text ∙ rw e

    module _ (n order place : ℕ) (e : start_of log ≡ start n order place) where
      abbrev own : Attributes
      own = with_order order a

      pub transcript_refused : (rules own n).valid ≡ false → transcript_of a log ≡ refused_line
      unfolding pool_text
      transcript_refused v = text ∙ rw (e, v, pool_text)

      pub transcript_pool : (rules own n).valid ≡ true → transcript_of a log ≡ pool_line n ++ records_text 0 place 0 (fresh_pool own n).state (drop place log)
      unfolding pool_text
      transcript_pool v = text ∙ rw (e, v, pool_text, records_skip place 0 0 (fresh_pool own n).state log, zero-add place)

-- a log that was written: the text of the run of its calls
pub transcript_run : (a : Attributes) (n order : ℕ) (rs : List Record) → length (log_of n order rs) ≤ longest_log → n < number_bound → (rules (with_order order a) n).valid ≡ true → AllExpressible rs
    → transcript_of a (log_of n order rs) ≡ pool_line n ++ (turns_text (run (perform rules) (fresh_pool (with_order order a) n).state (calls_of rs)) ++ end_line (length rs))
transcript_run a n order rs fits small v h =
    let first = start_bytes n order in
    transcript_pool a (log_of n order rs) fits n order (length first) (start_encode n order rs small (valid-order (with_order order a) n v) h) v
    ∙ rw (drop-append_seam first (encode_records rs), records-run rs (length first) 0 (fresh_pool (with_order order a) n).state h, zero-add (length rs))
