-- A step of a log: the loop that writes a line for each woken task, and the call with both texts. Assumes nothing.
use Prim.Native.Nat.{ℕ, zero, suc, ◌+◌, ◌*◌, ◌<◌, ◌≤◌}
use mathlib.Core.Path.{◌≡◌, refl, sym, ap, ◌∙◌}
use mathlib.Core.List.{List, [], ◌∷◌, ◌++◌, append_assoc, append-nil}
use native.Mathlib.Omega.{arith}
use native.Mathlib.Numerals.{add-one}
use mir.Syntax.{w32}
use mir.Val.{SFits, to_z, of_z}
use mir.ValLaws.{to_z-of_z}
use lib.ListN.{length, take, get_or}
use Rattle.std.specs.Prelude.{Option, Some, Ok}
use Rattle.model.specs.declared.Answer.{Answer}
use Rattle.model.specs.declared.Queue.{Queue}
use Rattle.model.specs.declared.Woken.{Woken}
use Rattle.model.specs.Limits.{most_tasks}
use Rattle.model.specs.Places.{no_woken, pad}
use Rattle.model.specs.Pool.{Result, Stored, stored, result_of, called}
use Rattle.output.specs.declared.Output.{Output}
use Rattle.output.specs.Puts.{Puts}
use Rattle.output.proofs.Puts.{puts-append}
use Rattle.call_log.specs.declared.Record.{Record}
use Rattle.call_log.specs.declared.Taken.{Taken}
use Rattle.call_log.specs.Record.{Read, taken, record_of}
use Rattle.transcript.specs.Lines.{answer_line, woken_line, longest_answer, longest_line}
use Rattle.transcript.specs.Transcript.{call_of, woken_text, answer_text}
use Rattle.player.specs.Steps.{reply_to, Stepped}
use Rattle.player.proofs.Waking.{Named, named_append, perform-woken}

-- ---- the loop: the lines of the first i places are written, and each of them has a task

abbrev line_of : Woken → List ℕ
line_of w = woken_line w.task w.code w.offset.0

text_snoc : (ws : List Woken) (w : Woken) → woken_text (ws ++ (w ∷ [])) ≡ woken_text ws ++ line_of w
unfolding woken_text
text_snoc [] w = append-nil (line_of w)
text_snoc (x ∷ ws) w = rw (text_snoc ws w, append_assoc (line_of x) (woken_text ws) (line_of w))

-- one place more
take_more : (ws : List Woken) (i : ℕ) → ((get_or ws i no_woken).task ≡ 0 → ⊥) → take (suc i) ws ≡ take i ws ++ (get_or ws i no_woken ∷ [])
take_more [] i h = absurd (h refl)
take_more (w ∷ ws) zero h = refl
take_more (w ∷ ws) (suc i) h = ap (λ (k : List Woken). w ∷ k) (take_more ws i h)

-- behind `start`, where the line of the answer ends
pub record Writing (start : Output) (ws : List Woken) (out : Output) (i : ℕ) : Type 0 where
  pub within : i ≤ most_tasks
  pub puts : Puts start (woken_text (take i ws)) out
  pub named : Named (take i ws)
  pub short : out.end ≤ start.end + i * longest_line

pub writing_starts : (out : Output) (ws : List Woken) → Writing out ws out 0
unfolding woken_text Named
writing_starts out ws = record {
  within = omega arith;
  puts = record { same_reference = refl; wrote = record { place = omega arith; stored = refl } };
  named = tt;
  short = omega arith;
}

-- the line that was written is of the code as a value of 32 bits
pub writing_more : {start out out' : Output} {i : ℕ} {ws : List Woken} → Writing start ws out i → i < most_tasks
    → ((get_or ws i no_woken).task ≡ 0 → ⊥) → (f : SFits w32 (get_or ws i no_woken).code)
    → Puts out (woken_line (get_or ws i no_woken).task (to_z w32 (of_z w32 (get_or ws i no_woken).code)) (get_or ws i no_woken).offset.0) out'
    → length (line_of (get_or ws i no_woken)) ≤ longest_line → Writing start ws out' (i + 1)
unfolding Named
writing_more {i = i} {ws = ws} v m h f w n =
    let x = get_or ws i no_woken in
    let line = rw (to_z-of_z w32 x.code f) at w in
    record {
      within = omega arith;
      puts = rw (add-one i, take_more ws i h, text_snoc (take i ws) x) (puts-append v.puts line);
      named = rw (add-one i, take_more ws i h) (named_append (take i ws) (x ∷ []) v.named (h, tt));
      short = omega (arith, v.short, line.wrote.place, n);
    }

-- where the loop is left, the places passed are the list
take-pad : (n i : ℕ) (ws : List Woken) → Named ws → length ws ≤ n → Named (take i (pad no_woken n ws))
    → (i < n → (get_or (pad no_woken n ws) i no_woken).task ≡ 0) → take i (pad no_woken n ws) ≡ ws
unfolding Named pad
take-pad n zero [] v h u z = refl
take-pad zero (suc i) [] v h u z = refl
take-pad (suc n) (suc i) [] v h u z = absurd (u.0 refl)
take-pad zero i (w ∷ ws) v h u z = absurd (omega (arith, h))
take-pad (suc n) zero (w ∷ ws) v h u z = absurd (v.0 (z (omega arith)))
take-pad (suc n) (suc i) (w ∷ ws) v h u z =
    ap (λ (k : List Woken). w ∷ k) (take-pad n i ws v.1 (omega (arith, h)) u.1 (λ k. z (omega (arith, k))))

-- ---- the step

pub stepped : {l l' : List ℕ} {out mid out' : Output} {q : Queue} {r : Record} {i : ℕ} (a : Answer) → result_of a l' ≡ called (call_of r) l q
    → Puts out (answer_line a.code a.offset.0) mid → length (answer_line a.code a.offset.0) ≤ longest_answer → Writing mid a.woken out' i
    → (i < most_tasks → (get_or a.woken i no_woken).task ≡ 0) → Stepped l q r out l' out' a.queue
unfolding answer_text
stepped {l} {q = q} {r = r} {i = i} a e v n w z =
    let same = ap (λ (x : Result). x.answer.woken) e in
    let found = perform-woken (call_of r) (stored l q) in
    let took = take-pad most_tasks i (reply_to r l q).said.woken found.0 found.1 (rw same at w.named) (rw same at z) in
    let text = puts-append v (rw (same, took) at w.puts) in
    record {
      state = ap {B = Stored} (λ (x : Result). stored x.bytes x.answer.queue) e;
      text = rw (ap (λ (x : Result). answer_line x.answer.code x.answer.offset.0) e) at text;
      short = omega (arith, w.short, w.within, v.wrote.place, n);
    }

-- a line that is written, and how far it goes
pub line-within : {a b : Output} {s : List ℕ} → Puts a s b → length s ≤ longest_line → Puts a s b × (b.end ≤ a.end + longest_line)
line-within p h = (p, omega (arith, p.wrote.place, h))

-- a record that was read
pub read_taken : (s : List ℕ) {x : Read} {o : Option Taken} {t : Taken} → x ≡ record_of s → x ≡ Ok o → o ≡ Some t → record_of s ≡ taken t.record t.size
read_taken s e f g = sym e ∙ f ∙ ap {B = Read} Ok g
