-- The loop that takes records: what was written and what is left are the text that was left at its start. Assumes nothing.
use Prim.Native.Nat.{ℕ, ◌+◌, ◌-◌, ◌<◌, ◌≤◌}
use mathlib.Core.Path.{◌≡◌, sym, ap, ◌∙◌}
use mathlib.Core.List.{List, ◌++◌, append_assoc, append-nil}
use native.Mathlib.Omega.{arith}
use lib.Dec.{leb}
use lib.ListN.{length, drop, length-drop}
use lib.Seq.{drop-drop}
use borrow.Author.Tests.{leb-true, leb-false}
use Rattle.std.specs.Prelude.{Option, Some, None, Ok, Err, IfSome}
use Rattle.model.specs.declared.Queue.{Queue}
use Rattle.model.specs.Pool.{stored}
use Rattle.model.proofs.Tests.{by}
use Rattle.output.specs.declared.Output.{Output}
use Rattle.output.specs.Puts.{Puts}
use Rattle.output.proofs.Puts.{puts-append}
use Rattle.call_log.specs.declared.Record.{Record}
use Rattle.call_log.specs.Record.{Read, taken, record_of}
use Rattle.call_log.proofs.Reading.{NoRecord, no_record}
use Rattle.call_log.proofs.Theorems.{record-length}
use Rattle.transcript.specs.Lines.{longest_line}
use Rattle.transcript.specs.Transcript.{longest_log, answer_text, records_text}
use Rattle.transcript.proofs.Theorems.{records_end, records_bad, records_taken}
use Rattle.player.specs.Steps.{reply_to, last_text, longest_step, Stepped}
use Rattle.stages.specs.declared.Rest.{Rest}
use Rattle.stages.specs.Stages.{text_space, pending, Staged, Played}

-- ---- the stages

-- a stage whose text is to be written
pub record Gathered (log : List ℕ) (out : Output) (s : Option Rest) : Type 0 where
  pub short_log : length log ≤ longest_log
  pub space : length out.buffer.now ≡ text_space
  pub within : out.end ≤ text_space
  pub stage : IfSome s (Staged log)

-- how much of a log is left
abbrev pub left : List ℕ → Option Rest → ℕ
left log None = 0
left log (Some r) = length log - r.at + 1

-- ---- the loop

-- at a turn: r is what is left of the log, l the pool
pub record Playing (log : List ℕ) (r₀ : Rest) (l₀ : List ℕ) (out₀ : Output) (l : List ℕ) (out : Output) (r : Rest) : Type 0 where
  pub written : List ℕ
  pub text : Puts out₀ written out
  pub rest : pending log l₀ (Some r₀) ≡ written ++ pending log l (Some r)
  pub stage : Staged log r
  pub within : out.end ≤ text_space
  pub onward : r₀.at ≤ r.at
  pub moved : r.at ≤ r₀.at → out.end ≡ out₀.end

module _ {log l₀ l : List ℕ} {out₀ out : Output} {r₀ r : Rest} (v : Playing log r₀ l₀ out₀ l out r) where
  -- a record
  pub playing_taken : {l' : List ℕ} {out' : Output} (made : Record) (n : ℕ) (q : Queue) → record_of (drop r.at log) ≡ taken made n
      → Stepped l r.queue made out l' out' q → out.end + longest_step ≤ text_space
      → Playing log r₀ l₀ out₀ l' out' (record { at = r.at + n; count = r.count + 1; queue = q })
  playing_taken {l'} made n q e w h =
      let m = record-length (drop r.at log) made n e in
      let d = length-drop r.at log in
      let said = answer_text (reply_to made l r.queue).said in
      let next : pending log l (Some r) ≡ said ++ records_text 0 (r.at + n) (r.count + 1) (stored l' q) (drop (r.at + n) log) =
      records_taken r.at r.count (stored l r.queue) (drop r.at log) made n e ∙ rw (drop-drop n r.at log, w.state) in
      record {
        written = v.written ++ said;
        text = puts-append v.text w.text;
        rest = v.rest ∙ ap (λ (z : List ℕ). v.written ++ z) next ∙ sym (append_assoc v.written said _);
        stage = record { place = omega (arith, m.2, d, v.stage.place); few = omega (arith, m.0, v.stage.few) };
        within = omega (arith, w.short);
        onward = omega (arith, v.onward);
        moved = λ z. absurd (omega (arith, m.0, v.onward));
      }

  -- no record: the last line
  last-text : (x : Read) → record_of (drop r.at log) ≡ x → NoRecord x → pending log l (Some r) ≡ last_text x r.at r.count
  last-text (Ok None) e other = records_end r.at r.count (stored l r.queue) (drop r.at log) e
  last-text (Err b) e other = records_bad r.at r.count (stored l r.queue) (drop r.at log) e
  last-text (Ok (Some t)) e other = no_record t.record t.size other

  pub playing_last : {out' : Output} (x : Read) → record_of (drop r.at log) ≡ x → NoRecord x
      → Puts out (last_text x r.at r.count) out' → out'.end ≤ out.end + longest_line → out.end + longest_step ≤ text_space
      → Played log r₀ l₀ out₀ l out' None
  playing_last x e other w m h =
      let line = last_text x r.at r.count in
      record {
        written = v.written ++ line;
        text = puts-append v.text w;
        rest = v.rest ∙ ap (λ (z : List ℕ). v.written ++ z) (last-text x e other) ∙ sym (append-nil (v.written ++ line));
        within = omega (arith, m, h);
        stage = tt;
        further = tt;
      }

  -- no room for another step
  pub playing_full : out₀.end + longest_step ≤ text_space → text_space < out.end + longest_step → Played log r₀ l₀ out₀ l out (Some r)
  playing_full k h =
      record {
        written = v.written;
        text = v.text;
        rest = v.rest;
        within = v.within;
        stage = v.stage;
        further = by (leb r.at r₀.at) (λ b. absurd (omega (arith, v.moved (leb-true r.at r₀.at b)))) (λ b. leb-false r.at r₀.at b);
      }
