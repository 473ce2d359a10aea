-- `line` is safe: the line lies within the text. Assumes nothing.
use Rattle.std.proofs.Common.{ℕ, ◌≡◌, List, refl, ap, sym, arith, rules, ◌≤◌, length, w32, ℤ, FitsSigned, to_z, of_z, Fits, w64}
use Rattle.std.proofs.Math.Seq.{length-take-le}
use Rattle.std.proofs.lemmas.Int.{to_z-of_z}
use Rattle.output.specs.declared.Output.{Output}
use Rattle.output.specs.Puts.{Puts, Holds}
use Rattle.output.proofs.Wrote.{wrote-length}
use Rattle.transcript.specs.Lines.{answer_line}
use Rattle.transcript.proofs.Theorems.{length-answer}
use Rattle.bench_writer.proofs.line.Goals as goal

-- a line at the start of 64 bytes ends within them
ends-within : (code : ℤ) (n : ℕ) {text after : List ℕ} {empty out : Output} → FitsSigned w32 code → Fits w64 n → Holds empty text 0 → length text ≡ 64
    → Puts empty (answer_line (to_z w32 (of_z w32 code)) n) out → after ≡ out.buffer.now → out.end ≤ length after
ends-within code n f g new space puts same =
    let line = rw (to_z-of_z w32 code f) at puts.wrote in
    omega (arith, line.place, wrote-length line, ap length new.bytes, space, new.place, ap length same, length-answer n g.fits code f)

pub slice_bounds-text-end : goal.slice_bounds-text-end
slice_bounds-text-end c =
    ends-within c.args.code c.args.length c.ranges.code c.ranges.length c.new-out.ensures.empty refl c.answer_line.ensures (search rules)

pub slice_bounds-write_all-end : goal.slice_bounds-write_all-end
slice_bounds-write_all-end c = sym (length-take-le _ _ (
    ends-within c.args.code c.args.length c.ranges.code c.ranges.length c.new-out.ensures.empty refl c.answer_line.ensures (search rules)))
