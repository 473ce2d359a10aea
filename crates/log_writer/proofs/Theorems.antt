-- The theorems of the log writer. Assumes nothing.
use Prim.Native.Nat.{ℕ, ◌<◌, ◌≤◌}
use mathlib.Core.Path.{◌≡◌, refl, sym, ap, ◌∙◌}
use mathlib.Core.Bool.{true}
use mathlib.Core.List.{List, ◌++◌}
use mathlib.Core.Logic.{⊎_elim}
use mathlib.Core.Option.{Option, none, some}
use native.Mathlib.Omega.{arith}
use Rattle.std.specs.Prelude.{Result}
use lib.ListN.{length, take, drop, length-map}
use lib.Seq.{take-append_seam}
use Rattle.model.specs.Limits.{e_ok}
use Rattle.model.specs.Rules.{ok_order}
use Rattle.numbers.specs.Number.{Bytes, number_bound}
use Rattle.output.specs.Fill.{Outcome, outcome}
use Rattle.numbers.proofs.Decode.{side}
use Rattle.output.proofs.Fill.{fill-short, fill-whole}
use Rattle.call_log.specs.declared.Record.{Record}
use Rattle.call_log.specs.Log.{most_records, log_of, log_length, AllExpressible, Log, read_log}
use Rattle.call_log.proofs.LogTheorems.{log-length, read_log_lem, log_read, log_expressible}
use Rattle.log_writer.specs.Writer.{Columns, WriteError, writable, written, refusal, code_of, write_log, columns_of, Typed}
use Rattle.log_writer.specs.declared.WriteError.TheVariants.{Parameter, NoRoom}
use Rattle.log_writer.specs.Steps.{Level}
use Rattle.log_writer.proofs.Rows.{given-all, given-columns}
use Rattle.log_writer.proofs.Writing.{writable_rows, writable_open}

-- the log at the start of the buffer, every byte behind it kept
abbrev pub stored : List ℕ → List ℕ → Outcome (Result ℕ WriteError)
stored log buf = outcome (written (length log)) (log ++ drop (length log) buf)

-- no refusal has the code of what is done
pub refusal_coded : (e : WriteError) → code_of e ≡ e_ok → ⊥
refusal_coded Parameter h = let z : ◌≡◌ {A = ℕ} 0 1 = cc in omega arith
refusal_coded NoRoom h = let z : ◌≡◌ {A = ℕ} 0 1 = cc in omega arith

-- ---- its three answers

module _ (n order : ℕ) (c : Columns) (buf : List ℕ) where
  pub write_par : writable order c ≡ none → write_log n order c buf ≡ outcome (refusal Parameter) buf
  write_par e = rw e

  module _ (rs : List Record) (e : writable order c ≡ some rs) where
    pub write_nomem : length buf < log_length n order rs → write_log n order c buf ≡ outcome (refusal NoRoom) buf
    write_nomem h = rw e (sym (fill-short written (refusal NoRoom) (log_of n order rs) buf (omega (arith, log-length n order rs))))

    pub write_ok : log_length n order rs ≤ length buf → write_log n order c buf ≡ stored (log_of n order rs) buf
    write_ok h = rw e (fill-whole written (refusal NoRoom) (log_of n order rs) buf (omega (arith, log-length n order rs)))

  -- there is no fourth
  answers : {X : Type 0} → (writable order c ≡ none → X)
      → ((rs : List Record) → writable order c ≡ some rs → length buf < log_length n order rs → X)
      → ((rs : List Record) → writable order c ≡ some rs → log_length n order rs ≤ length buf → X) → X
  answers {X} refused short fits = go (writable order c) refl
    where
      go : (x : Option (List Record)) → writable order c ≡ x → X
      go none e = refused e
      go (some rs) e = ⊎_elim (short rs e) (fits rs e) (side (length buf) (log_length n order rs))

  -- a refusal keeps every byte
  pub write_keeps : (error : WriteError) → (write_log n order c buf).answer ≡ refusal error → write_log n order c buf ≡ outcome (refusal error) buf
  write_keeps error u =
      answers
      (λ e. let w = write_par e in cc)
      (λ rs e h. let w = write_nomem rs e h in cc)
      (λ rs e h. let w = rw (write_ok rs e h) at u in cc)

  -- what was written is read back from the buffer: n, the order and the records given, then the clean end
  pub write_read : n < number_bound → Typed c → (size : ℕ) → (write_log n order c buf).answer ≡ written size
      → (rs : List Record) × (writable order c ≡ some rs)
      × (read_log (take size (write_log n order c buf).buffer) ≡ some (record { long = n; order = order; records = rs }))
  write_read small t size ok =
      answers
      (λ e. let w = rw (write_par e) at ok in cc)
      (λ rs e h. let w = rw (write_nomem rs e h) at ok in cc)
      (λ rs e h.
      let same : size ≡ length (log_of n order rs) = let w = rw (write_ok rs e h) at ok in cc in
      (rs, e, rw (write_ok rs e h, same, take-append_seam (log_of n order rs) (drop (length (log_of n order rs)) buf)) (read_log_lem n order rs small (writable_open order c rs e).known (all rs e))))
    where
      all : (rs : List Record) → writable order c ≡ some rs → AllExpressible rs
      all rs e = given-all c t 0 (length c.kinds) rs (writable_open order c rs e).rows

-- ---- what is read is written again

-- for at most 4,096 records there are columns that give them
pub columns-writable : (order : ℕ) (rs : List Record) → ok_order order ≡ true → AllExpressible rs → length rs ≤ most_records → writable order (columns_of rs) ≡ some rs
columns-writable order rs k all h =
    let even : Level (columns_of rs) = record { firsts = simp length-map; seconds = simp length-map; limits = simp length-map; priorities = simp length-map } in
    writable_rows order (columns_of rs) k even (simp length-map h) ∙ simp length-map (given-columns rs all)

-- a log that the reader takes whole is written again as the same bytes, from any columns that give its records
module _ (s : List ℕ) (l : Log) (e : read_log s ≡ some l) (bs : Bytes s) (buf : List ℕ) (room : length s ≤ length buf) where
  pub write_given : (c : Columns) → writable l.order c ≡ some l.records → write_log l.long l.order c buf ≡ stored s buf
  write_given c given =
      let same = log_read s l e bs in
      let fits : log_length l.long l.order l.records ≤ length buf = omega (arith, log-length l.long l.order l.records, ap length same) in
      write_ok l.long l.order c buf l.records given fits ∙ rw same

  pub write_again : length l.records ≤ most_records → write_log l.long l.order (columns_of l.records) buf ≡ stored s buf
  write_again few =
      let x = log_expressible s l e in
      write_given (columns_of l.records) (columns-writable l.order l.records x.1 x.2 few)
