-- The theorems of whole logs. Assumes nothing.
use Prim.Native.Nat.{ℕ, ◌+◌, ◌*◌, ◌<◌, ◌≤◌}
use mathlib.Core.Path.{◌≡◌, ◌∙◌}
use mathlib.Core.Bool.{true}
use mathlib.Core.List.{List}
use mathlib.Core.Option.{some}
use native.Mathlib.Omega.{arith}
use lib.ListN.{length, length-append, take-append-drop}
use lib.Seq.{drop-append_seam}
use Rattle.model.specs.Rules.{ok_order}
use Rattle.numbers.specs.Number.{Bytes, number_bound}
use Rattle.call_log.specs.declared.Record.{Record}
use Rattle.call_log.specs.Log.{start_bytes, encode_records, log_of, log_length, AllExpressible, Log, bytes_of, read_log}
use Rattle.call_log.proofs.Fields.{bytes_drop}
use Rattle.call_log.proofs.Starts.{start_most, start_encode, begun}
use Rattle.call_log.proofs.Logs.{length-records, records-most, records_skip, records-encode, encode-records, records_expressible, whole}

-- the length needed, at most 6 bytes for the pool's length and order and 21 for a record
pub log-length : (n order : ℕ) (rs : List Record) → length (log_of n order rs) ≡ log_length n order rs
log-length n order rs = length-append (start_bytes n order) (encode_records rs) ∙ rw (length-records rs)

pub log-most : (n order : ℕ) (rs : List Record) → n < number_bound → AllExpressible rs → log_length n order rs ≤ 6 + 21 * length rs
log-most n order rs h all = omega (arith, start_most n order h, records-most rs all)

-- what is written is read back: the pool's length and order and the same records, then the clean end
pub read_log_lem : (n order : ℕ) (rs : List Record) → n < number_bound → ok_order order ≡ true → AllExpressible rs → read_log (log_of n order rs) ≡ some (record { long = n; order = order; records = rs })
unfolding read_log
read_log_lem n order rs h k all =
    rw (
      start_encode n order rs h k all,
      read_log,
      records_skip (length (start_bytes n order)) (log_of n order rs),
      drop-append_seam (start_bytes n order) (encode_records rs),
      records-encode rs all,
    )

module _ (s : List ℕ) (l : Log) (e : read_log s ≡ some l) where
  -- what is read is what would be written
  pub log_read : Bytes s → bytes_of l ≡ s
  log_read bs =
      let w = whole s l e in
      let b = begun s l.long l.order w.place w.first in
      rw (← b.bytes bs, ← encode-records w.place s l.records w.rest (bytes_drop w.place s bs))
      (take-append-drop w.place s)

  -- and can be written
  pub log_expressible : (l.long < number_bound) × (ok_order l.order ≡ true) × AllExpressible l.records
  log_expressible =
      let w = whole s l e in
      let b = begun s l.long l.order w.place w.first in
      (b.small, b.known, records_expressible w.place s l.records w.rest)
