-- The tests and the loops of the writer. Assumes nothing.
use Prim.Native.Nat.{ℕ, suc, ◌+◌, ◌-◌, ◌*◌, ◌<◌, ◌≤◌}
use mathlib.Core.Path.{◌≡◌, refl, sym, ◌∙◌}
use mathlib.Core.Bool.{true, false, ◌&&◌}
use mathlib.Core.List.{List, [], ◌++◌, append-nil}
use mathlib.Core.Option.{Option, none, some}
use native.Mathlib.Omega.{arith}
use native.Mathlib.Nat.{add_assoc, add-zero, sub-zero}
use native.Mathlib.Numerals.{add-one}
use lib.Dec.{leb, eqb}
use lib.ListN.{length, length-append}
use borrow.Author.Tests.{le-leb, leb-true, eq-eqb, eqb-true}
use Rattle.model.specs.Rules.{ok_order}
use Rattle.model.proofs.Tests.{by, and_l, and_r}
use Rattle.output.specs.declared.Output.{Output}
use Rattle.output.specs.Puts.{Room, Puts, Holds}
use Rattle.output.specs.Fill.{outcome}
use Rattle.output.proofs.Puts.{holds_room, puts-whole, Putting, putting_start, putting_room, putting_next, putting_end}
use Rattle.output.proofs.Fill.{fill-short, fill_done}
use Rattle.call_log.specs.declared.Record.{Record}
use Rattle.log_writer.specs.declared.Row.{Row}
use Rattle.std.specs.Prelude.{Ok, Err}
use Rattle.log_writer.specs.declared.WriteError.TheVariants.{Parameter, NoRoom}
use Rattle.call_log.specs.Fields.{encode_fields, fields_length}
use Rattle.call_log.specs.Record.{fields_of}
use Rattle.call_log.specs.Log.{most_records, start_bytes, encode_records, log_of, records_length, log_length, in_front}
use Rattle.log_writer.specs.Writer.{given, Columns, row_at, given_from, level, regular, writable, written, refusal, write_log}
use Rattle.log_writer.specs.Steps.{Level, Started, is_some, needed_after, needed_for, numbers_of, Counted, rows_bytes}
use Rattle.call_log.proofs.Logs.{no_some}
use Rattle.call_log.proofs.LogTheorems.{log-length}
use Rattle.log_writer.proofs.Rows.{given_numbers, numbers_few, given-bytes}

-- ---- the tests of the columns

pub level_open : (c : Columns) → level c ≡ true → Level c
level_open c h =
    let firsts = eqb (length c.firsts) (length c.kinds) in
    let seconds = eqb (length c.seconds) (length c.kinds) in
    let limits = eqb (length c.limits) (length c.kinds) in
    let priorities = eqb (length c.priorities) (length c.kinds) in
    let rest = and_r firsts (seconds && (limits && priorities)) h in
    let last = and_r seconds (limits && priorities) rest in
    record {
      firsts = eqb-true _ _ (and_l firsts (seconds && (limits && priorities)) h);
      seconds = eqb-true _ _ (and_l seconds (limits && priorities) rest);
      limits = eqb-true _ _ (and_l limits priorities last);
      priorities = eqb-true _ _ (and_r limits priorities last);
    }

module _ (order : ℕ) (c : Columns) where
  writable-irregular : regular order c ≡ false → writable order c ≡ none
  unfolding writable
  writable-irregular h = rw h

  pub writable_rows : ok_order order ≡ true → Level c → length c.kinds ≤ most_records → writable order c ≡ given_from c 0 (length c.kinds)
  unfolding writable
  writable_rows k l h =
      rw (
        k,
        le-leb (length c.kinds) most_records h,
        eq-eqb (length c.firsts) (length c.kinds) l.firsts,
        eq-eqb (length c.seconds) (length c.kinds) l.seconds,
        eq-eqb (length c.limits) (length c.kinds) l.limits,
        eq-eqb (length c.priorities) (length c.kinds) l.priorities,
      )

  -- what regular columns are
  pub record Regular : Type 0 where
    pub known : ok_order order ≡ true
    pub few : length c.kinds ≤ most_records
    pub even : Level c

  pub regular_open : regular order c ≡ true → Regular
  regular_open h = record {
    known = and_l (ok_order order) _ h;
    few = leb-true (length c.kinds) most_records (and_l (leb (length c.kinds) most_records) (level c) (and_r (ok_order order) _ h));
    even = level_open c (and_r (leb (length c.kinds) most_records) (level c) (and_r (ok_order order) _ h));
  }

  -- what is to be written
  pub record Writable (rs : List Record) : Type 0 where
    pub known : ok_order order ≡ true
    pub even : Level c
    pub rows : given_from c 0 (length c.kinds) ≡ some rs

  pub writable_open : (rs : List Record) → writable order c ≡ some rs → Writable rs
  unfolding writable
  writable_open rs e = by (regular order c) tested (λ h. no_some (rw h at e))
    where
      tested : regular order c ≡ true → Writable rs
      tested h = let t = regular_open h in record { known = t.known; even = t.even; rows = rw h at e }

-- ---- the length needed, row by row

some_open : (x : Option Record) → is_some x ≡ true → (r : Record) × (x ≡ some r)
some_open none e = absurd (let z : ◌≡◌ {A = ℕ} 0 1 = cc in omega arith)
some_open (some r) e = (r, refl)

none_open : (x : Option Record) → is_some x ≡ false → x ≡ none
none_open none e = refl
none_open (some r) e = absurd (let z : ◌≡◌ {A = ℕ} 0 1 = cc in omega arith)

needed_front : (m : ℕ) (r : Record) (x : Option (List Record)) → needed_after m (in_front (some r) x) ≡ needed_after (m + fields_length (fields_of r)) x
unfolding records_length
needed_front m r none = refl
needed_front m r (some rs) = rw (add_assoc m (fields_length (fields_of r)) (records_length rs))

pub refused_irregular : (n order : ℕ) (c : Columns) → regular order c ≡ false → Err Parameter ≡ needed_for n order c
refused_irregular n order c h = rw (writable-irregular order c h)

-- the first i rows are records, and the log has m bytes up to there
pub record Measuring (n order : ℕ) (c : Columns) (i m : ℕ) : Type 0 where
  pub same : needed_for n order c ≡ needed_after m (given_from c i (length c.kinds - i))
  pub even : Level c
  pub short : length c.kinds ≤ most_records
  pub few : m ≤ 6 + 25 * i

pub measuring_start : (n order : ℕ) (c : Columns) (m : ℕ) → regular order c ≡ true → Started n order m → Measuring n order c 0 m
measuring_start n order c m h s =
    let t = regular_open order c h in
    record {
      same = rw (writable_rows order c t.known t.even t.few, s.bytes, sub-zero (length c.kinds));
      even = t.even;
      short = t.few;
      few = s.few;
    }

module _ {n order : ℕ} {c : Columns} {i m : ℕ} (g : Measuring n order c i m) where
  module _ (here : i < length c.kinds) {w : Row} (row : w ≡ row_at c i) where
    abbrev left : Option (List Record)
    left = given_from c (i + 1) (length c.kinds - (i + 1))

    next : needed_for n order c ≡ needed_after m (in_front (given w) left)
    unfolding given_from
    next = let k : length c.kinds - i ≡ suc (length c.kinds - (i + 1)) = omega arith in g.same ∙ rw (k, row, add-one i)

    pub measuring_refused : is_some (given w) ≡ false → Err Parameter ≡ needed_for n order c
    measuring_refused e = sym (next ∙ rw (none_open (given w) e))

    pub measuring_next : is_some (given w) ≡ true → (b : ℕ) → Counted (numbers_of w) b → Measuring n order c (i + 1) (m + b)
    measuring_next e b count =
        let x = some_open (given w) e in
        record {
          same = next ∙ rw x.1 (needed_front m x.0 left ∙ rw (given_numbers w x.0 x.1, count.bytes));
          even = g.even;
          short = g.short;
          few = omega (arith, g.few, count.few, numbers_few w);
        }

  pub measuring_end : length c.kinds ≤ i → Ok m ≡ needed_for n order c
  unfolding given_from records_length
  measuring_end h = let k : length c.kinds - i ≡ 0 = omega arith in sym (g.same ∙ rw (k, add-zero m))

-- ---- rows one after another, in bytes

module _ (c : Columns) (k i : ℕ) where
  pub rows_next : {w : Row} → w ≡ row_at c i → i < k → rows_bytes c i (k - i) ≡ encode_fields (numbers_of w) ++ rows_bytes c (i + 1) (k - (i + 1))
  unfolding rows_bytes
  rows_next row h = let e : k - i ≡ suc (k - (i + 1)) = omega arith in rw (e, row, add-one i)

  pub rows_past : k ≤ i → rows_bytes c i (k - i) ≡ []
  unfolding rows_bytes
  rows_past h = let e : k - i ≡ 0 = omega arith in rw e

-- ---- the whole log

module _ (n order : ℕ) (c : Columns) where
  needs_none : (x : Option (List Record)) → needed_after (length (start_bytes n order)) x ≡ Err Parameter → x ≡ none
  needs_none none e = refl
  needs_none (some rs) e = absurd (let z : ◌≡◌ {A = ℕ} 0 1 = cc in omega arith)

  pub write_refused : (buf : List ℕ) → needed_for n order c ≡ Err Parameter → outcome (refusal Parameter) buf ≡ write_log n order c buf
  write_refused buf e = rw (needs_none (writable order c) e)

  -- the records of a log of m bytes
  pub record Measured (m : ℕ) : Type 0 where
    pub records : List Record
    pub same : writable order c ≡ some records
    pub size : m ≡ log_length n order records

  needs_some : (m : ℕ) (x : Option (List Record)) → writable order c ≡ x → needed_after (length (start_bytes n order)) x ≡ Ok m → Measured m
  needs_some m none q e = absurd (let z : ◌≡◌ {A = ℕ} 0 1 = cc in omega arith)
  needs_some m (some rs) q e = record { records = rs; same = q; size = cc }

  pub measured : (m : ℕ) → needed_for n order c ≡ Ok m → Measured m
  measured m = needs_some m (writable order c) refl

module _ {n order : ℕ} {c : Columns} {m : ℕ} (g : Measured n order c m) (buf : List ℕ) where
  abbrev log : List ℕ
  log = log_of n order g.records

  abbrev rows : List ℕ
  rows = rows_bytes c 0 (length c.kinds)

  size-log : m ≡ length log
  size-log = g.size ∙ sym (log-length n order g.records)

  pub write_short : length buf < m → outcome (refusal NoRoom) buf ≡ write_log n order c buf
  write_short h = rw g.same (fill-short written (refusal NoRoom) log buf (omega (arith, size-log)))

  pub start_fits : m ≤ length buf → 0 + length (start_bytes n order) ≤ length buf
  start_fits h = omega (arith, h, g.size)

  module _ (fits : m ≤ length buf) {empty : Output} (made : Holds empty buf 0) where
    pub start_room : Room (length (start_bytes n order)) empty
    start_room = holds_room _ made (omega (arith, size-log, length-append (start_bytes n order) (encode_records g.records)))

    module _ {started : Output} (begun : Puts empty (start_bytes n order) started) where
      -- behind the start the rows are left to write
      rest : Putting empty log started rows
      rest =
          rw (given-bytes c 0 (length c.kinds) g.records (writable_open order c g.records g.same).rows)
          (putting_next (putting_start empty log (holds_room (length log) made (omega (arith, size-log)))) (encode_records g.records) refl begun)

      pub rows_fit : Level c × Room (length rows) started
      rows_fit = ((writable_open order c g.records g.same).even, putting_room rest rows [] (sym (append-nil rows)))

      pub write_done : {ended : Output} {last : List ℕ} → Puts started rows ended → last ≡ ended.buffer.now → outcome (written ended.end) last ≡ write_log n order c buf
      write_done {ended} {last} w e =
          let whole = puts-whole (putting_end (putting_next rest [] (sym (append-nil rows)) w) refl) made e in
          rw g.same (fill_done written (refusal NoRoom) log buf (omega (arith, size-log)) whole)
