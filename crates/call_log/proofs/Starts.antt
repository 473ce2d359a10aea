-- Laws of the start of a log: the pool's length and order, read and written. Assumes nothing.
use Prim.Native.Nat.{ℕ, ◌+◌, ◌<◌, ◌≤◌}
use mathlib.Core.Path.{◌≡◌, refl, sym, ap, ◌∙◌}
use mathlib.Core.Bool.{true, false}
use mathlib.Core.List.{List, [], ◌∷◌, ◌++◌, append_assoc, append-nil}
use native.Mathlib.Omega.{arith}
use lib.Dec.{eqb}
use lib.ListN.{length, take, drop, length-append, length-drop}
use lib.Seq.{take-add, drop-append_seam}
use borrow.Author.Tests.{eqb-true, eq-eqb, ne_eqb}
use Rattle.model.specs.Limits.{fifo_order, priority_order}
use Rattle.model.specs.Rules.{ok_order}
use Rattle.model.proofs.Tests.{by, or_f}
use Rattle.std.specs.Prelude.{Option, Some, None}
use Rattle.numbers.specs.declared.Number.{Number}
use Rattle.numbers.specs.Number.{Bytes, number_bound, number, number_of, decode, groups, encode}
use Rattle.numbers.proofs.Theorems.{number_encode, encode_number, number_small, number_within, encode-length}
use Rattle.call_log.specs.declared.Record.{Record}
use Rattle.call_log.specs.declared.Start.{Start}
use Rattle.call_log.specs.Record.{encode_record}
use Rattle.call_log.specs.Log.{order_mark, start_bytes, start, order_after, after_length, start_of, encode_records, AllExpressible}
use Rattle.call_log.proofs.Fields.{bytes_drop}
use Rattle.call_log.proofs.Records.{source}
use Rattle.call_log.proofs.Theorems.{record-encode}

pub mark_one : length (encode order_mark) ≡ 1
unfolding groups
mark_one = refl

-- ---- by the numbers that a log begins with

module _ (s : List ℕ) where
  pub start_bad : number_of s ≡ None → None ≡ start_of s
  unfolding start_of
  start_bad e = rw e

  module _ (n size : ℕ) (e : number_of s ≡ number n size) where
    pub start_alone : number_of (drop size s) ≡ None → start n fifo_order size ≡ start_of s
    unfolding start_of
    start_alone f = rw (e, f)

    pub start_other : (v k : ℕ) → number_of (drop size s) ≡ number v k → (v ≡ order_mark → ⊥) → start n fifo_order size ≡ start_of s
    unfolding start_of
    start_other v k f u = rw (e, f, ne_eqb v order_mark u)

    pub start_marked : (v k : ℕ) → number_of (drop size s) ≡ number v k → v ≡ order_mark → start n priority_order (size + k) ≡ start_of s
    unfolding start_of
    start_marked v k f u = rw (e, f, eq-eqb v order_mark u)

-- ---- what is written is read back

-- at most five bytes for the length and one for the order
pub start_most : (n order : ℕ) → n < number_bound → length (start_bytes n order) ≤ 6
start_most n order h =
    by (eqb order priority_order)
    (λ p. rw p (omega (arith, length-append (encode n) (encode order_mark), encode-length n h, mark_one)))
    (λ p. rw (p, append-nil (encode n)) (omega (arith, encode-length n h)))

-- no record begins with the mark
records_unmarked : (n size : ℕ) (rs : List Record) → AllExpressible rs → order_after n size (number_of (encode_records rs)) ≡ start n fifo_order size
unfolding encode_records AllExpressible decode
records_unmarked n size [] h = refl
records_unmarked n size (r ∷ rs) h =
    let t = source (encode_record r ++ encode_records rs) r (length (encode_record r)) (record-encode r (encode_records rs) h.0) in
    rw (t.kind, ne_eqb t.number order_mark (λ z. omega (arith, z, t.makes.known)))

fifo_of : (order : ℕ) → ok_order order ≡ true → eqb order priority_order ≡ false → order ≡ fifo_order
fifo_of order h p = by (eqb order fifo_order) (λ f. eqb-true order fifo_order f) (λ f. absurd (let z : ◌≡◌ {A = ℕ} 0 1 = (let c = sym h ∙ or_f (eqb order fifo_order) (eqb order priority_order) f p in cc) in omega arith))

pub start_encode : (n order : ℕ) (rs : List Record) → n < number_bound → ok_order order ≡ true → AllExpressible rs
    → start_of (start_bytes n order ++ encode_records rs) ≡ start n order (length (start_bytes n order))
unfolding start_of
start_encode n order rs h k all =
    by (eqb order priority_order)
    (λ p. rw (
      p,
      append_assoc (encode n) (encode order_mark) (encode_records rs),
      number_encode n (encode order_mark ++ encode_records rs) h,
      drop-append_seam (encode n) (encode order_mark ++ encode_records rs),
      number_encode order_mark (encode_records rs) (omega arith),
      length-append (encode n) (encode order_mark),
      eqb-true order priority_order p,
    ))
    (λ p. rw (
      p,
      append-nil (encode n),
      number_encode n (encode_records rs) h,
      drop-append_seam (encode n) (encode_records rs),
      records_unmarked n (length (encode n)) rs all,
      fifo_of order k p,
    ))

-- ---- what is read is what would be written

pub record Begun (s : List ℕ) (n order place : ℕ) : Type 0 where
  pub small : n < number_bound
  pub known : ok_order order ≡ true
  pub inside : place ≤ length s
  pub bytes : Bytes s → take place s ≡ start_bytes n order

no_start : {A : Type 0} {n o k : ℕ} → None ≡ start n o k → A
no_start e = let z : ◌≡◌ {A = ℕ} 0 1 = cc in absurd (omega arith)

module _ (s : List ℕ) (n order place : ℕ) where
  begun_as : (m o k : ℕ) → Begun s m o k → start m o k ≡ start n order place → Begun s n order place
  begun_as m o k b e =
      let same : ◌≡◌ {A = Start} (record { length = m; order = o; size = k }) (record { length = n; order = order; size = place }) = cc in
      let a : m ≡ n = ap (λ (x : Start). x.length) same in
      let c : o ≡ order = ap (λ (x : Start). x.order) same in
      let d : k ≡ place = ap (λ (x : Start). x.size) same in
      rw (← a, ← c, ← d) b

  -- the length alone
  begun_length : (m size : ℕ) → number_of s ≡ number m size → Begun s m fifo_order size
  begun_length m size q =
      record { small = number_small s m size q; known = refl; inside = (number_within s m size q).1; bytes = λ bs. encode_number s m size q bs ∙ sym (append-nil (encode m)) }

  begun_mark : (m size : ℕ) (x : Option Number) → number_of s ≡ number m size → number_of (drop size s) ≡ x → order_after m size x ≡ start n order place → Begun s n order place
  begun_mark m size None q f e = begun_as m fifo_order size (begun_length m size q) e
  begun_mark m size (Some x) q f e =
      let record { value = v; size = k } = x in
      by (eqb v order_mark)
      (λ p. begun_as m priority_order (size + k)
      (record {
        small = number_small s m size q;
        known = refl;
        inside = omega (arith, number_within s m size q, number_within (drop size s) v k f, length-drop size s);
        bytes = λ bs. take-add size k s ∙ rw (encode_number s m size q bs, encode_number (drop size s) v k f (bytes_drop size s bs), eqb-true v order_mark p);
      })
      (rw p at e))
      (λ p. begun_as m fifo_order size (begun_length m size q) (rw p at e))

  begun_number : (x : Option Number) → number_of s ≡ x → after_length x s ≡ start n order place → Begun s n order place
  begun_number None q e = no_start e
  begun_number (Some x) q e = begun_mark x.value x.size (number_of (drop x.size s)) q refl e

  pub begun : start_of s ≡ start n order place → Begun s n order place
  unfolding start_of
  begun e = begun_number (number_of s) refl e
