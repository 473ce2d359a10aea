-- A record's numbers when it is read: those that were written, and those that a record which was read comes from. Assumes nothing.
use Prim.Native.Nat.{ℕ, suc, ◌+◌, ◌≤◌}
use mathlib.Core.Path.{◌≡◌, refl, sym, ap, ◌∙◌}
use mathlib.Core.List.{List, [], ◌∷◌, ◌++◌, append_assoc}
use mathlib.Core.Logic.{⊎_elim}
use native.Mathlib.Omega.{arith}
use lib.ListN.{length, drop, get_or, length-append}
use lib.Seq.{drop-append_seam}
use Rattle.std.specs.Prelude.{Option, Some, None}
use Rattle.numbers.specs.declared.Number.{Number}
use Rattle.numbers.specs.Number as specs
use Rattle.numbers.specs.Number.{number, number_of, encode}
use Rattle.numbers.proofs.Decode.{side}
use Rattle.numbers.proofs.Theorems.{number_encode, encode-length}
use Rattle.call_log.specs.declared.Record.{Record}
use Rattle.call_log.specs.declared.Record.TheVariants.{Get, Poll, Release, Cancel, Tick, PriorityGet, PriorityPoll}
use Rattle.call_log.specs.declared.Kind.{Kind}
use Rattle.call_log.specs.declared.Kind.TheVariants as kind
use Rattle.call_log.specs.Fields.{Fields, Fields·read, Fields·refused, before, read_fields, encode_fields, Small}
use Rattle.call_log.specs.Record.{limit_bound, limit_field, fields_of, kind_of, field_count, taken, end, bad, limited_by, record_from, read_as, made, after_kind, record_of, encode_record, Expressible}
use Rattle.call_log.proofs.Fields.{Listed, read_encode, read_listed, listed_more}
use Rattle.call_log.proofs.Forms.{Made, made_inv, not_taken, take_four, count-few, limit_field_lem, limit-within, limit_over}
use Rattle.call_log.proofs.Reading.{record-some}

-- a kind's number and as many fields as the kind has are read back
numbers_read : (v : ℕ) (fs rest : List ℕ) → Small (v ∷ fs) → field_count (kind_of v) ≡ length fs
    → record_of (encode_fields (v ∷ fs) ++ rest) ≡ made (kind_of v) (Fields·read fs (length (encode_fields (v ∷ fs))))
unfolding encode_fields
numbers_read v fs rest h e =
    rw (
      append_assoc (encode v) (encode_fields fs) rest,
      record-some (encode v ++ (encode_fields fs ++ rest)) (λ z. omega (arith, simp length-append at z, encode-length v h.0)),
      number_encode v (encode_fields fs ++ rest) h.0,
      drop-append_seam (encode v) (encode_fields fs ++ rest),
      e,
      read_encode fs rest h.1,
      length-append (encode v) (encode_fields fs),
    )

-- and make the record whose numbers they are
pub record_read : (r : Record) (rest : List ℕ) → Expressible r → record_of (encode_record r ++ rest) ≡ taken r (length (encode_record r))
unfolding fields_of
record_read (Get task size limit) rest h =
    let l = limit_field_lem limit h.limited in
    numbers_read 1 (task ∷ size ∷ limit_field limit ∷ []) rest h.small refl ∙ (sym (ap (read_as _) (limit-within (limit_field limit) _ l.1)) ∙ rw l.0)
record_read (Poll task size) rest h = numbers_read 2 (task ∷ size ∷ []) rest h.small refl
record_read (Release offset) rest h = numbers_read 3 (offset ∷ []) rest h.small refl
record_read (Cancel task) rest h = numbers_read 4 (task ∷ []) rest h.small refl
record_read Tick rest h = numbers_read 5 [] rest h.small refl
record_read (PriorityGet task size limit priority) rest h =
    let l = limit_field_lem limit h.limited in
    numbers_read 6 (task ∷ size ∷ limit_field limit ∷ priority ∷ []) rest h.small refl ∙ (sym (ap (read_as _) (limit-within (limit_field limit) _ l.1)) ∙ rw l.0)
record_read (PriorityPoll task size priority) rest h = numbers_read 7 (task ∷ size ∷ priority ∷ []) rest h.small refl

-- what a record comes from: the number of its kind, in the first bytes, and the fields, in those behind them
pub record Source (s : List ℕ) (r : Record) (n : ℕ) : Type 0 where
  pub number : ℕ
  pub first : ℕ
  pub fs : List ℕ
  pub size : ℕ
  pub kind : number_of s ≡ specs.number number first
  pub fields : Listed (field_count (kind_of number)) (drop first s) fs size
  pub makes : Made number (get_or fs 0 0) (get_or fs 1 0) (get_or fs 2 0) (get_or fs 3 0) (first + size) r n

module _ (s : List ℕ) (r : Record) (n : ℕ) where
  source_fields : (v m : ℕ) (x : Fields) → number_of s ≡ number v m → read_fields (field_count (kind_of v)) (drop m s) ≡ x
      → made (kind_of v) (before [] m x) ≡ taken r n → Source s r n
  source_fields v m Fields·refused q p e = not_taken e
  source_fields v m (Fields·read fs o) q p e = record {
    number = v;
    first = m;
    fs = fs;
    size = o;
    kind = q;
    fields = read_listed (field_count (kind_of v)) (drop m s) fs o p;
    makes = made_inv (get_or fs 0 0) (get_or fs 1 0) (get_or fs 2 0) (get_or fs 3 0) (m + o) r n v e;
  }

  source_kind : (x : Option Number) → number_of s ≡ x → after_kind x s ≡ taken r n → Source s r n
  source_kind None q e = not_taken e
  source_kind (Some x) q e = source_fields x.value x.size (read_fields (field_count (kind_of x.value)) (drop x.size s)) q refl e

no_end : {A : Type 0} {r : Record} {n : ℕ} → end ≡ taken r n → A
no_end e = let z : ◌≡◌ {A = ℕ} 0 1 = cc in absurd (omega arith)

pub source : (s : List ℕ) (r : Record) (n : ℕ) → record_of s ≡ taken r n → Source s r n
unfolding record_of
source [] r n e = no_end e
source (b ∷ s) r n e = source_kind (b ∷ s) r n (number_of (b ∷ s)) refl e

module _ {s : List ℕ} {r : Record} {n : ℕ} (t : Source s r n) where
  source_numbers : fields_of r ≡ t.number ∷ t.fs
  source_numbers =
      let l : length t.fs ≤ 4 = rw t.fields.count (count-few (kind_of t.number)) in
      t.makes.numbers ∙ rw (← t.fields.count, take_four t.fs l)

  -- its numbers stand there one after another
  pub source_listed : Listed (suc (field_count (kind_of t.number))) s (fields_of r) n
  source_listed =
      rw (source_numbers, ← t.makes.place)
      (listed_more (field_count (kind_of t.number)) s t.number t.first t.fs t.size t.kind t.fields)

-- the clean end stands only where nothing is left
bad_end : {A : Type 0} → bad ≡ end → A
bad_end e = let z : ◌≡◌ {A = ℕ} 0 1 = cc in absurd (omega arith)

limited_end : {A : Type 0} (c : ℕ) (r : Record) (n : ℕ) → read_as n (limited_by c r) ≡ end → A
limited_end c r n e = ⊎_elim (λ h. bad_end (ap (read_as n) (limit_over c r h) ∙ e)) (λ h. no_end (sym (ap (read_as n) (limit-within c r h) ∙ e))) (side limit_bound c)

form_end : {A : Type 0} (k : Kind) (a b c d n : ℕ) → read_as n (record_from k a b c d) ≡ end → A
form_end kind.Get a b c d n e = limited_end c _ n e
form_end kind.Poll a b c d n e = no_end (sym e)
form_end kind.Release a b c d n e = no_end (sym e)
form_end kind.Cancel a b c d n e = no_end (sym e)
form_end kind.Tick a b c d n e = no_end (sym e)
form_end kind.PriorityGet a b c d n e = limited_end c _ n e
form_end kind.PriorityPoll a b c d n e = no_end (sym e)
form_end kind.Unknown a b c d n e = bad_end e

fields_end : {A : Type 0} (k : Kind) (x : Fields) → made k x ≡ end → A
fields_end k Fields·refused e = bad_end e
fields_end k (Fields·read fs n) e = form_end k (get_or fs 0 0) (get_or fs 1 0) (get_or fs 2 0) (get_or fs 3 0) n e

kind_end : {A : Type 0} (x : Option Number) (s : List ℕ) → after_kind x s ≡ end → A
kind_end None s e = bad_end e
kind_end (Some x) s e = fields_end (kind_of x.value) (before [] x.size (read_fields (field_count (kind_of x.value)) (drop x.size s))) e

pub end_none : (s : List ℕ) → record_of s ≡ end → s ≡ []
unfolding record_of
end_none [] e = refl
end_none (b ∷ s) e = kind_end (number_of (b ∷ s)) (b ∷ s) e
