-- The loop of `read_record`: the fields read so far, in front of those that are left. Assumes nothing.
use Prim.Native.Nat.{ℕ, zero, suc, ◌+◌, ◌-◌, ◌<◌, ◌≤◌}
use mathlib.Core.Path.{◌≡◌, refl, sym, ◌∙◌}
use mathlib.Core.List.{List, [], ◌∷◌, ◌++◌, append-nil}
use mathlib.Core.Logic.{⊎_elim}
use native.Mathlib.Omega.{arith}
use native.Mathlib.Nat.{add-zero, sub-zero}
use native.Mathlib.Numerals.{add-one}
use lib.ListN.{length, take, drop, get_or, set, replicate, length-set, length-drop, length-take, get_or-eq_default}
use lib.Seq.{take_all, take-suc-set, drop-drop, get_or-drop, get_or-take}
use Rattle.std.specs.Prelude.{None, Ok, Err, IsErr}
use Rattle.numbers.specs.Number.{number, number_of}
use Rattle.numbers.proofs.Decode.{side}
use Rattle.numbers.proofs.Theorems.{number_within}
use Rattle.call_log.specs.declared.Kind.{Kind}
use Rattle.call_log.specs.declared.Record.{Record}
use Rattle.call_log.specs.Fields.{before, read_fields}
use Rattle.call_log.specs.Record.{kind_of, field_count, Read, taken, end, bad, record_from, read_as, made, after_kind, record_of}
use Rattle.call_log.proofs.Fields.{before-before}

-- the i fields in front of fs are read, and at is the place after them
pub record Reading (s : List ℕ) (k : Kind) (fs : List ℕ) (at i : ℕ) : Type 0 where
  pub same : record_of s ≡ made k (before (take i fs) at (read_fields (field_count k - i) (drop at s)))
  pub count : length fs ≡ field_count k
  pub inside : at ≤ length s

pub get_or-zeros : (n j : ℕ) → ◌≡◌ {A = ℕ} (get_or (replicate n 0) j 0) 0
get_or-zeros zero j = refl
get_or-zeros (suc n) zero = refl
get_or-zeros (suc n) (suc j) = get_or-zeros n j

-- elements with zeros behind them
get_or_padded : (fs zs : List ℕ) → ((j : ℕ) → get_or zs j 0 ≡ 0) → (j : ℕ) → get_or (fs ++ zs) j 0 ≡ get_or fs j 0
get_or_padded [] zs zeros j = zeros j
get_or_padded (f ∷ fs) zs zeros zero = refl
get_or_padded (f ∷ fs) zs zeros (suc j) = get_or_padded fs zs zeros j

abbrev pub padded : ℕ → List ℕ → List ℕ
padded n fs = fs ++ drop n (0 ∷ 0 ∷ 0 ∷ 0 ∷ [])

-- the first i elements, where the others are zeros
pub get_or_taken : (fs : List ℕ) (i : ℕ) → ((j : ℕ) → i ≤ j → get_or fs j 0 ≡ 0) → (j : ℕ) → get_or (take i fs) j 0 ≡ get_or fs j 0
get_or_taken fs i zeros j = ⊎_elim (get_or-take i fs j 0) past (side j i)
  where
    past : i ≤ j → get_or (take i fs) j 0 ≡ get_or fs j 0
    past h = get_or-eq_default (take i fs) 0 (rw (length-take i fs) (omega arith)) ∙ sym (zeros j h)

-- the list of the part &s[a..]
pub suffix : (a : ℕ) (s : List ℕ) → take (length s - a) (drop a s) ≡ drop a s
suffix a s = take_all (length s - a) (drop a s) (simp length-drop (omega arith))

pub record_none : (s : List ℕ) → length s ≡ 0 → end ≡ record_of s
unfolding record_of
record_none [] h = refl
record_none (b ∷ s) h = absurd (omega arith)

pub record-some : (s : List ℕ) → (length s ≡ 0 → ⊥) → record_of s ≡ after_kind (number_of s) s
unfolding record_of
record-some [] h = absurd (h refl)
record-some (b ∷ s) h = refl

module _ (s : List ℕ) (some : length s ≡ 0 → ⊥) where
  pub record-refused : number_of s ≡ None → bad ≡ record_of s
  record-refused e = rw (record-some s some, e)

  pub reading_start : (v n : ℕ) (fs : List ℕ) → number_of s ≡ number v n → length fs ≡ field_count (kind_of v) → Reading s (kind_of v) fs n 0
  reading_start v n fs e q = record {
    same = record-some s some ∙ rw (e, sub-zero (field_count (kind_of v)));
    count = q;
    inside = (number_within s v n e).1;
  }

module _ {s : List ℕ} {k : Kind} {fs : List ℕ} {at i : ℕ} (g : Reading s k fs at i) where
  next : i < length fs → field_count k - i ≡ suc (field_count k - (i + 1))
  next h = omega (arith, g.count)

  pub reading_refused : i < length fs → number_of (drop at s) ≡ None → bad ≡ record_of s
  unfolding read_fields
  reading_refused h e = rw (g.same, next h, e)

  pub reading_more : (v n : ℕ) → i < length fs → number_of (drop at s) ≡ number v n → Reading s k (set fs i v) (at + n) (i + 1)
  unfolding read_fields
  reading_more v n h e = record {
    same = g.same ∙ rw (next h, e, before-before, drop-drop n at s, add-one i, take-suc-set fs i v h);
    count = length-set fs i v ∙ g.count;
    inside = omega (arith, g.inside, number_within (drop at s) v n e, length-drop at s);
  }

  kept : (n j : ℕ) → get_or (padded n fs) j 0 ≡ get_or fs j 0
  kept n = get_or_padded fs (drop n (0 ∷ 0 ∷ 0 ∷ 0 ∷ [])) (λ j. get_or-drop n (0 ∷ 0 ∷ 0 ∷ 0 ∷ []) j 0 ∙ get_or-zeros 4 (n + j))

  -- the fields stand in front of zeros
  pub reading_done : (n : ℕ) → length fs ≤ i
      → read_as at (record_from k (get_or (padded n fs) 0 0) (get_or (padded n fs) 1 0) (get_or (padded n fs) 2 0) (get_or (padded n fs) 3 0)) ≡ record_of s
  unfolding read_fields
  reading_done n h =
      let z : field_count k - i ≡ 0 = omega (arith, g.count) in
      rw (g.same, z, append-nil (take i fs), take_all i fs h, add-zero at, kept n 0, kept n 1, kept n 2, kept n 3)

-- an error says nothing but that it is one
pub read_err : (x : Read) → IsErr x → x ≡ bad
read_err (Err e) h = refl
read_err (Ok x) h = cc

-- ---- an answer of the reader that is no record, as `let .. else` tells it

abbrev pub NoRecord : Read → Type 0
NoRecord x = (r : Record) (n : ℕ) → x ≡ taken r n → ⊥

pub no_record : {A : Type 0} (r : Record) (n : ℕ) → NoRecord (taken r n) → A
no_record r n other = absurd (other r n refl)
