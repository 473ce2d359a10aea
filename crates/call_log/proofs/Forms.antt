-- Laws of the kinds of record: a get's limit and its field, a kind's number, and the record made of a kind's fields. Assumes nothing.
use Prim.Native.Nat.{ℕ, zero, suc, ◌<◌, ◌≤◌}
use mathlib.Core.Path.{◌≡◌, refl, sym, ap, ◌∙◌}
use mathlib.Core.Bool.{true}
use mathlib.Core.List.{List, [], ◌∷◌}
use mathlib.Core.Logic.{⊎_elim}
use native.Mathlib.Omega.{arith}
use mir.Syntax.{w32}
use mir.Val.{SFits, to_z, of_z}
use mir.ValLaws.{to_z-of_z}
use lib.IntN.{ℤ, pos, negsuc}
use lib.Signed.{le_z}
use lib.ListN.{length, take, get_or}
use borrow.Author.Tests.{le-leb, lt-leb, lt-ltb, ltb-true, eqb-true, ne_eqb}
use Rattle.std.specs.Prelude.{Some, None}
use Rattle.numbers.proofs.Decode.{side}
use Rattle.call_log.specs.declared.Record.{Record}
use Rattle.call_log.specs.declared.Record.TheVariants.{Get, Poll, Release, Cancel, Tick, PriorityGet, PriorityPoll}
use Rattle.call_log.specs.declared.Kind.{Kind}
use Rattle.call_log.specs.declared.Kind.TheVariants as kind
use Rattle.call_log.specs.declared.Taken.{Taken}
use Rattle.call_log.specs.Record.{limit_bound, limit_of, limit_field, is_limit, Limited, fields_of, kind_of, field_count, taken, bad, limited_by, record_from, read_as}

-- a limit and its field
pub limit_field_lem : (limit : ℤ) → is_limit limit ≡ true → (limit_of (limit_field limit) ≡ limit) × (limit_field limit ≤ limit_bound)
unfolding limit_of limit_field
limit_field_lem (pos n) h = (refl, omega (arith, ltb-true n limit_bound h))
limit_field_lem (negsuc n) h = (rw (eqb-true n 0 h), omega arith)

pub field_limit : (field : ℕ) → field ≤ limit_bound → (limit_field (limit_of field) ≡ field) × (is_limit (limit_of field) ≡ true)
unfolding limit_of limit_field
field_limit zero h = (refl, refl)
field_limit (suc n) h = (refl, lt-ltb n limit_bound (omega arith))

-- the same of a limit as the code reads it
abbrev read : ℤ → ℤ
read z = to_z w32 (of_z w32 z)

pub limit_test : (limit : ℤ) → SFits w32 limit → le_z (negsuc 0) (read limit) ≡ is_limit limit
limit_test (pos n) f = rw (to_z-of_z w32 (pos n) f) (sym (lt-ltb n limit_bound f.sfits))
limit_test (negsuc zero) f = refl
limit_test (negsuc (suc n)) f =
    rw (to_z-of_z w32 (negsuc (suc n)) f, lt-leb (suc n) 0 (omega arith), ne_eqb (suc n) 0 (λ z. omega arith))

-- a record with a limit field, by whether that is too great
pub limit-within : (limit : ℕ) (x : Record) → limit ≤ limit_bound → Some x ≡ limited_by limit x
limit-within limit x h = rw (le-leb limit limit_bound h)

pub limit_over : (limit : ℕ) (x : Record) → limit_bound < limit → None ≡ limited_by limit x
limit_over limit x h = rw (lt-leb limit limit_bound h)

-- the numbers from 1 to 7 are those of the kinds that there are
pub kind-unknown : (n : ℕ) → (n ≡ 1 → ⊥) → (n ≡ 2 → ⊥) → (n ≡ 3 → ⊥) → (n ≡ 4 → ⊥) → (n ≡ 5 → ⊥) → (n ≡ 6 → ⊥) → (n ≡ 7 → ⊥) → kind.Unknown ≡ kind_of n
kind-unknown zero a b c d e f g = refl
kind-unknown (suc zero) a b c d e f g = absurd (a refl)
kind-unknown (suc (suc zero)) a b c d e f g = absurd (b refl)
kind-unknown (suc (suc (suc zero))) a b c d e f g = absurd (c refl)
kind-unknown (suc (suc (suc (suc zero)))) a b c d e f g = absurd (d refl)
kind-unknown (suc (suc (suc (suc (suc zero))))) a b c d e f g = absurd (e refl)
kind-unknown (suc (suc (suc (suc (suc (suc zero)))))) a b c d e f g = absurd (f refl)
kind-unknown (suc (suc (suc (suc (suc (suc (suc zero))))))) a b c d e f g = absurd (g refl)
kind-unknown (suc (suc (suc (suc (suc (suc (suc (suc n)))))))) a b c d e f g = refl

pub count-few : (k : Kind) → field_count k ≤ 4
count-few kind.Get = omega arith
count-few kind.Poll = omega arith
count-few kind.Release = omega arith
count-few kind.Cancel = omega arith
count-few kind.Tick = omega arith
count-few kind.PriorityGet = omega arith
count-few kind.PriorityPoll = omega arith
count-few kind.Unknown = omega arith

-- equal answers of the reader have one record and one place
pub taken_record : {r x : Record} {n m : ℕ} → taken r n ≡ taken x m → r ≡ x
taken_record {r} {x} {n} {m} e = let p : ◌≡◌ {A = Taken} (record { «record» = r; size = n }) (record { «record» = x; size = m }) = cc in ap (λ (t : Taken). t.«record») p

pub taken_size : {r x : Record} {n m : ℕ} → taken r n ≡ taken x m → n ≡ m
taken_size {r} {x} {n} {m} e = let p : ◌≡◌ {A = Taken} (record { «record» = r; size = n }) (record { «record» = x; size = m }) = cc in ap (λ (t : Taken). t.size) p

pub not_taken : {A : Type 0} {r : Record} {n : ℕ} → bad ≡ taken r n → A
not_taken e = let z : ◌≡◌ {A = ℕ} 0 1 = cc in absurd (omega arith)

-- the numbers of the record r that was made of a kind's number and of its fields among a, b, c and d
pub record Made (number a b c d after : ℕ) (r : Record) (n : ℕ) : Type 0 where
  pub numbers : fields_of r ≡ number ∷ take (field_count (kind_of number)) (a ∷ b ∷ c ∷ d ∷ [])
  pub limited : Limited r
  pub known : number ≤ 7
  pub place : after ≡ n

module _ (a b c d after : ℕ) (r : Record) (n : ℕ) where
  made_as : (number : ℕ) (x : Record) → fields_of x ≡ number ∷ take (field_count (kind_of number)) (a ∷ b ∷ c ∷ d ∷ []) → Limited x → number ≤ 7
      → taken x after ≡ taken r n → Made number a b c d after r n
  made_as number x f l k e = rw (← taken_record e) (record { numbers = f; limited = l; known = k; place = taken_size e })

  -- of a record x with a limit field
  made-limited : (number : ℕ) (x : Record) → (c ≤ limit_bound → taken x after ≡ taken r n → Made number a b c d after r n) → read_as after (limited_by c x) ≡ taken r n → Made number a b c d after r n
  made-limited number x within e =
      ⊎_elim
      (λ h. not_taken (ap (read_as after) (limit_over c x h) ∙ e))
      (λ h. within h (ap (read_as after) (limit-within c x h) ∙ e))
      (side limit_bound c)

  pub made_inv : (number : ℕ) → read_as after (record_from (kind_of number) a b c d) ≡ taken r n → Made number a b c d after r n
  unfolding fields_of
  made_inv zero e = not_taken e
  made_inv (suc zero) e =
      made-limited 1 (Get a b (limit_of c)) (λ h. let l = field_limit c h in made_as 1 (Get a b (limit_of c)) (rw l.0) l.1 (omega arith)) e
  made_inv (suc (suc zero)) e = made_as 2 (Poll a b) refl tt (omega arith) e
  made_inv (suc (suc (suc zero))) e = made_as 3 (Release a) refl tt (omega arith) e
  made_inv (suc (suc (suc (suc zero)))) e = made_as 4 (Cancel a) refl tt (omega arith) e
  made_inv (suc (suc (suc (suc (suc zero))))) e = made_as 5 Tick refl tt (omega arith) e
  made_inv (suc (suc (suc (suc (suc (suc zero)))))) e =
      made-limited 6 (PriorityGet a b (limit_of c) d)
      (λ h. let l = field_limit c h in made_as 6 (PriorityGet a b (limit_of c) d) (rw l.0) l.1 (omega arith)) e
  made_inv (suc (suc (suc (suc (suc (suc (suc zero))))))) e = made_as 7 (PriorityPoll a b c) refl tt (omega arith) e
  made_inv (suc (suc (suc (suc (suc (suc (suc (suc k)))))))) e = not_taken e

-- a list of at most four elements by its elements
abbrev pub four : List ℕ → List ℕ
four fs = get_or fs 0 0 ∷ get_or fs 1 0 ∷ get_or fs 2 0 ∷ get_or fs 3 0 ∷ []

pub take_four : (fs : List ℕ) → length fs ≤ 4 → take (length fs) (four fs) ≡ fs
take_four [] h = refl
take_four (a ∷ []) h = refl
take_four (a ∷ b ∷ []) h = refl
take_four (a ∷ b ∷ c ∷ []) h = refl
take_four (a ∷ b ∷ c ∷ d ∷ []) h = refl
take_four (a ∷ b ∷ c ∷ d ∷ e ∷ fs) h = absurd (omega arith)

pub four_whole : (fs : List ℕ) → length fs ≡ 4 → four fs ≡ fs
four_whole fs e = rw e at (take_four fs (omega arith))

pub four_at : (fs : List ℕ) (i : ℕ) → i < 4 → get_or (four fs) i 0 ≡ get_or fs i 0
four_at fs zero h = refl
four_at fs (suc zero) h = refl
four_at fs (suc (suc zero)) h = refl
four_at fs (suc (suc (suc zero))) h = refl
four_at fs (suc (suc (suc (suc i)))) h = absurd (omega arith)
