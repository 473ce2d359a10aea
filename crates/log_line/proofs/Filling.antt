-- The loop of `read_slots`: the arguments taken so far, in front of those that are left. Assumes nothing.
use Prim.Native.Nat.{ℕ, ◌+◌, ◌<◌, ◌≤◌}
use mathlib.Core.Path.{◌≡◌, refl, sym, ap, ◌∙◌}
use mathlib.Core.List.{List, [], ◌∷◌, ◌++◌, append_assoc, append-nil}
use native.Mathlib.Omega.{arith}
use native.Mathlib.Numerals.{add-one}
use lib.ListN.{length, take, drop, get_or, set, replicate, length-set, drop_of_length-le}
use lib.Seq.{take-suc-set, get_or-set_other, drop-cons}
use Rattle.std.specs.Prelude.{Ok, Err}
use Rattle.call_log.proofs.Reading.{get_or-zeros, get_or_taken}
use Rattle.text.specs.Words.{words_in}
use Rattle.log_text.specs.declared.Keyword.{Keyword}
use Rattle.log_text.specs.declared.Slot.TheVariants.{Number}
use Rattle.log_text.specs.declared.Why.{Why}
use Rattle.log_text.specs.Form.{form, Bounded}
use Rattle.log_text.specs.Reading.{Arguments, take_slot, before, take_slots, made}
use Rattle.log_text.proofs.Slots.{form-few}
use Rattle.log_text.proofs.Bounds.{slots_bounded}

before-nil : (x : Arguments) → before [] x ≡ x
before-nil (Ok (vs, ws)) = refl
before-nil (Err why) = refl

before-before : (us vs : List ℕ) (x : Arguments) → before us (before vs x) ≡ before (us ++ vs) x
before-before us vs (Ok (ts, ws)) = rw (append_assoc us vs ts)
before-before us vs (Err why) = refl

-- a line by the arguments at each place
made-same : (k : Keyword) (us vs : List ℕ) (ws : List (List ℕ)) → ((i : ℕ) → get_or us i 0 ≡ get_or vs i 0) → made k (Ok (us, ws)) ≡ made k (Ok (vs, ws))
made-same k us vs [] h = rw (h 0, h 1, h 2, h 3)
made-same k us vs (w ∷ ws) h = refl

-- the arguments of the first i slots are the first i of fs, and at is the place after their words
pub record Filling (s : List ℕ) (from : ℕ) (k : Keyword) (fs : List ℕ) (at i : ℕ) : Type 0 where
  pub same : take_slots (form k) (words_in (drop from s)) ≡ before (take i fs) (take_slots (drop i (form k)) (words_in (drop at s)))
  pub size : length fs ≡ 4
  pub zeros : (j : ℕ) → i ≤ j → get_or fs j 0 ≡ 0

pub filling_start : (s : List ℕ) (from : ℕ) (k : Keyword) → Filling s from k (replicate 4 0) from 0
filling_start s from k = record {
  same = sym (before-nil (take_slots (form k) (words_in (drop from s))));
  size = refl;
  zeros = λ j l. get_or-zeros 4 j;
}

module _ {s : List ℕ} {from : ℕ} {k : Keyword} {fs : List ℕ} {at i : ℕ} (g : Filling s from k fs at i) where
  module _ (h : i < length (form k)) where
    here : drop i (form k) ≡ get_or (form k) i Number ∷ drop (i + 1) (form k)
    here = rw (add-one i) (drop-cons (form k) i Number h)

    pub filling_refused : {why : Why} → take_slot (get_or (form k) i Number) (words_in (drop at s)) ≡ Err why → Err why ≡ made k (take_slots (form k) (words_in (drop from s)))
    unfolding take_slots
    filling_refused e = rw (g.same, here, e)

    pub filling_more : (v place : ℕ) → take_slot (get_or (form k) i Number) (words_in (drop at s)) ≡ Ok (v, words_in (drop place s)) → Filling s from k (set fs i v) place (i + 1)
    unfolding take_slots
    filling_more v place e = record {
      same = g.same ∙ rw (here, e, before-before, add-one i, take-suc-set fs i v (omega (arith, g.size, form-few k)));
      size = length-set fs i v ∙ g.size;
      zeros = λ j l. get_or-set_other fs i j v 0 (λ q. omega arith) ∙ g.zeros j (omega arith);
    }

  taken : (j : ℕ) → get_or (take i fs) j 0 ≡ get_or fs j 0
  taken j = get_or_taken fs i g.zeros j

  module _ (h : length (form k) ≤ i) where
    all : take_slots (form k) (words_in (drop from s)) ≡ Ok (take i fs, words_in (drop at s))
    unfolding take_slots
    all = let none : drop i (form k) ≡ [] = drop_of_length-le (form k) h in g.same ∙ rw (none, append-nil (take i fs))

    pub filling_bounded : Bounded (form k) fs
    filling_bounded =
        let b = slots_bounded (form k) (words_in (drop from s)) (take i fs) (words_in (drop at s)) all in
        record { most = λ j l. rw (← taken j) (b.most j l) }

    pub filling_done : made k (Ok (fs, words_in (drop at s))) ≡ made k (take_slots (form k) (words_in (drop from s)))
    filling_done = sym (ap (made k) all ∙ made-same k (take i fs) fs (words_in (drop at s)) taken)
