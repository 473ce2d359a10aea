-- A newcomer to the queue: the place where it joins. Assumes nothing.
use Prim.Native.Nat.{ℕ, ◌≤◌, ◌<◌}
use mathlib.Core.Path.{◌≡◌, refl, sym, ap, ◌∙◌}
use mathlib.Core.Bool.{Bool, true, ◌||◌}
use mathlib.Core.List.{List, [], ◌∷◌, ◌++◌}
use native.Mathlib.Omega.{arith}
use native.Mathlib.Numerals.{one-add}
use lib.Dec.{eqb, ltb}
use lib.ListN.{length, take, drop}
use lib.Seq.{take_all, take-append_seam}
use borrow.Author.Tests.{ltb-true, ltb-false, le-leb, lt-leb}
use Rattle.std.specs.Prelude.{Some, None}
use Rattle.std.specs.List.{position, position_or_len}
use Rattle.model.specs.declared.Entry.{Entry}
use Rattle.model.specs.Limits.{priority_order}
use Rattle.model.specs.Waiting.{insert}
use Rattle.model.specs.Rules.{rank_by}
use Rattle.model.specs.Places.{no_entry, pad, used, tidy}
use Rattle.model.proofs.Tests.{by, or_f_l, or_f_r}
use Rattle.model.proofs.Places.{tidy-is}
use Rattle.queue.proofs.Places.{take-pad}

module _ (order : ℕ) where
  abbrev rank : Entry → ℕ
  rank = rank_by order

  -- at most the priority
  pub rank_most : (e : Entry) → rank e ≤ e.priority
  rank_most e = by (eqb order priority_order) (λ h. rw h (omega arith)) (λ h. rw h (omega arith))

  module _ (e : Entry) where
    -- the newcomer joins at a place that is unused or of a higher rank
    abbrev pub joins : Entry → Bool
    joins x = eqb x.task 0 || ltb (rank e) (rank x)

    insert_before : (x : Entry) (r : List Entry) → joins x ≡ true → insert rank e (used (x ∷ r)) ≡ e ∷ used (x ∷ r)
    unfolding insert used
    insert_before x r h =
        by (eqb x.task 0) (λ z. rw z) (λ z. let k : ltb (rank e) (rank x) ≡ true = rw z at h in rw (z, lt-leb (rank x) (rank e) (ltb-true (rank e) (rank x) k)))

    -- with it, those from there on are a place further down, and the last place is lost
    joined : (l : List Entry) → tidy l ≡ true
        → pad no_entry (length l) (insert rank e (used l)) ≡ take (length l) (take (position_or_len joins l) l ++ e ∷ drop (position_or_len joins l) l)
    unfolding insert used tidy pad
    joined [] t = refl
    joined (x ∷ r) t =
        let k = position_or_len joins r in
        by (joins x)
        (λ h. rw (h, insert_before x r h) (ap (λ (q : List Entry). e ∷ q) (sym (ap (take (length r)) (tidy-is (x ∷ r) t) ∙ take-pad no_entry (length r) (used (x ∷ r))))))
        (λ h. let z = or_f_l (eqb x.task 0) (ltb (rank e) (rank x)) h in
        let b = ltb-false (rank e) (rank x) (or_f_r (eqb x.task 0) (ltb (rank e) (rank x)) h) in
        rw (h, z, le-leb (rank x) (rank e) b, one-add k) (ap (λ (q : List Entry). x ∷ q) (joined r (rw z at t))))

    abbrev at : List Entry → ℕ
    at l = position_or_len joins l

    -- at the place that is found, or, where there is none, nowhere
    pub joined_at : (l : List Entry) (i : ℕ) → tidy l ≡ true → Some i ≡ position joins l
        → (i < length l) × (pad no_entry (length l) (insert rank e (used l)) ≡ take (length l) (take i l ++ e ∷ drop i l))
    joined_at l i t p =
        by (ltb (at l) (length l))
        (λ h. let k : Some i ≡ Some (at l) = rw h at p in
        let j : i ≡ at l = cc in
        rw j (ltb-true (at l) (length l) h, joined l t))
        (λ h. let k : Some i ≡ None = rw h at p in absurd (cc))

    pub joined_nowhere : (l : List Entry) → tidy l ≡ true → None ≡ position joins l → pad no_entry (length l) (insert rank e (used l)) ≡ l
    joined_nowhere l t p =
        by (ltb (at l) (length l))
        (λ h. let k : None ≡ Some (at l) = rw h at p in absurd (cc))
        (λ h. joined l t ∙ rw (take_all (at l) l (ltb-false (at l) (length l) h)) (take-append_seam l (e ∷ drop (at l) l)))
