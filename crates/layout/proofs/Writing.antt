-- Laws of bytes written at a place. Assumes nothing.
use Prim.Native.Nat.{ℕ, zero, suc, ◌+◌, ◌≤◌}
use mathlib.Core.Path.{◌≡◌, refl, sym, ap, ◌∙◌}
use mathlib.Core.List.{List, [], ◌∷◌, ◌++◌, append_assoc, append-nil}
use mathlib.Core.Option.{Option, none, some}
use native.Mathlib.Nat.{zero-add, suc-add}
use native.Mathlib.Omega.{arith}
use lib.ListN.{length, drop, replicate, length-replicate}
use borrow.Rule.Slice.PartMut.{put_mid}
use Rattle.model.specs.Bytes.{overlay, written}
use Rattle.model.proofs.Masks.{over, overlay-overlay, over_append, over_same, over_written, none_over, written-length}
use Rattle.layout.specs.Layout.{put}

-- ---- masks of bytes at a place

pub replicate_add : {A : Type 0} (i j : ℕ) (x : A) → replicate (i + j) x ≡ replicate i x ++ replicate j x
replicate_add zero j x = ap (λ (k : ℕ). replicate k x) (zero-add j)
replicate_add (suc i) j x = ap (λ (k : ℕ). replicate k x) (suc-add i j) ∙ rw (replicate_add i j x)

written-append : (xs ys : List ℕ) → written (xs ++ ys) ≡ written xs ++ written ys
unfolding written
written-append [] ys = refl
written-append (x ∷ xs) ys = ap (λ (r : List (Option ℕ)). some x ∷ r) (written-append xs ys)

over_nil : (a : List (Option ℕ)) → over a [] ≡ a
unfolding over
over_nil [] = refl
over_nil (none ∷ a) = refl
over_nil (some y ∷ a) = refl

-- bytes over a mask from the place p on
pub over_put : (p : ℕ) (xs : List ℕ) (a v r : List (Option ℕ)) → length a ≡ p → length v ≡ length xs
    → over (replicate p none ++ written xs) (a ++ (v ++ r)) ≡ a ++ (written xs ++ r)
unfolding over
over_put p xs a v r e k =
    over_append (replicate p none) a (written xs) (v ++ r) (length-replicate p none ∙ sym e)
    ∙ (λ i. none_over p a e i ++ (ap (λ (m : List (Option ℕ)). over m (v ++ r)) (sym (append-nil (written xs))) ∙ over_append (written xs) v [] r (written-length xs ∙ sym k)) i)
    ∙ ap (λ (m : List (Option ℕ)). a ++ (m ++ r)) (over_written xs v k)

-- ---- put

-- one after the other
pub put-put : (p q : ℕ) (xs ys l : List ℕ) → q ≡ p + length xs → put q ys (put p xs l) ≡ put p (xs ++ ys) l
unfolding put over
put-put p q xs ys l e =
    let k = length xs in
    let m : over (replicate k none ++ written ys) (written xs ++ []) ≡ written xs ++ written ys =
    over_append (replicate k none) (written xs) (written ys) [] (length-replicate k none ∙ sym (written-length xs)) ∙ (λ i. none_over k (written xs) (written-length xs) i ++ over_nil (written ys) i) in
    let o : over (replicate q none ++ written ys) (replicate p none ++ written xs) ≡ replicate p none ++ (written xs ++ written ys) =
    rw (e, replicate_add {A = Option ℕ} p k none, append_assoc (replicate p none) (replicate k none) (written ys))
    (over_append (replicate p none) (replicate p none) (replicate k none ++ written ys) (written xs) refl
    ∙ (λ i. over_same (replicate p none) i ++ (ap (λ (r : List (Option ℕ)). over (replicate k none ++ written ys) r) (sym (append-nil (written xs))) ∙ m) i)) in
    overlay-overlay (replicate q none ++ written ys) (replicate p none ++ written xs) l
    ∙ ap (λ (r : List (Option ℕ)). overlay r l) (o ∙ ap (λ (r : List (Option ℕ)). replicate p none ++ r) (sym (written-append xs ys)))

overlay-written : (xs l : List ℕ) → length xs ≤ length l → overlay (written xs) l ≡ xs ++ drop (length xs) l
unfolding overlay written
overlay-written [] l h = refl
overlay-written (x ∷ xs) [] h = absurd (omega arith)
overlay-written (x ∷ xs) (y ∷ l) h = ap (λ (r : List ℕ). x ∷ r) (overlay-written xs l (omega arith))

-- a copy over a part of the bytes
pub put_mid-put : (p : ℕ) (xs l : List ℕ) → p + length xs ≤ length l → put_mid p (length xs) l xs ≡ put p xs l
unfolding put overlay
put_mid-put zero xs l h = sym (overlay-written xs l (omega arith))
put_mid-put (suc p) xs [] h = absurd (omega arith)
put_mid-put (suc p) xs (y ∷ l) h = ap (λ (r : List ℕ). y ∷ r) (put_mid-put p xs l (omega arith))
