-- Laws of masks: one mask over another, and the masks of block lists. Assumes nothing.
use Prim.Native.Nat.{ℕ, zero, suc, ◌-◌, ◌≤◌}
use mathlib.Core.Path.{◌≡◌, refl, sym, ap, ◌∙◌}
use mathlib.Core.List.{List, [], ◌∷◌, ◌++◌, append_assoc}
use mathlib.Core.Option.{Option, none, some}
use native.Mathlib.Omega.{arith}
use lib.ListN.{length, replicate, length-append, length-replicate}
use Rattle.model.specs.Blocks.{Block, total}
use Rattle.model.specs.Bytes.{le32, header, blank, overlay, written, mask}

-- ---- one mask over another

unfoldable pub over : List (Option ℕ) → List (Option ℕ) → List (Option ℕ)
over [] b = b
over (m ∷ a) [] = m ∷ a
over (none ∷ a) (m ∷ b) = m ∷ over a b
over (some y ∷ a) (m ∷ b) = some y ∷ over a b

pub overlay-overlay : (a b : List (Option ℕ)) (l : List ℕ) → overlay a (overlay b l) ≡ overlay (over a b) l
unfolding overlay over
overlay-overlay [] b l = refl
overlay-overlay (m ∷ a) [] l = refl
overlay-overlay (none ∷ a) (none ∷ b) [] = refl
overlay-overlay (none ∷ a) (some z ∷ b) [] = refl
overlay-overlay (some y ∷ a) (m ∷ b) [] = refl
overlay-overlay (none ∷ a) (none ∷ b) (x ∷ l) = ap (λ (r : List ℕ). x ∷ r) (overlay-overlay a b l)
overlay-overlay (none ∷ a) (some z ∷ b) (x ∷ l) = ap (λ (r : List ℕ). z ∷ r) (overlay-overlay a b l)
overlay-overlay (some y ∷ a) (none ∷ b) (x ∷ l) = ap (λ (r : List ℕ). y ∷ r) (overlay-overlay a b l)
overlay-overlay (some y ∷ a) (some z ∷ b) (x ∷ l) = ap (λ (r : List ℕ). y ∷ r) (overlay-overlay a b l)

pub overlay-length : (a : List (Option ℕ)) (l : List ℕ) → length (overlay a l) ≡ length l
unfolding overlay
overlay-length [] l = refl
overlay-length (m ∷ a) [] = refl
overlay-length (none ∷ a) (x ∷ l) = ap suc (overlay-length a l)
overlay-length (some y ∷ a) (x ∷ l) = ap suc (overlay-length a l)

pub over_assoc : (a b c : List (Option ℕ)) → over (over a b) c ≡ over a (over b c)
unfolding over
over_assoc [] b c = refl
over_assoc (m ∷ a) [] c = refl
over_assoc (none ∷ a) (n ∷ b) [] = refl
over_assoc (some y ∷ a) (n ∷ b) [] = refl
over_assoc (none ∷ a) (none ∷ b) (p ∷ c) = ap (λ (r : List (Option ℕ)). p ∷ r) (over_assoc a b c)
over_assoc (none ∷ a) (some z ∷ b) (p ∷ c) = ap (λ (r : List (Option ℕ)). some z ∷ r) (over_assoc a b c)
over_assoc (some y ∷ a) (none ∷ b) (p ∷ c) = ap (λ (r : List (Option ℕ)). some y ∷ r) (over_assoc a b c)
over_assoc (some y ∷ a) (some z ∷ b) (p ∷ c) = ap (λ (r : List (Option ℕ)). some y ∷ r) (over_assoc a b c)

pub over_same : (a : List (Option ℕ)) → over a a ≡ a
unfolding over
over_same [] = refl
over_same (none ∷ a) = ap (λ (r : List (Option ℕ)). none ∷ r) (over_same a)
over_same (some y ∷ a) = ap (λ (r : List (Option ℕ)). some y ∷ r) (over_same a)

pub over_append : (a c b d : List (Option ℕ)) → length a ≡ length c → over (a ++ b) (c ++ d) ≡ over a c ++ over b d
unfolding over
over_append [] [] b d e = refl
over_append [] (n ∷ c) b d e = absurd (omega (arith, e))
over_append (m ∷ a) [] b d e = absurd (omega (arith, e))
over_append (none ∷ a) (n ∷ c) b d e = ap (λ (r : List (Option ℕ)). n ∷ r) (over_append a c b d (omega (arith, e)))
over_append (some y ∷ a) (n ∷ c) b d e = ap (λ (r : List (Option ℕ)). some y ∷ r) (over_append a c b d (omega (arith, e)))

pub written-length : (x : List ℕ) → length (written x) ≡ length x
unfolding written
written-length [] = refl
written-length (a ∷ x) = ap suc (written-length x)

-- bytes over as many
pub over_written : (x : List ℕ) (b : List (Option ℕ)) → length b ≡ length x → over (written x) b ≡ written x
unfolding over written
over_written [] [] e = refl
over_written [] (n ∷ b) e = absurd (omega (arith, e))
over_written (y ∷ x) [] e = absurd (omega (arith, e))
over_written (y ∷ x) (n ∷ b) e = ap (λ (r : List (Option ℕ)). some y ∷ r) (over_written x b (omega (arith, e)))

-- nothing over as many, and as many over nothing
pub none_over : (k : ℕ) (b : List (Option ℕ)) → length b ≡ k → over (replicate k none) b ≡ b
unfolding over
none_over zero b e = refl
none_over (suc k) [] e = absurd (omega (arith, e))
none_over (suc k) (n ∷ b) e = ap (λ (r : List (Option ℕ)). n ∷ r) (none_over k b (omega (arith, e)))

pub over_none : (k : ℕ) (a : List (Option ℕ)) → length a ≡ k → over a (replicate k none) ≡ a
unfolding over
over_none zero [] e = refl
over_none zero (m ∷ a) e = absurd (omega (arith, e))
over_none (suc k) [] e = absurd (omega (arith, e))
over_none (suc k) (none ∷ a) e = ap (λ (r : List (Option ℕ)). none ∷ r) (over_none k a (omega (arith, e)))
over_none (suc k) (some y ∷ a) e = ap (λ (r : List (Option ℕ)). some y ∷ r) (over_none k a (omega (arith, e)))

-- ---- zeros in the places where a mask writes

unfoldable pub zeroed : List (Option ℕ) → List (Option ℕ)
zeroed [] = []
zeroed (none ∷ a) = none ∷ zeroed a
zeroed (some y ∷ a) = some 0 ∷ zeroed a

pub zeroed_append : (a b : List (Option ℕ)) → zeroed (a ++ b) ≡ zeroed a ++ zeroed b
unfolding zeroed
zeroed_append [] b = refl
zeroed_append (none ∷ a) b = ap (λ (r : List (Option ℕ)). none ∷ r) (zeroed_append a b)
zeroed_append (some y ∷ a) b = ap (λ (r : List (Option ℕ)). some 0 ∷ r) (zeroed_append a b)

zeroed_none : (k : ℕ) → zeroed (replicate k none) ≡ replicate k none
unfolding zeroed
zeroed_none zero = refl
zeroed_none (suc k) = ap (λ (r : List (Option ℕ)). none ∷ r) (zeroed_none k)

zeroed_over : (a b : List (Option ℕ)) → zeroed (over a b) ≡ over (zeroed a) (zeroed b)
unfolding zeroed over
zeroed_over [] b = refl
zeroed_over (none ∷ a) [] = refl
zeroed_over (some y ∷ a) [] = refl
zeroed_over (none ∷ a) (none ∷ b) = ap (λ (r : List (Option ℕ)). none ∷ r) (zeroed_over a b)
zeroed_over (none ∷ a) (some z ∷ b) = ap (λ (r : List (Option ℕ)). some 0 ∷ r) (zeroed_over a b)
zeroed_over (some y ∷ a) (none ∷ b) = ap (λ (r : List (Option ℕ)). some 0 ∷ r) (zeroed_over a b)
zeroed_over (some y ∷ a) (some z ∷ b) = ap (λ (r : List (Option ℕ)). some 0 ∷ r) (zeroed_over a b)

zeroed_swap : (a b : List (Option ℕ)) → over (zeroed a) (zeroed b) ≡ over (zeroed b) (zeroed a)
unfolding zeroed over
zeroed_swap [] [] = refl
zeroed_swap [] (none ∷ b) = refl
zeroed_swap [] (some z ∷ b) = refl
zeroed_swap (none ∷ a) [] = refl
zeroed_swap (some y ∷ a) [] = refl
zeroed_swap (none ∷ a) (none ∷ b) = ap (λ (r : List (Option ℕ)). none ∷ r) (zeroed_swap a b)
zeroed_swap (none ∷ a) (some z ∷ b) = ap (λ (r : List (Option ℕ)). some 0 ∷ r) (zeroed_swap a b)
zeroed_swap (some y ∷ a) (none ∷ b) = ap (λ (r : List (Option ℕ)). some 0 ∷ r) (zeroed_swap a b)
zeroed_swap (some y ∷ a) (some z ∷ b) = ap (λ (r : List (Option ℕ)). some 0 ∷ r) (zeroed_swap a b)

pub over_zeroed : (a : List (Option ℕ)) → over a (zeroed a) ≡ a
unfolding zeroed over
over_zeroed [] = refl
over_zeroed (none ∷ a) = ap (λ (r : List (Option ℕ)). none ∷ r) (over_zeroed a)
over_zeroed (some y ∷ a) = ap (λ (r : List (Option ℕ)). some y ∷ r) (over_zeroed a)

zeroed_self : (a : List (Option ℕ)) → over (zeroed a) a ≡ zeroed a
unfolding zeroed over
zeroed_self [] = refl
zeroed_self (none ∷ a) = ap (λ (r : List (Option ℕ)). none ∷ r) (zeroed_self a)
zeroed_self (some y ∷ a) = ap (λ (r : List (Option ℕ)). some 0 ∷ r) (zeroed_self a)

-- ---- one mask covers another

-- c writes wherever a does
abbrev pub Covers : List (Option ℕ) → List (Option ℕ) → Type 0
Covers a c = over c a ≡ c

pub covers_trans : (a b c : List (Option ℕ)) → Covers a b → Covers b c → Covers a c
covers_trans a b c h k = ap (λ (x : List (Option ℕ)). over x a) (sym k) ∙ (over_assoc c b a ∙ (ap (over c) h ∙ k))

pub covers_append : (a c b d : List (Option ℕ)) → length a ≡ length c → Covers a c → Covers b d → Covers (a ++ b) (c ++ d)
covers_append a c b d e h k = over_append c a d b (sym e) ∙ (λ i. h i ++ k i)

-- what covers a mask covers its zeros, and a mask's zeros cover it
pub covers_zeroed : (a c : List (Option ℕ)) → Covers a c → Covers (zeroed a) c
covers_zeroed a c h = covers_trans (zeroed a) a c (over_zeroed a) h

pub zeroed_covers : (a : List (Option ℕ)) → Covers a (zeroed a)
zeroed_covers a = zeroed_self a

-- zeros over the zeros of a mask that covers them
pub zeroed_under : (a c : List (Option ℕ)) → Covers a c → over (zeroed a) (zeroed c) ≡ zeroed c
zeroed_under a c h = zeroed_swap a c ∙ (sym (zeroed_over c a) ∙ ap zeroed h)

-- ---- the masks of block lists

pub header-length : (b : Block) → length (header b) ≡ 8
unfolding header
header-length b = refl

pub mark_length : (b : Block) → length (written (header b)) ≡ 8
mark_length b = written-length (header b) ∙ header-length b

pub mask-blank : (bs : List Block) → mask blank bs ≡ zeroed (mask header bs)
unfolding mask zeroed written header le32
mask-blank [] = refl
mask-blank (b ∷ bs) =
    sym (zeroed_append (written (header b) ++ replicate (b.size - 8) none) (mask header bs)
    ∙ (λ i. zeroed_append (written (header b)) (replicate (b.size - 8) none) i ++ sym (mask-blank bs) i)
    ∙ ap (λ (r : List (Option ℕ)). (zeroed (written (header b)) ++ r) ++ mask blank bs) (zeroed_none (b.size - 8)))

pub mask_append : (h : Block → List ℕ) (xs ys : List Block) → mask h (xs ++ ys) ≡ mask h xs ++ mask h ys
unfolding mask
mask_append h [] ys = refl
mask_append h (b ∷ xs) ys =
    ap (λ (r : List (Option ℕ)). (written (h b) ++ replicate (b.size - 8) none) ++ r) (mask_append h xs ys)
    ∙ sym (append_assoc (written (h b) ++ replicate (b.size - 8) none) (mask h xs) (mask h ys))

-- every block has room for a header
unfoldable pub Roomy : List Block → Type 0
Roomy [] = Unit {0}
Roomy (b ∷ bs) = (8 ≤ b.size) × Roomy bs

pub mask-length : (h : Block → List ℕ) → ((b : Block) → length (h b) ≡ 8) → (bs : List Block) → Roomy bs → length (mask h bs) ≡ total bs
unfolding mask Roomy total
mask-length h e [] r = refl
mask-length h e (b ∷ bs) r =
    let ih = mask-length h e bs r.1 in
    let k = e b in
    simp (length-append, length-replicate, written-length) (omega (arith, ih, k, r.0))
