-- The size kinds: a size is rounded to the smallest kind in use that holds it. Assumes nothing.
use Prim.Native.Nat.{ℕ, zero, suc, ◌+◌, ◌-◌, ◌*◌, ◌%◌, ◌^◌, ◌≤◌, ◌<◌}
use mathlib.Core.Path.{◌≡◌, refl}
use mathlib.Core.Bool.{true, false, ◌&&◌}
use native.Mathlib.Omega.{arith}
use native.Mathlib.Nat.{add-zero, zero-add, pow-suc}
use lib.Dec.{leb}
use lib.ListN.{get_or}
use lib.Pow.{pow_pos}
use borrow.Author.Tests.{leb-true, leb-false}
use Rattle.model.specs.Sizes.{kind, last_place, kinds_from, smallest, top_place, top_kind, lowest_place, kind_for, ok_greatest, SmallestKind}
use Rattle.model.proofs.Tests.{by, and_l, and_r}

-- ---- the sizes

-- each is twice the one before it and 12 more
pub kind_doubles : (i : ℕ) → kind (suc i) ≡ 2 * kind i + 12
kind_doubles i = rw (pow-suc 2 i) (omega (arith, pow_pos i))

pub kind_mod : (i : ℕ) → kind i % 4 ≡ 0
kind_mod i = omega (arith, pow_pos i)

pub kind-least : (i : ℕ) → 12 ≤ kind i
kind-least i = omega (arith, pow_pos i)

kind-further : (i d : ℕ) → kind i ≤ kind (d + i)
kind-further i zero = let e : 0 + i ≡ i = omega arith in rw e (omega arith)
kind-further i (suc d) =
    let e : suc d + i ≡ suc (d + i) = omega arith in
    rw e (omega (arith, kind-further i d, kind_doubles (d + i)))

pub kind_grows : (i j : ℕ) → i ≤ j → kind i ≤ kind j
kind_grows i j h = let e : j - i + i ≡ j = omega (arith, h) in rw e at (kind-further i (j - i))

-- a size of the table, by its place
pub kinds-at : (i n k : ℕ) → k < n → get_or (kinds_from i n) k 0 ≡ kind (i + k)
unfolding kinds_from
kinds-at i zero k h = absurd (omega (arith, h))
kinds-at i (suc n) zero h = rw (add-zero i)
kinds-at i (suc n) (suc k) h = let e : suc i + k ≡ i + suc k = omega arith in rw e at (kinds-at (suc i) n k (omega (arith, h)))

-- size number i, counted from 1
pub kinds_rule : (i : ℕ) → 1 ≤ i → i ≤ last_place + 1 → get_or (kinds_from 0 (last_place + 1)) (i - 1) 0 ≡ 24 * 2 ^ (i - 1) - 12
kinds_rule i l m = rw (zero-add (i - 1)) at (kinds-at 0 (last_place + 1) (i - 1) (omega (arith, l, m)))

-- ---- the smallest size that is at least s, from the place i to the one n further on

pub record Smallest (s i n r : ℕ) : Type 0 where
  pub from : i ≤ r
  pub to : r ≤ i + n
  pub holds : r < i + n → s ≤ kind r
  pub least : (j : ℕ) → i ≤ j → j < r → kind j < s

pub smallest-is : (s i n : ℕ) → Smallest s i n (smallest s i n)
unfolding smallest
smallest-is s i zero = record { from = omega arith; to = omega arith; holds = λ h. absurd (omega (arith, h)); least = λ j a b. absurd (omega (arith, a, b)) }
smallest-is s i (suc n) =
    let ih = smallest-is s (suc i) n in
    by (leb s (kind i))
    (λ h. rw h (record { from = omega arith; to = omega arith; holds = λ _. leb-true s (kind i) h; least = λ j a b. absurd (omega (arith, a, b)) }))
    (λ h. rw h (record {
      from = omega (arith, ih.from);
      to = omega (arith, ih.to);
      holds = λ b. ih.holds (omega (arith, b));
      least = λ j a b. beyond h (smallest s (suc i) n) ih j a b;
    }))
  where
    beyond : leb s (kind i) ≡ false → (r : ℕ) → Smallest s (suc i) n r → (j : ℕ) → i ≤ j → j < r → kind j < s
    beyond h r o j a b =
        by (leb j i)
        (λ e. let z : j ≡ i = omega (arith, a, leb-true j i e) in rw z (leb-false s (kind i) h))
        (λ e. o.least j (omega (arith, leb-false j i e)) b)

pub smallest-only : (s i n r : ℕ) → Smallest s i n r → r ≡ smallest s i n
smallest-only s i n r o =
    let x = smallest s i n in
    let k = smallest-is s i n in
    by (leb r x)
    (λ a. by (leb x r)
    (λ b. omega (arith, leb-true r x a, leb-true x r b))
    (λ b. let l : r < x = leb-false x r b in absurd (omega (arith, o.holds (omega (arith, l, k.to)), k.least r o.from l))))
    (λ a. let l : x < r = leb-false r x a in absurd (omega (arith, k.holds (omega (arith, l, o.to)), o.least x k.from l)))

-- ---- a greatest request that create takes

pub record Greatest (m n : ℕ) : Type 0 where
  pub most : m ≤ kind last_place
  pub room : top_kind m + 8 ≤ n

pub open_greatest : (m n : ℕ) → ok_greatest m n ≡ true → Greatest m n
open_greatest m n h =
    let a = leb m (kind last_place) in
    let b = leb (top_kind m + 8) n in
    let ab = and_r (leb 1 m) (a && b) h in
    record { most = leb-true m (kind last_place) (and_l a b ab); room = leb-true (top_kind m + 8) n (and_r a b ab) }

-- ---- the kinds in use

-- the top kind is the smallest that is at least the greatest request
pub top_holds : (m : ℕ) → m ≤ kind last_place → m ≤ top_kind m
top_holds m h =
    let o = smallest-is m 0 last_place in
    by (leb last_place (top_place m))
    (λ a. let e : top_place m ≡ last_place = omega (arith, o.to, leb-true last_place (top_place m) a) in rw e h)
    (λ a. o.holds (omega (arith, leb-false last_place (top_place m) a)))

pub top_least : (m j : ℕ) → m ≤ kind j → top_kind m ≤ kind j
top_least m j h =
    let o = smallest-is m 0 last_place in
    by (leb (top_place m) j)
    (λ a. kind_grows (top_place m) j (leb-true (top_place m) j a))
    (λ a. absurd (omega (arith, h, o.least j (omega arith) (leb-false (top_place m) j a))))

pub kind_for_most : (m s : ℕ) → kind_for m s ≤ top_kind m
kind_for_most m s =
    let low = lowest_place m in
    let o = smallest-is s low (top_place m - low) in
    kind_grows (smallest s low (top_place m - low)) (top_place m) (omega (arith, o.to))

pub kind_for_smallest : (m s : ℕ) → m ≤ kind last_place → s ≤ m → SmallestKind m s (kind_for m s)
kind_for_smallest m s l h =
    let low = lowest_place m in
    let top = top_place m in
    let r = smallest s low (top - low) in
    let o = smallest-is s low (top - low) in
    record {
      place = r;
      is = refl;
      low = o.from;
      high = omega (arith, o.to);
      holds =
          by (leb top r)
          (λ a. let e : r ≡ top = omega (arith, o.to, leb-true top r a) in rw e (omega (arith, h, top_holds m l)))
          (λ a. o.holds (omega (arith, leb-false top r a)));
      least = λ j a b k.
          by (leb r j)
          (λ x. kind_grows r j (leb-true r j x))
          (λ x. absurd (omega (arith, k, o.least j a (leb-false r j x))));
    }
