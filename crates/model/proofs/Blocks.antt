-- Laws of the block list: what grant and release keep, and that a release undoes a grant. Assumes nothing.
use Prim.Native.Nat.{ℕ, ◌+◌, ◌-◌, ◌%◌, ◌≤◌, ◌<◌, max}
use mathlib.Core.Path.{◌≡◌, refl, sym, ap, ◌∙◌}
use mathlib.Core.Bool.{Bool, true, false, not, cond, ◌&&◌, ◌||◌}
use mathlib.Core.List.{List, [], ◌∷◌, ◌++◌}
use native.Mathlib.Omega.{arith}
use native.Mathlib.Nat.{zero-max}
use lib.Dec.{leb, ltb, eqb}
use borrow.Author.Tests.{leb-true, leb-false, ltb-true, ltb-false, eqb-true, le-leb, lt-leb, lt-ltb, le-ltb, eq-eqb, ne_eqb}
use Rattle.model.specs.Blocks.{Block, block, is_free, total, ok_block, tiled, holds, fits, first_fit, carve, granted, starts_at, live_at, free_at, holder, join, freed, live_count, greatest_free}
use Rattle.model.specs.Demands.{HolderOf, OneHolder}
use Rattle.model.proofs.Tests.{by, clash, and_l, and_r, and_i, and_f_r, or_f_l, or_f_r, or_f, not_t}

-- ---- a block that holds a need

pub record Holds (n : ℕ) (b : Block) : Type 0 where
  pub free : b.owner ≡ 0
  pub enough : n ≤ b.size

pub open_holds : (n : ℕ) (b : Block) → holds n b ≡ true → Holds n b
open_holds n b e =
    let f : is_free b ≡ true = and_l (is_free b) (leb n b.size) e in
    let h : leb n b.size ≡ true = and_r (is_free b) (leb n b.size) e in
    record { free = eqb-true b.owner 0 f; enough = leb-true n b.size h }

-- a free block that does not hold m is smaller
pub small : (m : ℕ) (b : Block) → b.owner ≡ 0 → holds m b ≡ false → b.size < m
small m b f e = leb-false m b.size (rw (eq-eqb b.owner 0 f) at e)

pub small_not : (m : ℕ) (b : Block) → b.size < m → holds m b ≡ false
small_not m b h = and_f_r (is_free b) (leb m b.size) (lt-leb m b.size h)

-- a free block is its size
pub free-is : (k : ℕ) (b : Block) → k ≡ b.size → b.owner ≡ 0 → ◌≡◌ {A = Block} (block k 0) b
free-is k b e f = λ i. record { size = e i; owner = sym f i }

-- ---- a grant makes no run: what did not fit before does not fit after

module _ (n t m : ℕ) where
  carve-fits : (b : Block) (bs : List Block) → holds n b ≡ true → holds m b ≡ false → fits m bs ≡ false → fits m (carve n t b bs) ≡ false
  unfolding carve fits
  carve-fits b bs h e g =
      let o = open_holds n b h in
      let l : b.size < m = small m b o.free e in
      by (leb (n + 12) b.size)
      (λ s. rw s (or_f _ _ (small_not m (block n t) (omega (arith, o.enough, l)))
      (or_f _ _ (small_not m (block (b.size - n) 0) (omega (arith, l))) g)))
      (λ s. rw s (or_f _ _ (small_not m (block b.size t) l) g))

  pub granted-fits : (bs : List Block) → fits m bs ≡ false → fits m (granted n t bs) ≡ false
  unfolding granted fits
  granted-fits [] e = refl
  granted-fits (b ∷ bs) e =
      let e1 : holds m b ≡ false = or_f_l (holds m b) (fits m bs) e in
      let e2 : fits m bs ≡ false = or_f_r (holds m b) (fits m bs) e in
      by (holds n b)
      (λ h. rw h (carve-fits b bs h e1 e2))
      (λ h. rw h (or_f (holds m b) (fits m (granted n t bs)) e1 (granted-fits bs e2)))

-- ---- a grant keeps the sum of the sizes

module _ (n t : ℕ) where
  carve-total : (b : Block) (bs : List Block) → n ≤ b.size → total (carve n t b bs) ≡ b.size + total bs
  unfolding carve total
  carve-total b bs h = by (leb (n + 12) b.size) (λ s. rw s (omega arith)) (λ s. rw s)

  pub granted-total : (bs : List Block) → total (granted n t bs) ≡ total bs
  unfolding granted total
  granted-total [] = refl
  granted-total (b ∷ bs) =
      by (holds n b)
      (λ h. rw h (carve-total b bs (open_holds n b h).enough))
      (λ h. rw h (ap (λ (k : ℕ). b.size + k) (granted-total bs)))

-- ---- a release keeps the sum of the sizes

join-total : (b : Block) (bs : List Block) → total (join b bs) ≡ b.size + total bs
unfolding total join
join-total b [] = refl
join-total b (c ∷ bs) = by (is_free c && is_free b) (λ h. rw h (omega arith)) (λ h. rw h)

pub freed-total : (p : ℕ) (bs : List Block) → total (freed p bs) ≡ total bs
unfolding total freed
freed-total p [] = refl
freed-total p (b ∷ bs) =
    by (eqb p 0)
    (λ h. rw h (join-total (block b.size 0) bs))
    (λ h. rw h (join-total b (freed (p - b.size) bs) ∙ ap (λ (k : ℕ). b.size + k) (freed-total (p - b.size) bs)))

pub greatest-total : (bs : List Block) → greatest_free bs ≤ total bs
unfolding greatest_free total
greatest-total [] = omega arith
greatest-total (b ∷ bs) = let ih = greatest-total bs in by (is_free b) (λ h. rw h (omega (arith, ih))) (λ h. rw h (omega (arith, ih)))

-- ---- the tiling, opened

module _ (tasks : ℕ) where
  pub record Tile (p : Bool) (b : Block) (bs : List Block) : Type 0 where
    pub by_four : b.size % 4 ≡ 0
    pub least : 12 ≤ b.size
    pub owned : b.owner ≤ tasks
    pub apart : is_free b && p ≡ false
    pub rest : tiled tasks (is_free b) bs ≡ true

  pub tile : (p : Bool) (b : Block) (bs : List Block) → tiled tasks p (b ∷ bs) ≡ true → Tile p b bs
  unfolding tiled
  tile p b bs e =
      let ok : ok_block tasks b ≡ true = and_l (ok_block tasks b) (not (is_free b && p) && tiled tasks (is_free b) bs) e in
      let e2 : not (is_free b && p) && tiled tasks (is_free b) bs ≡ true = and_r (ok_block tasks b) _ e in
      let ok2 : leb 12 b.size && leb b.owner tasks ≡ true = and_r (eqb (b.size % 4) 0) _ ok in
      record {
        by_four = eqb-true (b.size % 4) 0 (and_l (eqb (b.size % 4) 0) (leb 12 b.size && leb b.owner tasks) ok);
        least = leb-true 12 b.size (and_l (leb 12 b.size) (leb b.owner tasks) ok2);
        owned = leb-true b.owner tasks (and_r (leb 12 b.size) (leb b.owner tasks) ok2);
        apart = not_t (is_free b && p) (and_l (not (is_free b && p)) (tiled tasks (is_free b) bs) e2);
        rest = and_r (not (is_free b && p)) (tiled tasks (is_free b) bs) e2;
      }

  pub untile : (p : Bool) (b : Block) (bs : List Block) → Tile p b bs → tiled tasks p (b ∷ bs) ≡ true
  unfolding tiled
  untile p b bs o =
      and_i (ok_block tasks b) _
      (and_i (eqb (b.size % 4) 0) _ (eq-eqb (b.size % 4) 0 o.by_four)
      (and_i (leb 12 b.size) _ (le-leb 12 b.size o.least) (le-leb b.owner tasks o.owned)))
      (and_i (not (is_free b && p)) _ (rw o.apart) o.rest)

  -- what may follow a free block may follow any
  pub loosen : (p : Bool) (bs : List Block) → tiled tasks p bs ≡ true → tiled tasks false bs ≡ true
  unfolding tiled
  loosen p [] e = refl
  loosen p (b ∷ bs) e =
      let o = tile p b bs e in
      untile false b bs (record { by_four = o.by_four; least = o.least; owned = o.owned; apart = and_f_r (is_free b) false refl; rest = o.rest })

  -- ---- a need fits exactly if the greatest free run holds it

  pub fits-greatest : (n : ℕ) (p : Bool) (bs : List Block) → 9 ≤ n → tiled tasks p bs ≡ true → fits n bs ≡ leb n (greatest_free bs + 8)
  unfolding fits greatest_free
  fits-greatest n p [] h t = sym (lt-leb n 8 (omega arith))
  fits-greatest n p (b ∷ bs) h t =
      let o = tile p b bs t in
      let ih = fits-greatest n (is_free b) bs h o.rest in
      by (is_free b)
      (λ f. rw (f, ih) (greater b.size (greatest_free bs) o.least))
      (λ f. rw (f, ih, zero-max (greatest_free bs)))
    where
      greater : (z g : ℕ) → 12 ≤ z → leb n z || leb n (g + 8) ≡ leb n (max (z - 8) g + 8)
      greater z g k =
          by (leb n z)
          (λ e. rw e (sym (le-leb n (max (z - 8) g + 8) (omega (arith, leb-true n z e)))))
          (λ e. rw e (by (leb n (g + 8))
          (λ f. rw f (sym (le-leb n (max (z - 8) g + 8) (omega (arith, leb-true n (g + 8) f)))))
          (λ f. rw f (sym (lt-leb n (max (z - 8) g + 8) (omega (arith, leb-false n z e, leb-false n (g + 8) f)))))))

  -- ---- a grant keeps the tiling

  module _ (n t : ℕ) (n4 : n % 4 ≡ 0) (n12 : 12 ≤ n) (t1 : 1 ≤ t) (tk : t ≤ tasks) where
    live : eqb t 0 ≡ false
    live = ne_eqb t 0 (omega arith)

    carve-tiled : (p : Bool) (b : Block) (bs : List Block) → holds n b ≡ true → Tile p b bs → tiled tasks p (carve n t b bs) ≡ true
    unfolding carve
    carve-tiled p b bs h o =
        let f = open_holds n b h in
        let r : tiled tasks true bs ≡ true = rw (eq-eqb b.owner 0 f.free) at o.rest in
        by (leb (n + 12) b.size)
        (λ s. let g = leb-true (n + 12) b.size s in
        let rest : Block = block (b.size - n) 0 in
        let first : Block = block n t in
        rw s (untile p first (rest ∷ bs) (record {
          by_four = n4;
          least = n12;
          owned = tk;
          apart = rw live;
          rest = untile (is_free first) rest bs (record { by_four = omega (arith, o.by_four); least = omega arith; owned = omega arith; apart = live; rest = r });
        })))
        (λ s. let whole : Block = block b.size t in
        rw s (untile p whole bs (record {
          by_four = o.by_four;
          least = o.least;
          owned = tk;
          apart = rw live;
          rest = rw live (loosen true bs r);
        })))

    pub granted-tiled : (p : Bool) (bs : List Block) → tiled tasks p bs ≡ true → tiled tasks p (granted n t bs) ≡ true
    unfolding granted
    granted-tiled p [] e = e
    granted-tiled p (b ∷ bs) e =
        let o = tile p b bs e in
        by (holds n b)
        (λ h. rw h (carve-tiled p b bs h o))
        (λ h. rw h (untile p b (granted n t bs)
        (record { by_four = o.by_four; least = o.least; owned = o.owned; apart = o.apart; rest = granted-tiled (is_free b) bs o.rest })))

  -- ---- a release keeps the tiling

  nil-tiled : (p : Bool) → tiled tasks p [] ≡ true
  unfolding tiled
  nil-tiled p = refl

  -- a block in front of blocks that may stand after a live one
  join-tiled : (p : Bool) (b : Block) (bs : List Block) → b.size % 4 ≡ 0 → 12 ≤ b.size → b.owner ≤ tasks → is_free b && p ≡ false
      → tiled tasks false bs ≡ true → tiled tasks p (join b bs) ≡ true
  unfolding join
  join-tiled p b [] b4 b12 bk a e = untile p b [] (record { by_four = b4; least = b12; owned = bk; apart = a; rest = nil-tiled (is_free b) })
  join-tiled p b (c ∷ bs) b4 b12 bk a e =
      let o = tile false c bs e in
      by (is_free c && is_free b)
      (λ h. rw h (untile p (block (b.size + c.size) 0) bs
      (record { by_four = omega (arith, o.by_four, b4); least = omega arith; owned = omega arith; apart = rw (and_r (is_free c) (is_free b) h) at a; rest = rw (and_l (is_free c) (is_free b) h) at o.rest })))
      (λ h. rw h (untile p b (c ∷ bs) (record {
        by_four = b4;
        least = b12;
        owned = bk;
        apart = a;
        rest = untile (is_free b) c bs (record { by_four = o.by_four; least = o.least; owned = o.owned; apart = h; rest = o.rest });
      })))

  pub freed-tiled : (p : Bool) (q : ℕ) (bs : List Block) → tiled tasks p bs ≡ true → tiled tasks false (freed q bs) ≡ true
  unfolding freed
  freed-tiled p q [] e = nil-tiled false
  freed-tiled p q (b ∷ bs) e =
      let o = tile p b bs e in
      by (eqb q 0)
      (λ h. rw h (join-tiled false (block b.size 0) bs o.by_four o.least (omega arith) refl (loosen (is_free b) bs o.rest)))
      (λ h. rw h (join-tiled false b (freed (q - b.size) bs) o.by_four o.least o.owned (and_f_r (is_free b) false refl) (freed-tiled (is_free b) (q - b.size) bs o.rest)))

  -- ---- a granted block, released at once, leaves the blocks as they were

  -- a block in front of what may follow it stays apart
  pub join_apart : (b : Block) (bs : List Block) → tiled tasks (is_free b) bs ≡ true → join b bs ≡ b ∷ bs
  unfolding join
  join_apart b [] e = refl
  join_apart b (c ∷ bs) e = rw (tile (is_free b) c bs e).apart

  module _ (n t : ℕ) (t1 : 1 ≤ t) where
    carve-live : (b : Block) (bs : List Block) → live_at 0 (carve n t b bs) ≡ true
    unfolding starts_at carve
    carve-live b bs =
        let l : eqb t 0 ≡ false = ne_eqb t 0 (omega arith) in
        by (leb (n + 12) b.size) (λ s. rw (s, l)) (λ s. rw (s, l))

    pub granted-live : (p : Bool) (bs : List Block) → tiled tasks p bs ≡ true → fits n bs ≡ true → live_at (first_fit n bs) (granted n t bs) ≡ true
    unfolding granted fits first_fit starts_at
    granted-live p [] e f = f
    granted-live p (b ∷ bs) e f =
        let o = tile p b bs e in
        by (holds n b)
        (λ h. rw h (carve-live b bs))
        (λ h. let f2 : fits n bs ≡ true = rw h at f in
        let z : eqb (b.size + first_fit n bs) 0 ≡ false = ne_eqb (b.size + first_fit n bs) 0 (omega (arith, o.least)) in
        let l : leb b.size (b.size + first_fit n bs) ≡ true = le-leb b.size (b.size + first_fit n bs) (omega arith) in
        let d : b.size + first_fit n bs - b.size ≡ first_fit n bs = omega arith in
        rw h (rw (z, l, d) (granted-live (is_free b) bs o.rest f2)))

    carve-freed : (b : Block) (bs : List Block) → holds n b ≡ true → tiled tasks (is_free b) bs ≡ true → freed 0 (carve n t b bs) ≡ b ∷ bs
    unfolding freed carve join
    carve-freed b bs h e =
        let o = open_holds n b h in
        let r : tiled tasks true bs ≡ true = rw (eq-eqb b.owner 0 o.free) at e in
        by (leb (n + 12) b.size)
        (λ s. rw s (ap (λ (c : Block). c ∷ bs) (free-is (n + (b.size - n)) b (omega (arith, o.enough)) o.free)))
        (λ s. rw s (join_apart (block b.size 0) bs r ∙ ap (λ (c : Block). c ∷ bs) (free-is b.size b refl o.free)))

    pub granted-freed : (p : Bool) (bs : List Block) → tiled tasks p bs ≡ true → fits n bs ≡ true → freed (first_fit n bs) (granted n t bs) ≡ bs
    unfolding granted fits first_fit freed
    granted-freed p [] e f = refl
    granted-freed p (b ∷ bs) e f =
        let o = tile p b bs e in
        by (holds n b)
        (λ h. rw h (carve-freed b bs h o.rest))
        (λ h. let f2 : fits n bs ≡ true = rw h at f in
        let z : eqb (b.size + first_fit n bs) 0 ≡ false = ne_eqb (b.size + first_fit n bs) 0 (omega (arith, o.least)) in
        let d : b.size + first_fit n bs - b.size ≡ first_fit n bs = omega arith in
        rw h (rw (z, d) (rw (granted-freed (is_free b) bs o.rest f2) (join_apart b bs o.rest))))

-- ---- live blocks: a grant makes one more, a release one less

module _ (n t : ℕ) (t1 : 1 ≤ t) where
  carve-count : (b : Block) (bs : List Block) → live_count (carve n t b bs) ≡ 1 + live_count bs
  unfolding carve live_count
  carve-count b bs =
      let l : eqb t 0 ≡ false = ne_eqb t 0 (omega arith) in
      by (leb (n + 12) b.size) (λ s. rw (s, l) (omega arith)) (λ s. rw (s, l))

  pub granted-count : (bs : List Block) → fits n bs ≡ true → live_count (granted n t bs) ≡ 1 + live_count bs
  unfolding granted fits live_count
  granted-count [] f = clash false f refl
  granted-count (b ∷ bs) f =
      by (holds n b)
      (λ h. rw (h, eq-eqb b.owner 0 (open_holds n b h).free) (omega (arith, carve-count b bs)))
      (λ h. rw h (omega (arith, granted-count bs (rw h at f))))

join-count : (b : Block) (bs : List Block) → live_count (join b bs) ≡ cond (is_free b) 0 1 + live_count bs
unfolding join live_count
join-count b [] = refl
join-count b (c ∷ bs) =
    by (is_free c && is_free b)
    (λ h. rw h (rw (and_l (is_free c) (is_free b) h, and_r (is_free c) (is_free b) h) (omega arith)))
    (λ h. rw h)

pub freed-count : (p : ℕ) (bs : List Block) → live_at p bs ≡ true → 1 + live_count (freed p bs) ≡ live_count bs
unfolding freed starts_at live_count
freed-count p [] e = clash false e refl
freed-count p (b ∷ bs) e =
    by (eqb p 0)
    (λ h. rw (h, not_t (is_free b) (rw h at e)) (omega (arith, join-count (block b.size 0) bs)))
    (λ h. let l : leb b.size p && live_at (p - b.size) bs ≡ true = rw h at e in
    let ih = freed-count (p - b.size) bs (and_r (leb b.size p) (live_at (p - b.size) bs) l) in
    rw h (omega (arith, join-count b (freed (p - b.size) bs), ih)))

-- without a live block all is one free run
module _ (tasks : ℕ) where
  behind-free : (bs : List Block) → tiled tasks true bs ≡ true → live_count bs ≡ 0 → total bs ≡ 0
  unfolding total live_count
  behind-free [] e z = refl
  behind-free (b ∷ bs) e z =
      by (is_free b)
      (λ f. clash (is_free b && true) (and_i (is_free b) true f refl) (tile tasks true b bs e).apart)
      (λ f. absurd (omega (arith, rw f at z)))

  pub free-fits : (n : ℕ) (bs : List Block) → 1 ≤ n → n ≤ total bs → tiled tasks false bs ≡ true → live_count bs ≡ 0 → fits n bs ≡ true
  unfolding total live_count fits
  free-fits n [] h l e z = absurd (omega arith)
  free-fits n (b ∷ bs) h l e z =
      by (is_free b)
      (λ f. let none : total bs ≡ 0 = behind-free bs (rw f at (tile tasks false b bs e).rest) (omega (arith, rw f at z)) in
      rw (f, le-leb n b.size (omega (arith, none))))
      (λ f. absurd (omega (arith, rw f at z)))

-- ---- where a block starts, and which block holds a byte

pub live_not_free : (p : ℕ) (bs : List Block) → live_at p bs ≡ true → free_at p bs ≡ false
unfolding starts_at
live_not_free p [] h = refl
live_not_free p (b ∷ bs) h =
    by (eqb p 0)
    (λ z. rw z (not_t (is_free b) (rw z at h)))
    (λ z. let g : leb b.size p && live_at (p - b.size) bs ≡ true = rw z at h in
    rw z (and_f_r (leb b.size p) _ (live_not_free (p - b.size) bs (and_r (leb b.size p) _ g))))

-- a block that starts at p, in blocks that may follow one another
pub record Starts (p : ℕ) (bs : List Block) : Type 0 where
  pub by_four : p % 4 ≡ 0
  pub within : p + 12 ≤ total bs
  pub holds : (i : ℕ) → i ≡ p + 8 → holder i bs ≡ p

pub starts : (tasks : ℕ) (test : Block → Bool) (p : ℕ) (q : Bool) (bs : List Block) → tiled tasks q bs ≡ true → starts_at test p bs ≡ true → Starts p bs
unfolding starts_at total holder
starts tasks test p q [] t h = clash false h refl
starts tasks test p q (b ∷ bs) t h =
    let o = tile tasks q b bs t in
    by (eqb p 0)
    (λ z. let e = eqb-true p 0 z in
    record { by_four = omega (arith, e); within = omega (arith, e, o.least); holds = λ i x. rw (lt-ltb i b.size (omega (arith, e, o.least))) (sym e) })
    (λ z. let g : leb b.size p && starts_at test (p - b.size) bs ≡ true = rw z at h in
    let k = leb-true b.size p (and_l (leb b.size p) _ g) in
    let r = starts tasks test (p - b.size) (is_free b) bs o.rest (and_r (leb b.size p) _ g) in
    record {
      by_four = omega (arith, r.by_four, o.by_four);
      within = omega (arith, r.within);
      holds = λ i x. rw (le-ltb i b.size (omega arith), r.holds (i - b.size) (omega arith)) (omega arith);
    })

-- the byte i lies in the block that holds it
inside : (i : ℕ) (bs : List Block) → i < total bs → HolderOf i bs (holder i bs)
unfolding total holder
inside i [] h = absurd (omega arith)
inside i (b ∷ bs) h =
    by (ltb i b.size)
    (λ e. let k = ltb-true i b.size e in
    rw e (record { pre = []; b = b; post = bs; is = refl; place = refl; from = omega arith; to = omega arith }))
    (λ e. let k = ltb-false i b.size e in
    let r = inside (i - b.size) bs (omega arith) in
    rw e (record {
      pre = b ∷ r.pre;
      b = r.b;
      post = r.post;
      is = ap (λ (x : List Block). b ∷ x) r.is;
      place = ap (λ (n : ℕ). b.size + n) r.place;
      from = omega (arith, r.from);
      to = omega (arith, r.to);
    }))

-- and in no other
held_by : (i : ℕ) (pre : List Block) (b : Block) (post : List Block) → total pre ≤ i → i < total pre + b.size → holder i (pre ++ (b ∷ post)) ≡ total pre
unfolding total holder
held_by i [] b post h k = rw (lt-ltb i b.size (omega arith))
held_by i (c ∷ pre) b post h k =
    rw (le-ltb i c.size (omega arith)) (ap (λ (n : ℕ). c.size + n) (held_by (i - c.size) pre b post (omega arith) (omega arith)))

pub held : (i : ℕ) (bs : List Block) → i < total bs → OneHolder i bs (holder i bs)
held i bs h =
    record {
      holds = inside i bs h;
      only = λ x o.
          o.place ∙ sym (held_by i o.pre o.b o.post (omega (arith, o.place, o.from)) (omega (arith, o.place, o.to))) ∙ ap (holder i) (sym o.is);
    }
