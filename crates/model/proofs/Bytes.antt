-- Laws of the pool's bytes: block list from bytes and bytes from block list are inverse, and one change after another is one change. Assumes nothing.
use Prim.Native.Nat.{ℕ, zero, suc, ◌+◌, ◌-◌, ◌*◌, ◌/◌, ◌%◌, ◌≤◌, ◌<◌}
use mathlib.Core.Path.{◌≡◌, refl, sym, ap, ◌∙◌}
use mathlib.Core.Bool.{Bool, true, false, ◌&&◌}
use mathlib.Core.List.{List, [], ◌∷◌, ◌++◌, append_assoc}
use mathlib.Core.Option.{Option, none}
use native.Mathlib.Omega.{arith}
use native.Mathlib.Nat.{div-div-eq-div-mul, mod-eq_of_lt, add-zero, add_assoc, suc-sub-suc, sub-zero}
use lib.Arith.{digits_mod, digits_div}
use lib.ListN.{length, get_or, take, drop, replicate, length-append, length-replicate, length-drop, take-append-drop, drop_of_length-le}
use lib.Seq.{length-take-le, drop_at, drop-drop, get_or-drop}
use lib.Dec.{leb, eqb}
use borrow.Author.Tests.{leb-true}
use Rattle.model.specs.Blocks.{Block, block, is_free, holds, total, tiled, carve, granted, join, freed}
use Rattle.model.specs.Bytes.{u32_at, header_at, blocks_from, blocks_of, le32, header, blank, overlay, written, mask, render, erase}
use Rattle.model.proofs.Tests.{by}
use Rattle.model.proofs.Blocks.{open_holds, tile}
use Rattle.model.proofs.Masks.{overlay-overlay, overlay-length, over_same, written-length, over_written, over_none, Covers, covers_trans, covers_append, covers_zeroed, zeroed_covers, zeroed_under, header-length, mark_length, mask-blank, Roomy}

-- ---- numbers of four bytes

digits : (x₀ x₁ x₂ x₃ a b n : ℕ) → x₀ + 256 * a ≡ n → x₁ + 256 * b ≡ a → x₂ + 256 * x₃ ≡ b → x₀ + 256 * x₁ + 65536 * x₂ + 16777216 * x₃ ≡ n
digits x₀ x₁ x₂ x₃ a b n e f g = omega arith

digit : (n : ℕ) → n % 256 + 256 * (n / 256) ≡ n
digit n = omega arith

last-digit : (n : ℕ) → n < 4294967296 → n / 16777216 < 256
last-digit n h = omega arith

le32_number : (n : ℕ) → n < 4294967296 → n % 256 + 256 * (n / 256 % 256) + 65536 * (n / 65536 % 256) + 16777216 * (n / 16777216 % 256) ≡ n
le32_number n h =
    rw (mod-eq_of_lt (last-digit n h))
    (digits (n % 256) (n / 256 % 256) (n / 65536 % 256) (n / 16777216) (n / 256) (n / 65536) n (digit n)
    (rw (div-div-eq-div-mul n 256 256) at (digit (n / 256))) (rw (div-div-eq-div-mul n 65536 256) at (digit (n / 65536))))

low : (n q m r : ℕ) → r < m → n ≡ q * m + r → n % m ≡ r
low n q m r h e = rw e (digits_mod q h)

high : (n q m r : ℕ) → r < m → n ≡ q * m + r → n / m ≡ q
high n q m r h e = rw e (digits_div q h)

number_le32 : (a b c d : ℕ) → a < 256 → b < 256 → c < 256 → d < 256 → le32 (a + 256 * b + 65536 * c + 16777216 * d) ≡ a ∷ b ∷ c ∷ d ∷ []
unfolding le32
number_le32 a b c d ha hb hc hd =
    let n = a + 256 * b + 65536 * c + 16777216 * d in
    let e₀ : n % 256 ≡ a = low n (b + 256 * c + 65536 * d) 256 a ha (omega arith) in
    let h₁ : n / 256 ≡ b + 256 * c + 65536 * d = high n (b + 256 * c + 65536 * d) 256 a ha (omega arith) in
    let e₁ : n / 256 % 256 ≡ b = low (n / 256) (c + 256 * d) 256 b hb (h₁ ∙ omega arith) in
    let h₂ : n / 65536 ≡ c + 256 * d = high n (c + 256 * d) 65536 (a + 256 * b) (omega arith) (omega arith) in
    let e₂ : n / 65536 % 256 ≡ c = low (n / 65536) d 256 c hc (h₂ ∙ omega arith) in
    let h₃ : n / 16777216 ≡ d = high n d 16777216 (a + 256 * b + 65536 * c) (omega arith) (omega arith) in
    let e₃ : n / 16777216 % 256 ≡ d = ap (λ (x : ℕ). x % 256) h₃ ∙ mod-eq_of_lt hd in
    λ i. e₀ i ∷ e₁ i ∷ e₂ i ∷ e₃ i ∷ []

-- ---- the walk, by place

blocks_skip : (k : ℕ) (l : List ℕ) → blocks_from k l ≡ blocks_from 0 (drop k l)
unfolding blocks_from
blocks_skip zero l = refl
blocks_skip (suc k) [] = refl
blocks_skip (suc k) (x ∷ l) = blocks_skip k l

drop_pred : (n x : ℕ) (l : List ℕ) → 0 < n → drop (n - 1) l ≡ drop n (x ∷ l)
drop_pred zero x l h = absurd (omega arith)
drop_pred (suc n) x l h = ap (λ (k : ℕ). drop k l) (suc-sub-suc n 0 ∙ sub-zero n)

-- where a block is to begin there is one, whatever its size
pub first_block : (l : List ℕ) → 0 < length l → (r : List Block) × (blocks_of l ≡ header_at l 0 ∷ r)
unfolding blocks_from
first_block [] h = absurd (omega arith)
first_block (x ∷ l) h = (blocks_from (u32_at (x ∷ l) 0 - 1) l, refl)

-- the first block, and those from its end on
pub blocks-first : (l : List ℕ) → 0 < length l → 0 < u32_at l 0 → blocks_of l ≡ header_at l 0 ∷ blocks_of (drop (u32_at l 0) l)
unfolding blocks_from
blocks-first [] h k = absurd (omega arith)
blocks-first (x ∷ l) h k = ap (λ (r : List Block). header_at (x ∷ l) 0 ∷ r) (blocks_skip (u32_at (x ∷ l) 0 - 1) l ∙ ap blocks_of (drop_pred (u32_at (x ∷ l) 0) x l k))

pub u32_drop : (p q : ℕ) (l : List ℕ) → u32_at (drop p l) q ≡ u32_at l (p + q)
u32_drop p q l = simp (get_or-drop, add_assoc)

pub header-drop : (p : ℕ) (l : List ℕ) → header_at (drop p l) 0 ≡ header_at l p
header-drop p l = λ i. block ((u32_drop p 0 l ∙ ap (u32_at l) (add-zero p)) i) (u32_drop p 4 l i)

-- the same from the place p on
module _ (p : ℕ) (l : List ℕ) where
  pub first-at : p < length l → (r : List Block) × (blocks_of (drop p l) ≡ header_at l p ∷ r)
  first-at h = let f = first_block (drop p l) (rw (length-drop p l) (omega arith)) in (f.0, f.1 ∙ ap (λ (b : Block). b ∷ f.0) (header-drop p l))

  pub blocks_at : p < length l → 0 < u32_at l p → blocks_of (drop p l) ≡ header_at l p ∷ blocks_of (drop (p + u32_at l p) l)
  blocks_at h k =
      let e = header-drop p l in
      let ez : u32_at (drop p l) 0 ≡ u32_at l p = ap (λ (b : Block). b.size) e in
      blocks-first (drop p l) (rw (length-drop p l) (omega arith)) (rw ez k)
      ∙ (λ i. e i ∷ blocks_of (drop (ez i) (drop p l)))
      ∙ ap (λ (r : List ℕ). header_at l p ∷ blocks_of r) (drop-drop (u32_at l p) p l)

  -- a block that lies there, and those behind it
  pub header-at : (b : Block) (bs : List Block) → blocks_of (drop p l) ≡ b ∷ bs → p < length l → header_at l p ≡ b
  header-at b bs e h = let f = first-at h in cc f.1

  pub tail_at : (b : Block) (bs : List Block) → blocks_of (drop p l) ≡ b ∷ bs → p < length l → 0 < b.size → blocks_of (drop (p + b.size) l) ≡ bs
  tail_at b bs e h k =
      let ez : u32_at l p ≡ b.size = ap (λ (x : Block). x.size) (header-at b bs e h) in
      let t = blocks_at h (rw ez k) in
      let u : blocks_of (drop (p + u32_at l p) l) ≡ bs = cc in
      rw (← ez) u

  pub blocks_end : length l ≤ p → blocks_of (drop p l) ≡ []
  unfolding blocks_from
  blocks_end h = ap blocks_of (drop_of_length-le l h)

-- where the blocks xs lie first, the others lie behind them
pub split_at : (xs ys : List Block) (p : ℕ) (l : List ℕ) → blocks_of (drop p l) ≡ xs ++ ys → Roomy xs → p + total xs ≤ length l → blocks_of (drop (p + total xs) l) ≡ ys
unfolding Roomy total
split_at [] ys p l e r h = rw (add-zero p) e
split_at (b ∷ xs) ys p l e r h =
    let t = tail_at p l b (xs ++ ys) e (omega (arith, r.0)) (omega (arith, r.0)) in
    let s : p + (b.size + total xs) ≡ p + b.size + total xs = omega arith in
    rw s (split_at xs ys (p + b.size) l t r.1 (omega arith))

-- ---- lists of blocks, one finer than the other

-- news has a header wherever olds has one
abbrev pub Finer : List Block → List Block → Type 0
Finer olds news = Covers (mask header olds) (mask header news)

pub finer_refl : (bs : List Block) → Finer bs bs
finer_refl bs = over_same (mask header bs)

pub finer_trans : (xs ys zs : List Block) → Finer xs ys → Finer ys zs → Finer xs zs
finer_trans xs ys zs h k = covers_trans (mask header xs) (mask header ys) (mask header zs) h k

-- another header in the same place
finer_swap : (b c : Block) (bs cs : List Block) → b.size ≡ c.size → Finer bs cs → Finer (b ∷ bs) (c ∷ cs)
unfolding mask
finer_swap b c bs cs e h =
    let wb = written (header b) in
    let wc = written (header c) in
    let k : length wb ≡ length wc = mark_length b ∙ sym (mark_length c) in
    let one : Covers (wb ++ replicate (b.size - 8) none) (wc ++ replicate (c.size - 8) none) =
    covers_append wb wc (replicate (b.size - 8) none) (replicate (c.size - 8) none) k
    (over_written (header c) wb (mark_length b ∙ sym (header-length c))) (rw e (over_same (replicate (c.size - 8) none))) in
    covers_append (wb ++ replicate (b.size - 8) none) (wc ++ replicate (c.size - 8) none) (mask header bs) (mask header cs)
    (simp (length-append, length-replicate, e, k)) one h

-- two blocks in the place of one
finer_split : (b c d : Block) (bs : List Block) → 8 ≤ c.size → 8 ≤ d.size → c.size + d.size ≡ b.size → Finer (b ∷ bs) (c ∷ d ∷ bs)
unfolding mask
finer_split b c d bs hc hd e =
    let wb = written (header b) in
    let wc = written (header c) in
    let inner : List (Option ℕ) = replicate (c.size - 8) none ++ (written (header d) ++ replicate (d.size - 8) none) in
    let len : length inner ≡ b.size - 8 = simp (length-append, length-replicate, written-length, header-length) (omega (arith, hc, hd, e)) in
    let k : length wb ≡ length wc = mark_length b ∙ sym (mark_length c) in
    let one : Covers (wb ++ replicate (b.size - 8) none) (wc ++ inner) =
    covers_append wb wc (replicate (b.size - 8) none) inner k (over_written (header c) wb (mark_length b ∙ sym (header-length c))) (over_none (b.size - 8) inner len) in
    let all : Covers ((wb ++ replicate (b.size - 8) none) ++ mask header bs) ((wc ++ inner) ++ mask header bs) =
    covers_append (wb ++ replicate (b.size - 8) none) (wc ++ inner) (mask header bs) (mask header bs)
    (length-append wb (replicate (b.size - 8) none) ∙ (simp (length-append, length-replicate, written-length, header-length) (omega (arith, hc, hd, e)))) one (over_same (mask header bs)) in
    simp append_assoc (simp append_assoc at all)

module _ (n t : ℕ) (n8 : 8 ≤ n) where
  carve_finer : (b : Block) (bs : List Block) → n ≤ b.size → Finer (b ∷ bs) (carve n t b bs)
  unfolding carve
  carve_finer b bs h =
      by (leb (n + 12) b.size)
      (λ s. let g = leb-true (n + 12) b.size s in rw s (finer_split b (block n t) (block (b.size - n) 0) bs n8 (omega arith) (omega arith)))
      (λ s. rw s (finer_swap b (block b.size t) bs bs refl (finer_refl bs)))

  pub granted_finer : (bs : List Block) → Finer bs (granted n t bs)
  unfolding granted
  granted_finer [] = finer_refl []
  granted_finer (b ∷ bs) =
      by (holds n b)
      (λ h. rw h (carve_finer b bs (open_holds n b h).enough))
      (λ h. rw h (finer_swap b b bs (granted n t bs) refl (granted_finer bs)))

pub tiled_roomy : (tasks : ℕ) (p : Bool) (bs : List Block) → tiled tasks p bs ≡ true → Roomy bs
unfolding Roomy
tiled_roomy tasks p [] t = tt
tiled_roomy tasks p (b ∷ bs) t = let o = tile tasks p b bs t in (omega (arith, o.least), tiled_roomy tasks (is_free b) bs o.rest)

join_finer : (b c : Block) (bs : List Block) → b.size ≡ c.size → 8 ≤ b.size → Roomy bs → Finer (join b bs) (c ∷ bs)
unfolding join Roomy
join_finer b c [] e h r = finer_swap b c [] [] e (finer_refl [])
join_finer b c (d ∷ bs) e h r =
    by (is_free d && is_free b)
    (λ k. rw k (finer_split (block (b.size + d.size) 0) c d bs (omega arith) r.0 (omega arith)))
    (λ k. rw k (finer_swap b c (d ∷ bs) (d ∷ bs) e (finer_refl (d ∷ bs))))

join_roomy : (b : Block) (bs : List Block) → 8 ≤ b.size → Roomy bs → Roomy (join b bs)
unfolding join Roomy
join_roomy b [] h r = (h, tt)
join_roomy b (d ∷ bs) h r = by (is_free d && is_free b) (λ k. rw k (omega arith, r.1)) (λ k. rw k (h, r))

freed_roomy : (p : ℕ) (bs : List Block) → Roomy bs → Roomy (freed p bs)
unfolding freed Roomy
freed_roomy p [] r = tt
freed_roomy p (b ∷ bs) r =
    by (eqb p 0)
    (λ k. rw k (join_roomy (block b.size 0) bs r.0 r.1))
    (λ k. rw k (join_roomy b (freed (p - b.size) bs) r.0 (freed_roomy (p - b.size) bs r.1)))

-- a release takes headers away and adds none
pub freed_finer : (p : ℕ) (bs : List Block) → Roomy bs → Finer (freed p bs) bs
unfolding freed Roomy
freed_finer p [] r = finer_refl []
freed_finer p (b ∷ bs) r =
    by (eqb p 0)
    (λ k. rw k (join_finer (block b.size 0) b bs refl r.0 r.1))
    (λ k. let rest = freed (p - b.size) bs in
    rw k (finer_trans (join b rest) (b ∷ rest) (b ∷ bs) (join_finer b b rest refl r.0 (freed_roomy (p - b.size) bs r.1)) (finer_swap b b rest bs refl (freed_finer (p - b.size) bs r.1))))

-- ---- render and erase

pub render-length : (bs : List Block) (l : List ℕ) → length (render bs l) ≡ length l
unfolding render
render-length bs l = overlay-length (mask header bs) l

pub erase-length : (bs : List Block) (l : List ℕ) → length (erase bs l) ≡ length l
unfolding erase
erase-length bs l = overlay-length (mask blank bs) l

pub render-render : (olds news : List Block) (l : List ℕ) → Finer olds news → render news (render olds l) ≡ render news l
unfolding render
render-render olds news l h = overlay-overlay (mask header news) (mask header olds) l ∙ ap (λ (m : List (Option ℕ)). overlay m l) h

-- where every old header is written over, nothing need be erased
pub render-erase : (olds news : List Block) (l : List ℕ) → Finer olds news → render news (erase olds l) ≡ render news l
unfolding render erase
render-erase olds news l h =
    overlay-overlay (mask header news) (mask blank olds) l
    ∙ ap (λ (m : List (Option ℕ)). overlay m l) (rw (mask-blank olds) (covers_zeroed (mask header olds) (mask header news) h))

pub erase-render : (bs : List Block) (l : List ℕ) → erase bs (render bs l) ≡ erase bs l
unfolding erase render
erase-render bs l =
    overlay-overlay (mask blank bs) (mask header bs) l ∙ ap (λ (m : List (Option ℕ)). overlay m l) (rw (mask-blank bs) (zeroed_covers (mask header bs)))

pub erase-erase : (bs cs : List Block) (l : List ℕ) → Finer bs cs → erase bs (erase cs l) ≡ erase cs l
unfolding erase
erase-erase bs cs l h =
    overlay-overlay (mask blank bs) (mask blank cs) l
    ∙ ap (λ (m : List (Option ℕ)). overlay m l) (rw (mask-blank bs, mask-blank cs) (zeroed_under (mask header bs) (mask header cs) h))

-- ---- block list from bytes, and bytes from block list

overlay-written : (h : List ℕ) (ms : List (Option ℕ)) (l : List ℕ) → length h ≤ length l → overlay (written h ++ ms) l ≡ h ++ overlay ms (drop (length h) l)
unfolding overlay written
overlay-written [] ms l e = refl
overlay-written (y ∷ h) ms [] e = absurd (omega (arith, e))
overlay-written (y ∷ h) ms (x ∷ l) e = ap (λ (r : List ℕ). y ∷ r) (overlay-written h ms l (omega (arith, e)))

overlay_none : (k : ℕ) (ms : List (Option ℕ)) (l : List ℕ) → k ≤ length l → overlay (replicate k none ++ ms) l ≡ take k l ++ overlay ms (drop k l)
unfolding overlay
overlay_none zero ms l e = refl
overlay_none (suc k) ms [] e = absurd (omega (arith, e))
overlay_none (suc k) ms (x ∷ l) e = ap (λ (r : List ℕ). x ∷ r) (overlay_none k ms l (omega (arith, e)))

-- the first block's header, what stands in the block, and the blocks behind it
pub render-cons : (b : Block) (bs : List Block) (l : List ℕ) → 8 ≤ b.size → b.size ≤ length l
    → render (b ∷ bs) l ≡ header b ++ (take (b.size - 8) (drop 8 l) ++ render bs (drop b.size l))
unfolding render mask
render-cons b bs l h k =
    let m : 8 + (b.size - 8) ≡ b.size = omega arith in
    rw (append_assoc (written (header b)) (replicate (b.size - 8) none) (mask header bs))
    (overlay-written (header b) (replicate (b.size - 8) none ++ mask header bs) l (rw (header-length b) (omega arith))
    ∙ rw (header-length b)
    (ap (λ (r : List ℕ). header b ++ r)
    (overlay_none (b.size - 8) (mask header bs) (drop 8 l) (rw (length-drop 8 l) (omega arith))
    ∙ ap (λ (r : List ℕ). take (b.size - 8) (drop 8 l) ++ overlay (mask header bs) r) (drop-drop (b.size - 8) 8 l ∙ rw m))))

pub render-nil : (l : List ℕ) → render [] l ≡ l
unfolding render mask overlay
render-nil l = refl

header_read : (b : Block) (l : List ℕ) → b.size < 4294967296 → b.owner < 4294967296 → header_at (header b ++ l) 0 ≡ b
unfolding header le32
header_read b l hs ho = λ i. block (le32_number b.size hs i) (le32_number b.owner ho i)

blocks-cons : (b : Block) (m r : List ℕ) → 0 < b.size → b.size < 4294967296 → b.owner < 4294967296 → 8 + length m ≡ b.size → blocks_of (header b ++ (m ++ r)) ≡ b ∷ blocks_of r
blocks-cons b m r h0 hs ho e =
    let l = header b ++ (m ++ r) in
    let eh = header_read b (m ++ r) hs ho in
    let es : u32_at l 0 ≡ b.size = ap (λ (c : Block). c.size) eh in
    let d : drop b.size l ≡ r = rw (← append_assoc (header b) m r) (drop_at (header b ++ m) r b.size (length-append (header b) m ∙ rw (header-length b) e)) in
    blocks-first l (rw (length-append (header b) (m ++ r)) (rw (header-length b) (omega arith))) (rw es h0)
    ∙ (λ i. eh i ∷ blocks_of (drop (es i) l))
    ∙ ap (λ (x : List ℕ). b ∷ blocks_of x) d

no_bytes : (l : List ℕ) → length l ≡ 0 → blocks_of l ≡ []
unfolding blocks_from
no_bytes [] e = refl
no_bytes (x ∷ l) e = absurd (omega arith)

module _ (tasks : ℕ) (k : tasks < 4294967296) where
  pub blocks-render : (p : Bool) (bs : List Block) (l : List ℕ) → tiled tasks p bs ≡ true → total bs ≡ length l → length l < 4294967296 → blocks_of (render bs l) ≡ bs
  unfolding total
  blocks-render p [] l t e n = no_bytes (render [] l) (render-length [] l ∙ sym e)
  blocks-render p (b ∷ bs) l t e n =
      let o = tile tasks p b bs t in
      let m = take (b.size - 8) (drop 8 l) in
      let hl : b.size ≤ length l = omega (arith, e) in
      let ml : 8 + length m ≡ b.size = rw (length-take-le (b.size - 8) (drop 8 l) (rw (length-drop 8 l) (omega (arith, hl)))) (omega (arith, o.least)) in
      rw (render-cons b bs l (omega (arith, o.least)) hl)
      (blocks-cons b m (render bs (drop b.size l)) (omega (arith, o.least)) (omega (arith, hl, n)) (omega (arith, o.owned, k)) ml
      ∙ ap (λ (r : List Block). b ∷ r) (blocks-render (is_free b) bs (drop b.size l) o.rest (rw (length-drop b.size l) (omega (arith, e))) (rw (length-drop b.size l) (omega (arith, n)))))

-- every element is a byte
abbrev pub Bytes : List ℕ → Type 0
Bytes l = (i : ℕ) → get_or l i 0 < 256

header_here : (l : List ℕ) → 8 ≤ length l → Bytes l → header (header_at l 0) ≡ take 8 l
unfolding header
header_here [] h s = absurd (omega arith)
header_here (a ∷ []) h s = absurd (omega arith)
header_here (a ∷ b ∷ []) h s = absurd (omega arith)
header_here (a ∷ b ∷ c ∷ []) h s = absurd (omega arith)
header_here (a ∷ b ∷ c ∷ d ∷ []) h s = absurd (omega arith)
header_here (a ∷ b ∷ c ∷ d ∷ e ∷ []) h s = absurd (omega arith)
header_here (a ∷ b ∷ c ∷ d ∷ e ∷ f ∷ []) h s = absurd (omega arith)
header_here (a ∷ b ∷ c ∷ d ∷ e ∷ f ∷ g ∷ []) h s = absurd (omega arith)
header_here (a ∷ b ∷ c ∷ d ∷ e ∷ f ∷ g ∷ k ∷ l) h s =
    λ i. number_le32 a b c d (s 0) (s 1) (s 2) (s 3) i ++ number_le32 e f g k (s 4) (s 5) (s 6) (s 7) i

-- three parts of a list, in their places
rejoin : (l h r : List ℕ) (n : ℕ) → 8 ≤ n → h ≡ take 8 l → r ≡ drop n l → h ++ (take (n - 8) (drop 8 l) ++ r) ≡ l
rejoin l h r n k e f =
    let m : 8 + (n - 8) ≡ n = omega arith in
    let d : drop (n - 8) (drop 8 l) ≡ drop n l = drop-drop (n - 8) 8 l ∙ ap (λ (j : ℕ). drop j l) m in
    let g : take (n - 8) (drop 8 l) ++ r ≡ drop 8 l = ap (λ (x : List ℕ). take (n - 8) (drop 8 l) ++ x) (f ∙ sym d) ∙ take-append-drop (n - 8) (drop 8 l) in
    (λ i. e i ++ g i) ∙ take-append-drop 8 l

render_list : (tasks : ℕ) (p : Bool) (bs : List Block) (l : List ℕ) → blocks_of l ≡ bs → tiled tasks p bs ≡ true → total bs ≡ length l → Bytes l → render bs l ≡ l
unfolding total
render_list tasks p [] l e t s w = render-nil l
render_list tasks p (b ∷ bs) l e t s w =
    let o = tile tasks p b bs t in
    let hl : b.size ≤ length l = omega (arith, s) in
    let first = first_block l (omega (arith, o.least, hl)) in
    let hb : header_at l 0 ≡ b = cc first.1 in
    let es : u32_at l 0 ≡ b.size = ap (λ (c : Block). c.size) hb in
    let st = blocks-first l (omega (arith, o.least, hl)) (rw es (omega (arith, o.least))) in
    let er : blocks_of (drop b.size l) ≡ bs = cc in
    let ih = render_list tasks (is_free b) bs (drop b.size l) er o.rest (rw (length-drop b.size l) (omega (arith, s))) (λ i. rw (get_or-drop b.size l i 0) (w (b.size + i))) in
    render-cons b bs l (omega (arith, o.least)) hl
    ∙ rejoin l (header b) (render bs (drop b.size l)) b.size (omega (arith, o.least)) (ap header (sym hb) ∙ header_here l (omega (arith, o.least, hl)) w) ih

pub render-blocks : (tasks : ℕ) (l : List ℕ) → tiled tasks false (blocks_of l) ≡ true → total (blocks_of l) ≡ length l → Bytes l → render (blocks_of l) l ≡ l
render-blocks tasks l t s w = render_list tasks false (blocks_of l) l refl t s w
