-- The bytes after a grant are those of the granted block list. Assumes nothing.
use Prim.Native.Nat.{ℕ, ◌+◌, ◌-◌, ◌≤◌, ◌<◌}
use mathlib.Core.Path.{◌≡◌, refl, sym, ap, ◌∙◌}
use mathlib.Core.Bool.{true, false}
use mathlib.Core.List.{List, [], ◌∷◌, ◌++◌, append_assoc}
use mathlib.Core.Option.{Option, none}
use native.Mathlib.Omega.{arith}
use native.Mathlib.Nat.{zero-add}
use lib.ListN.{length, replicate, length-append, length-replicate}
use borrow.Author.Tests.{le-leb, lt-leb}
use Rattle.model.specs.declared.HeaderPlace.{HeaderPlace}
use Rattle.model.specs.Limits.{most_tasks}
use Rattle.model.specs.Blocks.{Block, block, total, holds, fits, first_fit, carve, granted}
use Rattle.model.specs.Bytes.{u32_at, header_at, blocks_of, header, overlay, written, mask, render}
use Rattle.model.proofs.Tests.{by, clash}
use Rattle.model.proofs.Blocks.{open_holds}
use Rattle.model.proofs.Masks.{over, overlay-overlay, header-length, mark_length, mask_append, mask-length, Roomy}
use Rattle.model.proofs.Bytes.{Bytes, header-at, split_at, tiled_roomy, granted_finer, render-erase, render-blocks}
use Rattle.layout.specs.Layout.{put, changed, Grantable}
use Rattle.layout.proofs.Sound.{open_pool}
use Rattle.layout.proofs.Writing.{replicate_add, over_put}

-- ---- bytes written over a mask

-- a block's part of a mask
abbrev pub cell : (Block → List ℕ) → Block → List (Option ℕ)
cell h b = written (h b) ++ replicate (b.size - 8) none

pub cell_length : (b : Block) → 8 ≤ b.size → length (cell header b) ≡ b.size
cell_length b h = simp (length-append, length-replicate, mark_length) (omega arith)

pub put-overlay : (p : ℕ) (xs : List ℕ) (m : List (Option ℕ)) (l : List ℕ) → put p xs (overlay m l) ≡ overlay (over (replicate p none ++ written xs) m) l
unfolding put
put-overlay p xs m l = overlay-overlay (replicate p none ++ written xs) m l

-- eight bytes in the place of eight
pub put-mask : (p : ℕ) (xs : List ℕ) (front v back : List (Option ℕ)) (l : List ℕ) → length front ≡ p → length v ≡ length xs
    → put p xs (overlay (front ++ (v ++ back)) l) ≡ overlay (front ++ (written xs ++ back)) l
put-mask p xs front v back l e k = put-overlay p xs (front ++ (v ++ back)) l ∙ ap (λ (m : List (Option ℕ)). overlay m l) (over_put p xs front v back e k)

-- a header in the place of a block's
pub put-header : (p : ℕ) (c b : Block) (front back : List (Option ℕ)) (l : List ℕ) → length front ≡ p
    → put p (header c) (overlay (front ++ (cell header b ++ back)) l) ≡ overlay (front ++ (written (header c) ++ (replicate (b.size - 8) none ++ back))) l
put-header p c b front back l e =
    ap (λ (m : List (Option ℕ)). put p (header c) (overlay (front ++ m) l)) (append_assoc (written (header b)) (replicate (b.size - 8) none) back)
    ∙ put-mask p (header c) front (written (header b)) (replicate (b.size - 8) none ++ back) l e (mark_length b ∙ sym (header-length c))

-- ---- the mask of a list that is split at a block

pub mask_split : (pre : List Block) (b : Block) (post : List Block) → mask header (pre ++ (b ∷ post)) ≡ mask header pre ++ (cell header b ++ mask header post)
unfolding mask
mask_split pre b post = mask_append header pre (b ∷ post)

module _ (pre post : List Block) (b : Block) (l : List ℕ) (r : Roomy pre) (own : overlay (mask header (pre ++ (b ∷ post))) l ≡ l) where
  front_length : length (mask header pre) ≡ total pre
  front_length = mask-length header header-length pre r

  own_split : overlay (mask header pre ++ (cell header b ++ mask header post)) l ≡ l
  own_split = ap (λ (m : List (Option ℕ)). overlay m l) (sym (mask_split pre b post)) ∙ own

  -- the whole block under another owner
  pub put_whole : (c : Block) → c.size ≡ b.size → put (total pre) (header c) l ≡ overlay (mask header (pre ++ (c ∷ post))) l
  put_whole c e =
      let back = mask header post in
      let w = written (header c) in
      ap (put (total pre) (header c)) (sym own_split)
      ∙ put-header (total pre) c b (mask header pre) back l front_length
      ∙ ap (λ (m : List (Option ℕ)). overlay (mask header pre ++ m) l) (ap (λ (k : ℕ). w ++ (replicate (k - 8) none ++ back)) (sym e) ∙ sym (append_assoc w (replicate (c.size - 8) none) back))
      ∙ ap (λ (m : List (Option ℕ)). overlay m l) (sym (mask_split pre c post))

  -- two blocks in its place
  pub put_two : (c d : Block) → 8 ≤ c.size → 8 ≤ d.size → c.size + d.size ≡ b.size
      → put (total pre + c.size) (header d) (put (total pre) (header c) l) ≡ overlay (mask header (pre ++ (c ∷ d ∷ post))) l
  unfolding mask
  put_two c d hc hd e =
      let x = mask header pre in
      let wc = written (header c) in
      let wd = written (header d) in
      let nc : List (Option ℕ) = replicate (c.size - 8) none in
      let nd : List (Option ℕ) = replicate (d.size - 8) none in
      let n8 : List (Option ℕ) = replicate 8 none in
      let back = mask header post in
      let s : b.size - 8 ≡ (c.size - 8) + (8 + (d.size - 8)) = omega arith in
      let n : replicate {A = Option ℕ} (b.size - 8) none ≡ nc ++ (n8 ++ nd) =
      ap (λ (k : ℕ). replicate k none) s ∙ replicate_add (c.size - 8) (8 + (d.size - 8)) none ∙ ap (λ (m : List (Option ℕ)). nc ++ m) (replicate_add 8 (d.size - 8) none) in
      let m₁ : x ++ (wc ++ (replicate (b.size - 8) none ++ back)) ≡ (x ++ (wc ++ nc)) ++ (n8 ++ (nd ++ back)) =
      ap (λ (m : List (Option ℕ)). x ++ (wc ++ (m ++ back))) n ∙ simp append_assoc in
      let k : length (x ++ (wc ++ nc)) ≡ total pre + c.size = simp (length-append, length-replicate, mark_length) (omega (arith, front_length)) in
      let m₂ : (x ++ (wc ++ nc)) ++ (wd ++ (nd ++ back)) ≡ x ++ (cell header c ++ (cell header d ++ back)) = simp append_assoc in
      ap (λ (y : List ℕ). put (total pre + c.size) (header d) (put (total pre) (header c) y)) (sym own_split)
      ∙ ap (put (total pre + c.size) (header d)) (put-header (total pre) c b x back l front_length ∙ ap (λ (m : List (Option ℕ)). overlay m l) m₁)
      ∙ put-mask (total pre + c.size) (header d) (x ++ (wc ++ nc)) n8 (nd ++ back) l k (sym (header-length d))
      ∙ ap (λ (m : List (Option ℕ)). overlay m l) (m₂ ∙ sym (mask_append header pre (c ∷ d ∷ post)))

-- ---- where the first run that fits lies

pub record Run (n : ℕ) (bs : List Block) : Type 0 where
  pub pre : List Block
  pub b : Block
  pub post : List Block
  pub is : bs ≡ pre ++ (b ∷ post)
  pub place : first_fit n bs ≡ total pre
  pub fit : holds n b ≡ true
  pub after : (t : ℕ) → granted n t bs ≡ pre ++ carve n t b post

pub run : (n : ℕ) (bs : List Block) → fits n bs ≡ true → Run n bs
unfolding fits first_fit granted total
run n [] h = clash false h refl
run n (b ∷ bs) h =
    by (holds n b)
    (λ e. record { pre = []; b = b; post = bs; is = refl; place = rw e; fit = e; after = λ t. rw e })
    (λ e. let r = run n bs (rw e at h) in
    record {
      pre = b ∷ r.pre;
      b = r.b;
      post = r.post;
      is = ap (λ (x : List Block). b ∷ x) r.is;
      place = rw e (ap (λ (k : ℕ). b.size + k) r.place);
      fit = r.fit;
      after = λ t. rw e (ap (λ (x : List Block). b ∷ x) (r.after t));
    })

-- ---- what grant_at goes by

-- blocks of a pool and its place
pub roomy_left : (xs ys : List Block) → Roomy (xs ++ ys) → Roomy xs
unfolding Roomy
roomy_left [] ys r = tt
roomy_left (b ∷ xs) ys r = (r.0, roomy_left xs ys r.1)

pub total-append : (xs ys : List Block) → total (xs ++ ys) ≡ total xs + total ys
unfolding total
total-append [] ys = sym (zero-add (total ys))
total-append (b ∷ xs) ys = ap (λ (k : ℕ). b.size + k) (total-append xs ys) ∙ omega arith

pub record Granting (l : List ℕ) (p n : ℕ) : Type 0 where
  pub size : ℕ
  pub read : u32_at l p ≡ size
  pub within : p + size ≤ length l
  pub enough : n ≤ size
  pub whole : (t : ℕ) → size - n < 12 → put p (header (block size t)) l ≡ changed (granted n t) l
  pub two : (t : ℕ) → 12 ≤ size - n → put (p + n) (header (block (size - n) 0)) (put p (header (block n t)) l) ≡ changed (granted n t) l

pub granting : (l : List ℕ) (place : HeaderPlace) (n : ℕ) → Bytes l → Grantable l place n → Granting l place.0 n
unfolding render carve total
granting l place n w g =
    let o = open_pool l g.pool in
    let bs = blocks_of l in
    let r = run n bs g.run in
    let pre = r.pre in
    let b = r.b in
    let post = r.post in
    let roomy = tiled_roomy most_tasks false bs o.tiling in
    let rp : Roomy pre = roomy_left pre (b ∷ post) (rw r.is at roomy) in
    let sums : total pre + (b.size + total post) ≡ length l = sym (total-append pre (b ∷ post)) ∙ ap total (sym r.is) ∙ o.sums in
    let e : place.0 ≡ total pre = g.place_is ∙ r.place in
    let f = open_holds n b r.fit in
    let len : n ≤ b.size = f.enough in
    let there = split_at pre (b ∷ post) 0 l r.is rp (omega (arith, sums)) in
    let at : header_at l (0 + total pre) ≡ b = header-at (0 + total pre) l b post there (omega (arith, sums, len, g.least)) in
    let z : u32_at l (total pre) ≡ b.size = rw (zero-add (total pre)) at (ap (λ (x : Block). x.size) at) in
    let own : overlay (mask header (pre ++ (b ∷ post))) l ≡ l =
    ap (λ (x : List Block). render x l) (sym r.is) ∙ render-blocks most_tasks l o.tiling o.sums w in
    let news : (t : ℕ) → changed (granted n t) l ≡ render (pre ++ carve n t b post) l =
    λ t. render-erase bs (granted n t bs) l (granted_finer n t (omega (arith, g.least)) bs) ∙ ap (λ (x : List Block). render x l) (r.after t) in
    rw e (record {
      size = b.size;
      read = z;
      within = omega (arith, sums);
      enough = len;
      whole = λ t h. put_whole pre post b l rp own (block b.size t) refl ∙ sym (news t ∙ rw (lt-leb (n + 12) b.size (omega arith)));
      two = λ t h.
          put_two pre post b l rp own (block n t) (block (b.size - n) 0) (omega (arith, g.least)) (omega arith) (omega arith)
          ∙ sym (news t ∙ rw (le-leb (n + 12) b.size (omega arith)));
    })
