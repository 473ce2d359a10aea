-- The bytes after a release are those of the freed block list. Assumes nothing.
use Prim.Native.Nat.{ℕ, ◌+◌, ◌-◌, ◌≤◌, ◌<◌}
use mathlib.Core.Path.{◌≡◌, refl, sym, ap, ◌∙◌}
use mathlib.Core.Bool.{Bool, true, false, cond, ◌&&◌, ◌||◌, and-true}
use mathlib.Core.List.{List, [], ◌∷◌, ◌++◌, append_assoc, append-nil}
use mathlib.Core.Option.{Option, none}
use native.Mathlib.Omega.{arith}
use native.Mathlib.Nat.{zero-add, add-zero}
use lib.ListN.{length, drop, replicate, length-append, length-replicate}
use lib.Dec.{leb, eqb}
use borrow.Author.Tests.{leb-true, leb-false, lt-leb, eqb-true, eqb-false, eq-eqb, ne_eqb, lt-ltb, le-ltb}
use Rattle.std.specs.Prelude.{Some}
use Rattle.model.specs.Limits.{most_tasks}
use Rattle.model.specs.Blocks.{Block, block, is_free, total, tiled, holds, fits, starts_at, live_at, join, freed}
use Rattle.model.specs.Bytes.{u32_at, header_at, blocks_of, le32, header, blank, overlay, written, mask, render, erase}
use Rattle.model.proofs.Tests.{by, clash, and_l, and_r, and_f_r, not_t}
use Rattle.model.proofs.Blocks.{tile}
use Rattle.model.proofs.Masks.{over, overlay-overlay, over_append, over_written, none_over, over_zeroed, written-length, header-length, mark_length, mask-blank, mask_append, mask-length, Roomy}
use Rattle.model.proofs.Bytes.{Bytes, header-at, tail_at, split_at, tiled_roomy, render-blocks}
use Rattle.layout.specs.declared.Spot.{Spot}
use Rattle.layout.specs.declared.Target.TheVariants as target
use Rattle.layout.specs.Layout.{put, seek, sought, changed, Releasable, swallowed, swallow_of}
use Rattle.layout.proofs.Sound.{open_pool}
use Rattle.layout.proofs.Granting.{cell, cell_length, put-header, roomy_left, total-append}

-- ---- the block released, with the free blocks before and behind it

-- at most one block, and it is free
pub data FreeOne : List Block → Type 0 where
  no_one : FreeOne []
  one : (f : Block) → is_free f ≡ true → FreeOne (f ∷ [])

-- no free block comes first
unfoldable pub LiveFirst : List Block → Type 0
LiveFirst [] = Unit {0}
LiveFirst (d ∷ ds) = is_free d ≡ false

-- what a free block of z bytes takes in of the blocks behind it
record Behind (z : ℕ) (rest : List Block) : Type 0 where
  tail : List Block
  post : List Block
  is : rest ≡ tail ++ post
  tail_free : FreeOne tail
  next : tail ≡ [] → LiveFirst post
  after : join (block z 0) rest ≡ block (z + total tail) 0 ∷ post

behind : (z : ℕ) (rest : List Block) → Behind z rest
unfolding join total LiveFirst
behind z [] = record { tail = []; post = []; is = refl; tail_free = no_one; next = λ e. tt; after = ap (λ (k : ℕ). block k 0 ∷ []) (sym (add-zero z)) }
behind z (c ∷ cs) =
    by (is_free c)
    (λ e. record {
      tail = c ∷ [];
      post = cs;
      is = refl;
      tail_free = one c e;
      next = λ q. absurd (let x : ◌≡◌ {A = ℕ} 0 1 = cc in omega arith);
      after = rw e (ap (λ (k : ℕ). block k 0 ∷ cs) (omega arith));
    })
    (λ e. record { tail = []; post = c ∷ cs; is = refl; tail_free = no_one; next = λ q. e; after = rw e (ap (λ (k : ℕ). block k 0 ∷ c ∷ cs) (sym (add-zero z))) })

pub record Around (p : ℕ) (bs : List Block) : Type 0 where
  pub pre : List Block
  pub lead : List Block
  pub b : Block
  pub tail : List Block
  pub post : List Block
  pub is : bs ≡ pre ++ (lead ++ (b ∷ (tail ++ post)))
  pub place : p ≡ total pre + total lead
  pub least : 12 ≤ b.size
  pub live : is_free b ≡ false
  pub lead_free : FreeOne lead
  pub tail_free : FreeOne tail
  pub next : tail ≡ [] → LiveFirst post
  pub after : freed p bs ≡ pre ++ (block (total lead + (b.size + total tail)) 0 ∷ post)
  -- where the walk finds it by any byte i of it, from a place `at` on, where the free bytes that end there begin at `free`
  pub spot : (i at free : ℕ) → p ≤ i → i < p + b.size → seek (sought (target.Holder (record { 0 = at + i }))) at free bs
      ≡ Some (record { place = record { 0 = at + p }; free = record { 0 = cond (eqb p 0) free (at + total pre) } })

join_live : (b : Block) (bs : List Block) → is_free b ≡ false → join b bs ≡ b ∷ bs
unfolding join
join_live b [] e = refl
join_live b (c ∷ bs) e = by (is_free c) (λ f. rw (f, e)) (λ f. rw f)

join_apart : (b : Block) (bs : List Block) → LiveFirst bs → join b bs ≡ b ∷ bs
unfolding join LiveFirst
join_apart b [] e = refl
join_apart b (c ∷ bs) e = rw e

-- found at the first block
head_spot : (b : Block) (bs : List Block) (i at free : ℕ) → i < b.size
    → seek (sought (target.Holder (record { 0 = at + i }))) at free (b ∷ bs) ≡ Some (record { place = record { 0 = at }; free = record { 0 = free } })
unfolding seek
head_spot b bs i at free h = rw (lt-ltb (at + i) (at + b.size) (omega arith))

-- passed by
pass_spot : (c : Block) (bs : List Block) (i at free : ℕ) → c.size ≤ i
    → seek (sought (target.Holder (record { 0 = at + i }))) at free (c ∷ bs)
    ≡ seek (sought (target.Holder (record { 0 = at + c.size + (i - c.size) }))) (at + c.size) (cond (is_free c) at (at + c.size)) bs
unfolding seek
pass_spot c bs i at free h =
    let k : at + c.size + (i - c.size) ≡ at + i = omega arith in
    rw (k, le-ltb (at + i) (at + c.size) (omega arith))

head-around : (b : Block) (rest : List Block) → 12 ≤ b.size → is_free b ≡ false → Around 0 (b ∷ rest)
unfolding freed total
head-around b rest m l =
    let r = behind b.size rest in
    record {
      pre = [];
      lead = [];
      b = b;
      tail = r.tail;
      post = r.post;
      is = ap (λ (x : List Block). b ∷ x) r.is;
      place = refl;
      least = m;
      live = l;
      lead_free = no_one;
      tail_free = r.tail_free;
      next = r.next;
      after = r.after ∙ ap (λ (k : ℕ). block k 0 ∷ r.post) (sym (zero-add (b.size + total r.tail)));
      spot = λ i at free x y. head_spot b rest i at free (omega arith) ∙ rw (add-zero at);
    }

-- behind one block
second-around : (p : ℕ) (c b : Block) (rest : List Block) → 12 ≤ b.size → is_free b ≡ false → p ≡ c.size → 0 < c.size → Around p (c ∷ b ∷ rest)
unfolding freed total join
second-around p c b rest m l e h =
    let r = behind b.size rest in
    let z : eqb p 0 ≡ false = ne_eqb p 0 (omega arith) in
    let d : eqb (p - c.size) 0 ≡ true = eq-eqb (p - c.size) 0 (omega arith) in
    let found_there : (i at free : ℕ) → p ≤ i → i < p + b.size → seek (sought (target.Holder (record { 0 = at + i }))) at free (c ∷ b ∷ rest)
    ≡ Some (record { place = record { 0 = at + p }; free = record { 0 = cond (is_free c) at (at + c.size) } }) =
    λ i at free x y. pass_spot c (b ∷ rest) i at free (omega arith) ∙ head_spot b rest (i - c.size) (at + c.size) (cond (is_free c) at (at + c.size)) (omega arith) ∙ rw e in
    by (is_free c)
    (λ f. record {
      pre = [];
      lead = c ∷ [];
      b = b;
      tail = r.tail;
      post = r.post;
      is = ap (λ (x : List Block). c ∷ b ∷ x) r.is;
      place = omega arith;
      least = m;
      live = l;
      lead_free = one c f;
      tail_free = r.tail_free;
      next = r.next;
      after = rw (z, d, r.after) (rw f (ap (λ (k : ℕ). block k 0 ∷ r.post) (omega arith)));
      spot = λ i at free x y. found_there i at free x y ∙ rw (f, z, add-zero at);
    })
    (λ f. record {
      pre = c ∷ [];
      lead = [];
      b = b;
      tail = r.tail;
      post = r.post;
      is = ap (λ (x : List Block). c ∷ b ∷ x) r.is;
      place = omega arith;
      least = m;
      live = l;
      lead_free = no_one;
      tail_free = r.tail_free;
      next = r.next;
      after = rw (z, d, r.after) (rw f (ap (λ (k : ℕ). c ∷ block k 0 ∷ r.post) (sym (zero-add (b.size + total r.tail)))));
      spot = λ i at free x y. found_there i at free x y ∙ rw (f, z, add-zero c.size);
    })

-- the first of the blocks that a free one stands before is live, also after a release behind it
first_live : (p : ℕ) (bs : List Block) (r : Around p bs) → (p ≡ 0 → ⊥) → LiveFirst bs → LiveFirst (r.pre ++ (block (total r.lead + (r.b.size + total r.tail)) 0 ∷ r.post))
unfolding LiveFirst total
first_live p bs r ne h = go r.pre r.lead r.lead_free r.is r.place
  where
    go : (pre lead : List Block) → FreeOne lead → bs ≡ pre ++ (lead ++ (r.b ∷ (r.tail ++ r.post))) → p ≡ total pre + total lead
        → LiveFirst (pre ++ (block (total lead + (r.b.size + total r.tail)) 0 ∷ r.post))
    go [] [] no_one e q = absurd (ne q)
    go [] (f ∷ []) (one f' k) e q = clash (is_free f) k (rw e at h)
    go [] (f ∷ (_ ∷ _)) k e q = elim k [ ]
    go (d ∷ pre) lead k e q = rw e at h

second : (tasks : ℕ) (q : Bool) (p : ℕ) (c : Block) (bs : List Block) → tiled tasks q bs ≡ true → live_at 0 bs ≡ true → p ≡ c.size → 0 < c.size → Around p (c ∷ bs)
unfolding starts_at
second tasks q p c [] t h e k = clash false h refl
second tasks q p c (b ∷ rest) t h e k = second-around p c b rest (tile tasks q b rest t).least (not_t (is_free b) h) e k

tiled-first : (tasks : ℕ) (bs : List Block) → tiled tasks true bs ≡ true → LiveFirst bs
unfolding LiveFirst
tiled-first tasks [] t = tt
tiled-first tasks (d ∷ ds) t = sym (and-true (is_free d)) ∙ (tile tasks true d ds t).apart

-- behind one block more
deeper : (p : ℕ) (c : Block) (bs : List Block) → Around (p - c.size) bs → c.size < p → (is_free c ≡ true → LiveFirst bs) → Around p (c ∷ bs)
unfolding freed total
deeper p c bs r h f =
    let z : eqb p 0 ≡ false = ne_eqb p 0 (omega arith) in
    let d : eqb (p - c.size) 0 ≡ false = ne_eqb (p - c.size) 0 (omega arith) in
    let news = r.pre ++ (block (total r.lead + (r.b.size + total r.tail)) 0 ∷ r.post) in
    record {
      pre = c ∷ r.pre;
      lead = r.lead;
      b = r.b;
      tail = r.tail;
      post = r.post;
      is = ap (λ (x : List Block). c ∷ x) r.is;
      place = omega (arith, r.place);
      least = r.least;
      live = r.live;
      lead_free = r.lead_free;
      tail_free = r.tail_free;
      next = r.next;
      after = rw (z, r.after) (by (is_free c) (λ g. join_apart c news (first_live (p - c.size) bs r (omega arith) (f g))) (λ g. join_live c news g));
      spot = λ i at free x y.
          let k : at + c.size + (p - c.size) ≡ at + p = omega arith in
          let s = r.spot (i - c.size) (at + c.size) (cond (is_free c) at (at + c.size)) (omega arith) (omega arith) in
          let m : at + c.size + total r.pre ≡ at + (c.size + total r.pre) = omega arith in
          pass_spot c bs i at free (omega arith) ∙ s ∙ rw (k, d, m, z);
    }

pub around : (tasks : ℕ) (q : Bool) (p : ℕ) (bs : List Block) → tiled tasks q bs ≡ true → live_at p bs ≡ true → Around p bs
unfolding starts_at
around tasks q p [] t h = clash false h refl
around tasks q p (c ∷ bs) t h =
    let o = tile tasks q c bs t in
    by (eqb p 0)
    (λ z. rw (eqb-true p 0 z) (head-around c bs o.least (not_t (is_free c) (rw z at h))))
    (λ z. let h2 : leb c.size p && live_at (p - c.size) bs ≡ true = rw z at h in
    let k = leb-true c.size p (and_l (leb c.size p) (live_at (p - c.size) bs) h2) in
    let lv = and_r (leb c.size p) (live_at (p - c.size) bs) h2 in
    by (eqb (p - c.size) 0)
    (λ d. let e = eqb-true (p - c.size) 0 d in second tasks (is_free c) p c bs o.rest (rw e at lv) (omega arith) (omega (arith, o.least)))
    (λ d. let e = eqb-false (p - c.size) 0 d in
    let r = around tasks (is_free c) (p - c.size) bs o.rest lv in
    deeper p c bs r (omega arith) (λ f. tiled-first tasks bs (rw f at o.rest))))

-- ---- the masks

-- a header of zeros in the place of a block's
wipe : (p : ℕ) (y : Block) (front back : List (Option ℕ)) (l : List ℕ) → length front ≡ p
    → put p (header (block 0 0)) (overlay (front ++ (cell header y ++ back)) l) ≡ overlay (front ++ (cell blank y ++ back)) l
unfolding header le32
wipe p y front back l e =
    put-header p (block 0 0) y front back l e
    ∙ ap (λ (m : List (Option ℕ)). overlay (front ++ m) l) (sym (append_assoc (written (blank y)) (replicate (y.size - 8) none) back))

blank-length : (b : Block) → length (blank b) ≡ 8
blank-length b = refl

over_mask : (bs : List Block) → over (mask header bs) (mask blank bs) ≡ mask header bs
over_mask bs = rw (mask-blank bs) (over_zeroed (mask header bs))

-- the header of one block over the blocks x and rest, whose headers are zero
over_joined : (m x : Block) (rest : List Block) → 8 ≤ x.size → Roomy rest → m.size ≡ x.size + total rest
    → over (cell header m) (cell blank x ++ mask blank rest) ≡ written (header m) ++ (replicate (x.size - 8) none ++ mask blank rest)
over_joined m x rest h r e =
    let w = written (header m) in
    let z = written (blank x) in
    let n : List (Option ℕ) = replicate (x.size - 8) none in
    let lr = mask-length blank blank-length rest r in
    let k : length (n ++ mask blank rest) ≡ m.size - 8 = simp (length-append, length-replicate) (omega (arith, lr, e)) in
    ap (λ (y : List (Option ℕ)). over (cell header m) y) (append_assoc z n (mask blank rest))
    ∙ over_append w z (replicate (m.size - 8) none) (n ++ mask blank rest) (mark_length m ∙ sym (written-length (blank x)))
    ∙ (λ i. over_written (header m) z (written-length (blank x) ∙ sym (header-length m)) i ++ none_over (m.size - 8) (n ++ mask blank rest) k i)

-- the mask that a release leaves
released-mask : (pre post : List Block) (m x : Block) (rest : List Block) → Roomy pre → 8 ≤ x.size → Roomy rest → m.size ≡ x.size + total rest
    → over (mask header (pre ++ (m ∷ post))) (mask blank (pre ++ ((x ∷ rest) ++ post)))
    ≡ mask header pre ++ (written (header m) ++ (replicate (x.size - 8) none ++ (mask blank rest ++ mask header post)))
unfolding mask
released-mask pre post m x rest rp h r e =
    let a = mask header pre in
    let w = written (header m) in
    let n : List (Option ℕ) = replicate (x.size - 8) none in
    let lr = mask-length blank blank-length rest r in
    let k : length (cell header m) ≡ length (cell blank x ++ mask blank rest) =
    cell_length m (omega (arith, e)) ∙ sym (simp (length-append, length-replicate, written-length) (omega (arith, lr, e, h))) in
    (λ i. over (mask_append header pre (m ∷ post) i) ((mask_append blank pre ((x ∷ rest) ++ post) ∙ ap (λ (y : List (Option ℕ)). mask blank pre ++ y) (mask_append blank (x ∷ rest) post)) i))
    ∙ over_append a (mask blank pre) (cell header m ++ mask header post) ((cell blank x ++ mask blank rest) ++ mask blank post) (mask-length header header-length pre rp ∙ sym (mask-length blank blank-length pre rp))
    ∙ (λ i. over_mask pre i ++ over_append (cell header m) (cell blank x ++ mask blank rest) (mask header post) (mask blank post) k i)
    ∙ (λ i. a ++ (over_joined m x rest h r e i ++ over_mask post i))
    ∙ simp append_assoc

-- ---- what release_at goes by

-- the bytes after the header of the block behind, if any, is erased
abbrev wiped : List Block → ℕ → List ℕ → List ℕ
wiped [] e l = l
wiped (c ∷ cs) e l = put e (header (block 0 0)) l

module _ (l : List ℕ) (pre post : List Block) (b : Block) (rp : Roomy pre) (hb : 8 ≤ b.size) where
  front : length (mask header pre) ≡ total pre
  front = mask-length header header-length pre rp

  -- the released block takes in those behind it
  alone : (tail : List Block) → FreeOne tail → Roomy tail → overlay (mask header (pre ++ (b ∷ (tail ++ post)))) l ≡ l
      → wiped tail (total pre + b.size) l ≡ overlay (mask header pre ++ (cell header b ++ (mask blank tail ++ mask header post))) l
  unfolding mask Roomy
  alone [] no_one r own = sym own ∙ ap (λ (m : List (Option ℕ)). overlay m l) (mask_append header pre (b ∷ post))
  alone (c ∷ []) (one c' f) r own =
      let a = mask header pre in
      let k : length (a ++ cell header b) ≡ total pre + b.size = length-append a (cell header b) ∙ (λ i. front i + cell_length b hb i) in
      ap (put (total pre + b.size) (header (block 0 0))) (sym own ∙ ap (λ (m : List (Option ℕ)). overlay m l) (mask_append header pre (b ∷ c ∷ post) ∙ sym (append_assoc a (cell header b) (cell header c ++ mask header post))))
      ∙ wipe (total pre + b.size) c (a ++ cell header b) (mask header post) l k
      ∙ ap (λ (m : List (Option ℕ)). overlay m l) (simp (append_assoc, append-nil))
  alone (c ∷ (_ ∷ _)) x7 r own = elim x7 [ ]

  -- and is taken in by the one before it
  paired : (f : Block) → 8 ≤ f.size → (tail : List Block) → FreeOne tail → Roomy tail → overlay (mask header (pre ++ (f ∷ b ∷ (tail ++ post)))) l ≡ l
      → put (total pre + f.size) (header (block 0 0)) (wiped tail (total pre + f.size + b.size) l)
      ≡ overlay (mask header pre ++ (cell header f ++ (mask blank (b ∷ tail) ++ mask header post))) l
  unfolding mask Roomy
  paired f hf [] no_one r own =
      let a = mask header pre in
      let k : length (a ++ cell header f) ≡ total pre + f.size = length-append a (cell header f) ∙ (λ i. front i + cell_length f hf i) in
      ap (put (total pre + f.size) (header (block 0 0))) (sym own ∙ ap (λ (m : List (Option ℕ)). overlay m l) (mask_append header pre (f ∷ b ∷ post) ∙ sym (append_assoc a (cell header f) (cell header b ++ mask header post))))
      ∙ wipe (total pre + f.size) b (a ++ cell header f) (mask header post) l k
      ∙ ap (λ (m : List (Option ℕ)). overlay m l) (simp (append_assoc, append-nil))
  paired f hf (c ∷ []) (one c' g) r own =
      let a = mask header pre in
      let k : length (a ++ cell header f) ≡ total pre + f.size = length-append a (cell header f) ∙ (λ i. front i + cell_length f hf i) in
      let k2 : length ((a ++ cell header f) ++ cell header b) ≡ total pre + f.size + b.size = length-append (a ++ cell header f) (cell header b) ∙ (λ i. k i + cell_length b hb i) in
      let split : a ++ (cell header f ++ (cell header b ++ (cell header c ++ mask header post))) ≡ ((a ++ cell header f) ++ cell header b) ++ (cell header c ++ mask header post) = simp append_assoc in
      let back : ((a ++ cell header f) ++ cell header b) ++ (cell blank c ++ mask header post) ≡ (a ++ cell header f) ++ (cell header b ++ (cell blank c ++ mask header post)) = simp append_assoc in
      ap (λ (y : List ℕ). put (total pre + f.size) (header (block 0 0)) (put (total pre + f.size + b.size) (header (block 0 0)) y)) (sym own ∙ ap (λ (m : List (Option ℕ)). overlay m l) (mask_append header pre (f ∷ b ∷ c ∷ post) ∙ split))
      ∙ ap (put (total pre + f.size) (header (block 0 0))) (wipe (total pre + f.size + b.size) c ((a ++ cell header f) ++ cell header b) (mask header post) l k2 ∙ ap (λ (m : List (Option ℕ)). overlay m l) back)
      ∙ wipe (total pre + f.size) b (a ++ cell header f) (cell blank c ++ mask header post) l k
      ∙ ap (λ (m : List (Option ℕ)). overlay m l) (simp (append_assoc, append-nil))
  paired f hf (c ∷ (_ ∷ _)) x7 r own = elim x7 [ ]

  -- the header of the joined block completes it
  completed : (m x : Block) (rest : List Block) → 8 ≤ x.size → Roomy rest → m.size ≡ x.size + total rest
      → put (total pre) (header m) (overlay (mask header pre ++ (cell header x ++ (mask blank rest ++ mask header post))) l)
      ≡ render (pre ++ (m ∷ post)) (erase (pre ++ ((x ∷ rest) ++ post)) l)
  unfolding render erase
  completed m x rest h r e =
      put-header (total pre) m x (mask header pre) (mask blank rest ++ mask header post) l front
      ∙ ap (λ (y : List (Option ℕ)). overlay y l) (sym (released-mask pre post m x rest rp h r e))
      ∙ sym (overlay-overlay (mask header (pre ++ (m ∷ post))) (mask blank (pre ++ ((x ∷ rest) ++ post))) l)

pub record Releasing (l : List ℕ) (p y : ℕ) : Type 0 where
  pub size : ℕ
  pub read : u32_at l p ≡ size
  pub below : y ≤ p
  pub within : p + size ≤ length l
  pub room : p + size < length l → p + size + 8 ≤ length l
  pub behind : ℕ
  pub bytes : List ℕ
  pub swallow : swallow_of (p + size) l ≡ swallowed behind bytes
  pub least : 8 ≤ size
  pub most : p + size + behind ≤ length l
  pub lone : p ≤ y → put y (header (block (p - y + size + behind) 0)) bytes ≡ changed (freed p) l
  pub pair : y < p → put y (header (block (p - y + size + behind) 0)) (put p (header (block 0 0)) bytes) ≡ changed (freed p) l
  pub runs : (m : ℕ) → fits m (freed p (blocks_of l)) ≡ leb m (p - y + size + behind) || fits m (blocks_of l)

-- the block behind, if it is free
module _ (l : List ℕ) (e : ℕ) where
  pub swallow_end : length l ≤ e → swallow_of e l ≡ swallowed 0 l
  swallow_end h = rw (le-ltb e (length l) h)

  pub swallow_live : (d : Block) → e < length l → header_at l e ≡ d → is_free d ≡ false → swallow_of e l ≡ swallowed 0 l
  swallow_live d h k f = let o : eqb (u32_at l (e + 4)) 0 ≡ false = ap is_free k ∙ f in rw (lt-ltb e (length l) h, o)

  pub swallow_free : (c : Block) → e < length l → header_at l e ≡ c → is_free c ≡ true → swallow_of e l ≡ swallowed c.size (put e (header (block 0 0)) l)
  swallow_free c h k f =
      let o : eqb (u32_at l (e + 4)) 0 ≡ true = ap is_free k ∙ f in
      let z : u32_at l e ≡ c.size = ap (λ (x : Block). x.size) k in
      rw (lt-ltb e (length l) h, o, z)

-- the blocks from a place on, and what the swallowing of the first finds
swallow_tail : (l : List ℕ) (e : ℕ) (tail post : List Block) → blocks_of (drop e l) ≡ tail ++ post → FreeOne tail → (tail ≡ [] → LiveFirst post) → Roomy (tail ++ post)
    → e + total (tail ++ post) ≡ length l → swallow_of e l ≡ swallowed (total tail) (wiped tail e l)
unfolding LiveFirst Roomy total
swallow_tail l e [] [] b no_one n r s = swallow_end l e (omega arith)
swallow_tail l e [] (d ∷ ds) b no_one n r s = swallow_live l e d (omega (arith, r.0)) (header-at e l d ds b (omega (arith, r.0))) (n refl)
swallow_tail l e (c ∷ []) post b (one c' f) n r s =
    swallow_free l e c (omega (arith, r.0)) (header-at e l c post b (omega (arith, r.0))) f
    ∙ ap (λ (k : ℕ). swallowed k (put e (header (block 0 0)) l)) (sym (add-zero c.size))
swallow_tail l e (c ∷ (_ ∷ _)) post b x9 n r s = elim x9 [ ]

-- room for the header of the block behind
next_room : (l : List ℕ) (e : ℕ) (bs : List Block) → Roomy bs → e + total bs ≡ length l → e < length l → e + 8 ≤ length l
unfolding Roomy total
next_room l e [] r s h = absurd (omega arith)
next_room l e (d ∷ ds) r s h = omega (arith, r.0)

roomy_right : (xs ys : List Block) → Roomy (xs ++ ys) → Roomy ys
unfolding Roomy
roomy_right [] ys r = r
roomy_right (x ∷ xs) ys r = roomy_right xs ys r.1

-- the block at a place, and what the swallowing of the one behind it finds
record Located (l : List ℕ) (p : ℕ) (b : Block) (tail : List Block) : Type 0 where
  read : u32_at l p ≡ b.size
  least : 8 ≤ b.size
  tail_roomy : Roomy tail
  within : p + b.size ≤ length l
  room : p + b.size < length l → p + b.size + 8 ≤ length l
  swallow : swallow_of (p + b.size) l ≡ swallowed (total tail) (wiped tail (p + b.size) l)
  most : p + b.size + total tail ≤ length l

located : (l : List ℕ) (p : ℕ) (xs : List Block) (b : Block) (tail post : List Block) → blocks_of l ≡ xs ++ (b ∷ (tail ++ post)) → p ≡ total xs → FreeOne tail → (tail ≡ [] → LiveFirst post)
    → Roomy (blocks_of l) → total (blocks_of l) ≡ length l → Located l p b tail
unfolding Roomy total
located l p xs b tail post e q tf n roomy sums =
    let rest = tail ++ post in
    let rm : Roomy (xs ++ (b ∷ rest)) = rw e at roomy in
    let rr = roomy_right xs (b ∷ rest) rm in
    let s₁ : total xs + (b.size + total rest) ≡ length l = sym (total-append xs (b ∷ rest)) ∙ ap total (sym e) ∙ sums in
    let s₂ = total-append tail post in
    let z : p ≡ 0 + total xs = omega arith in
    let there : blocks_of (drop p l) ≡ b ∷ rest = rw z (split_at xs (b ∷ rest) 0 l e (roomy_left xs (b ∷ rest) rm) (omega (arith, s₁))) in
    let h : p < length l = omega (arith, s₁, rr.0) in
    record {
      read = ap (λ (x : Block). x.size) (header-at p l b rest there h);
      least = rr.0;
      tail_roomy = roomy_left tail post rr.1;
      within = omega (arith, s₁);
      room = next_room l (p + b.size) rest rr.1 (omega (arith, s₁));
      swallow = swallow_tail l (p + b.size) tail post (tail_at p l b rest there h (omega (arith, rr.0))) tf n rr.1 (omega (arith, s₁));
      most = omega (arith, s₁, s₂);
    }

-- the bytes that a release leaves, by whether a free block stands before
module _ (l : List ℕ) (p : ℕ) (pre : List Block) (b : Block) (tail post : List Block) (tf : FreeOne tail) (roomy : Roomy (blocks_of l)) (own : render (blocks_of l) l ≡ l)
    (k : Located l p b tail) where
  Left : Type 0
  Left = (total pre < p → put (total pre) (header (block (p - total pre + b.size + total tail) 0)) (put p (header (block 0 0)) (wiped tail (p + b.size) l)) ≡ changed (freed p) l)
      × (p ≤ total pre → put (total pre) (header (block (p - total pre + b.size + total tail) 0)) (wiped tail (p + b.size) l) ≡ changed (freed p) l)

  left : (lead : List Block) → FreeOne lead → blocks_of l ≡ pre ++ (lead ++ (b ∷ (tail ++ post))) → p ≡ total pre + total lead
      → freed p (blocks_of l) ≡ pre ++ (block (total lead + (b.size + total tail)) 0 ∷ post) → Left
  unfolding Left Roomy total render
  left [] no_one e q a =
      let pe : p ≡ total pre = omega arith in
      let m = block (0 + (b.size + total tail)) 0 in
      let n : p - total pre + b.size + total tail ≡ 0 + (b.size + total tail) = omega arith in
      let rp = roomy_left pre (b ∷ (tail ++ post)) (rw e at roomy) in
      let own₂ : overlay (mask header (pre ++ (b ∷ (tail ++ post)))) l ≡ l = ap (λ (x : List Block). render x l) (sym e) ∙ own in
      let w = alone l pre post b rp k.least tail tf k.tail_roomy own₂ in (
        λ h. absurd (omega arith),
        λ h. rw n (ap (put (total pre) (header m)) (ap (λ (x : ℕ). wiped tail (x + b.size) l) pe ∙ w)
            ∙ completed l pre post b rp k.least m b tail k.least k.tail_roomy (zero-add (b.size + total tail))
            ∙ sym (λ i. render (a i) (erase (e i) l))),
      )
  left (f ∷ []) (one f' g) e q a =
      let rm : Roomy (pre ++ (f ∷ b ∷ (tail ++ post))) = rw e at roomy in
      let rp = roomy_left pre (f ∷ b ∷ (tail ++ post)) rm in
      let hf : 8 ≤ f.size = (roomy_right pre (f ∷ b ∷ (tail ++ post)) rm).0 in
      let pe : p ≡ total pre + f.size = omega arith in
      let m = block (f.size + 0 + (b.size + total tail)) 0 in
      let n : p - total pre + b.size + total tail ≡ f.size + 0 + (b.size + total tail) = omega arith in
      let own₂ : overlay (mask header (pre ++ (f ∷ b ∷ (tail ++ post)))) l ≡ l = ap (λ (x : List Block). render x l) (sym e) ∙ own in
      let w = paired l pre post b rp k.least f hf tail tf k.tail_roomy own₂ in (
        λ h. rw n (ap (put (total pre) (header m)) (ap (λ (x : ℕ). put x (header (block 0 0)) (wiped tail (x + b.size) l)) pe ∙ w)
            ∙ completed l pre post b rp k.least m f (b ∷ tail) hf (k.least, k.tail_roomy) (omega arith)
            ∙ sym (λ i. render (a i) (erase (e i) l))),
        λ h. absurd (omega (arith, hf)),
      )
  left (f ∷ (_ ∷ _)) x8 e q a = elim x8 [ ]

-- ---- the runs after a release

fits-append : (m : ℕ) (xs ys : List Block) → fits m (xs ++ ys) ≡ fits m xs || fits m ys
unfolding fits
fits-append m [] ys = refl
fits-append m (b ∷ xs) ys = by (holds m b) (λ h. rw h) (λ h. rw h (fits-append m xs ys))

or_swap : (a b c : Bool) → a || (b || c) ≡ b || (a || c)
or_swap true true c = refl
or_swap true false c = refl
or_swap false b c = refl

-- one of at most one free block, of the live block and of at most one free block, where z is at least their sum
around-fits : (m : ℕ) (lead : List Block) (b : Block) (tail post : List Block) (z : ℕ) → is_free b ≡ false → total lead ≤ z → total tail ≤ z
    → leb m z || fits m (lead ++ (b ∷ (tail ++ post))) ≡ leb m z || fits m post
unfolding fits total
around-fits m lead b tail post z l h k =
    by (leb m z)
    (λ e. rw e)
    (λ e. let g = leb-false m z e in
    rw e (fits-append m lead (b ∷ (tail ++ post)) ∙ rw (few m lead (omega arith)) (rw l (fits-append m tail post ∙ rw (few m tail (omega arith))))))
  where
    few : (m : ℕ) (xs : List Block) → total xs < m → fits m xs ≡ false
    few m [] h = refl
    few m (x ∷ xs) h = rw (and_f_r (is_free x) (leb m x.size) (lt-leb m x.size (omega arith))) (few m xs (omega arith))

freed-runs : (m : ℕ) (p : ℕ) (bs : List Block) (r : Around p bs) → fits m (freed p bs) ≡ leb m (total r.lead + (r.b.size + total r.tail)) || fits m bs
unfolding fits
freed-runs m p bs r =
    let z = total r.lead + (r.b.size + total r.tail) in
    let mid = r.lead ++ (r.b ∷ (r.tail ++ r.post)) in
    ap (fits m) r.after ∙ fits-append m r.pre (block z 0 ∷ r.post)
    ∙ or_swap (fits m r.pre) (leb m z) (fits m r.post)
    ∙ or_swap (leb m z) (fits m r.pre) (fits m r.post)
    ∙ ap (λ (x : Bool). fits m r.pre || x) (sym (around-fits m r.lead r.b r.tail r.post z r.live (omega arith) (omega arith)))
    ∙ or_swap (fits m r.pre) (leb m z) (fits m mid)
    ∙ ap (λ (x : Bool). leb m z || x) (sym (ap (fits m) r.is ∙ fits-append m r.pre mid))

pub releasing : (l : List ℕ) (s : Spot) → Bytes l → Releasable l s → Releasing l s.place.0 s.free.0
unfolding Left total
releasing l s w g =
    let o = open_pool l g.pool in
    let bs = blocks_of l in
    let p = s.place.0 in
    let r = around most_tasks false p bs o.tiling g.live in
    let pre = r.pre in
    let roomy = tiled_roomy most_tasks false bs o.tiling in
    let e : bs ≡ (pre ++ r.lead) ++ (r.b ∷ (r.tail ++ r.post)) = r.is ∙ sym (append_assoc pre r.lead (r.b ∷ (r.tail ++ r.post))) in
    let k = located l p (pre ++ r.lead) r.b r.tail r.post e (r.place ∙ sym (total-append pre r.lead)) r.tail_free r.next roomy o.sums in
    let own = render-blocks most_tasks l o.tiling o.sums w in
    let d = left l p pre r.b r.tail r.post r.tail_free roomy own k r.lead r.lead_free r.is r.place r.after in
    let y : s.free.0 ≡ total pre = spot_free p (total pre) (total r.lead) s r.place (sym g.found ∙ rw (zero-add p, zero-add (p + 8)) at (r.spot (p + 8) 0 0 (omega arith) (omega (arith, r.least)))) in
    rw y (record {
      size = r.b.size;
      read = k.read;
      below = omega (arith, r.place);
      within = k.within;
      room = k.room;
      behind = total r.tail;
      bytes = wiped r.tail (p + r.b.size) l;
      swallow = k.swallow;
      least = k.least;
      most = k.most;
      lone = d.1;
      pair = d.0;
      runs = λ m. freed-runs m p bs r ∙ ap (λ (k : ℕ). leb m k || fits m bs) (omega (arith, r.place));
    })
  where
    spot_free : (p x n : ℕ) (s : Spot) → p ≡ x + n → Some s ≡ Some (record { place = record { 0 = p }; free = record { 0 = cond (eqb p 0) 0 (0 + x) } }) → s.free.0 ≡ x
    spot_free p x n s q e =
        let k : s ≡ record { place = record { 0 = p }; free = record { 0 = cond (eqb p 0) 0 (0 + x) } } = cc in
        ap (λ (z : Spot). z.free.0) k ∙ by (eqb p 0) (λ z. let h = eqb-true p 0 z in rw z (omega arith)) (λ z. rw z (zero-add x))
