-- The loop that serves: what is known at each turn, and what it leaves. Assumes nothing.
use Prim.Native.Nat.{ℕ, ◌+◌, ◌%◌, ◌≤◌, ◌<◌}
use mathlib.Core.Path.{◌≡◌, refl, sym, ap, ◌∙◌}
use mathlib.Core.Bool.{true, false}
use mathlib.Core.List.{List, [], ◌∷◌}
use native.Mathlib.Omega.{arith}
use native.Mathlib.Numerals.{add-one}
use lib.ListN.{length, set, length-set}
use Rattle.std.specs.Prelude.{Some, None}
use Rattle.model.specs.declared.Attributes.{Attributes}
use Rattle.model.specs.declared.BlockOffset.{BlockOffset}
use Rattle.model.specs.declared.Entry.{Entry}
use Rattle.model.specs.declared.Woken.{Woken}
use Rattle.model.specs.declared.Answer.{Answer}
use Rattle.model.specs.Limits.{most_tasks, longest_pool, e_ok}
use Rattle.model.specs.Blocks.{Block, total, tiled, fits, first_fit, granted}
use Rattle.model.specs.Bytes.{blocks_of, render, erase}
use Rattle.model.specs.Rules.{queued, need_of, rules}
use Rattle.model.specs.Calls.{offset_of, Served, state, blocks, serve, no_offset, no_place}
use Rattle.model.specs.Places.{used, queue_of}
use Rattle.model.specs.Pool.{result_of}
use Rattle.model.proofs.Waiting.{Asked, open_queued, entry-asked}
use Rattle.model.proofs.Blocks.{granted-fits, granted-total, granted-tiled}
use Rattle.model.proofs.Bytes.{Bytes, finer_refl, granted_finer, render-length, erase-length, render-erase, erase-render, blocks-render, render-blocks}
use Rattle.model.proofs.Rules.{rules_laws}
use Rattle.layout.specs.declared.Spot.{Spot}
use Rattle.layout.specs.Layout.{sound_pool, first_fit_of, changed, Grantable}
use Rattle.layout.proofs.Sound.{open_pool, close_pool}
use Rattle.layout.proofs.Finding.{found-run, no_run}
use Rattle.serving.specs.Serving.{served_as, Ready}

-- ---- bytes that show a list: x with its headers written

pub record Shown (x l : List ℕ) (n : ℕ) (bs : List Block) : Type 0 where
  pub pool : sound_pool l ≡ true
  pub long : length l ≡ n
  pub blocks_are : blocks_of l ≡ bs
  pub shows : l ≡ render bs x

-- a sound list, rendered over bytes as long as the pool z
pub shown : (x : List ℕ) (n : ℕ) (bs : List Block) → length x ≡ n → tiled most_tasks false bs ≡ true → total bs ≡ n → (z : List ℕ) → sound_pool z ≡ true → length z ≡ n
    → Shown x (render bs x) n bs
shown x n bs e t s z p k =
    let l = (open_pool z p).long in
    let len : length (render bs x) ≡ n = render-length bs x ∙ e in
    let m : n ≤ longest_pool = omega (arith, l.most) in
    let b : blocks_of (render bs x) ≡ bs = blocks-render most_tasks (omega arith) false bs x t (s ∙ sym e) (omega arith) in
    record {
      pool = close_pool (render bs x) (record {
        long = record { by_four = rw (len ∙ sym k) l.by_four; least = rw (len ∙ sym k) l.least; most = rw (len ∙ sym k) l.most };
        sums = ap total b ∙ s ∙ sym len;
        tiling = rw b t;
      });
      long = len;
      blocks_are = b;
      shows = refl;
    }

abbrev pub answer_as : Attributes → List Woken → List Entry → Answer
answer_as a w es = record { code = e_ok; offset = no_offset; reason = 0; place = no_place; woken = w; queue = queue_of a es }

-- ---- the loop. x: the bytes at entry without their headers; v: what is to be served at entry, behind k tasks noted in w

pub record Loop (a : Attributes) (x : List ℕ) (n most : ℕ) (w : List Woken) (k : ℕ) (v : Served (List Block)) (l : List ℕ) (es : List Entry) (w' : List Woken) (k' : ℕ) : Type 0 where
  pub pool : sound_pool l ≡ true
  pub long : length l ≡ n
  pub erased : length x ≡ n
  pub queue : queued (rules a n) es ≡ true
  pub room : k' + length es ≤ most_tasks
  pub places : length w' ≡ most_tasks
  pub shows : l ≡ render (blocks_of l) x
  pub longest : (need : ℕ) → most < need → fits need (blocks_of l) ≡ false
  pub same : served_as a x w k v ≡ served_as a x w' k' (serve (rules a n) (blocks (rules a n)) (blocks_of l) es)

pub loop_starts : (a : Attributes) (l : List ℕ) (es es' : List Entry) (w : List Woken) (k most : ℕ) → Bytes l → Ready a l es k most → length w ≡ most_tasks → es' ≡ used es
    → Loop a (erase (blocks_of l) l) (length l) most w k (serve (rules a (length l)) (blocks (rules a (length l))) (blocks_of l) es') l es' w k
loop_starts a l es es' w k most b r h e =
    let o = open_pool l r.pool in
    record {
      pool = r.pool;
      long = refl;
      erased = erase-length (blocks_of l) l;
      queue = rw e r.queue;
      room = rw e r.room;
      places = h;
      shows = sym (render-erase (blocks_of l) (blocks_of l) l (finer_refl (blocks_of l)) ∙ render-blocks most_tasks l o.tiling o.sums b);
      longest = r.longest;
      same = refl;
    }

module _ {a : Attributes} {x : List ℕ} {n most : ℕ} {w : List Woken} {k : ℕ} {v : Served (List Block)} {l : List ℕ} {es : List Entry} {w' : List Woken} {k' : ℕ}
    (s : Loop a x n most w k v l es w' k') where
  -- nobody is left, or the head does not fit
  abbrev pub Still : Type 0
  Still = serve (rules a n) (blocks (rules a n)) (blocks_of l) es ≡ record { woken = []; state = state (blocks_of l) es }

  pub loop_answer : Still → (r : Answer) → r ≡ answer_as a w' es → result_of r l ≡ served_as a x w k v
  loop_answer e r g = (λ i. result_of (g i) (s.shows i)) ∙ sym (s.same ∙ ap (served_as a x w' k') e)

  pub loop_out : es ≡ [] → Still
  unfolding serve
  loop_out e = rw e

  module _ (e : Entry) (rest : List Entry) (q : es ≡ e ∷ rest) (m : ℕ) (em : m ≡ need_of a e.size) where
    head : Asked (rules a n) e
    head = entry-asked (rules a n) e (open_queued (rules a n) e rest (rw q at s.queue)).entry

    least : 12 ≤ m
    unfolding rules
    least = rw em ((rules_laws a n).need_least e head.fair)

    pub space : k' < most_tasks
    space = omega (arith, s.room, ap length q)

    loop_full : fits m (blocks_of l) ≡ false → Still
    unfolding serve rules
    loop_full f = rw q (rw (rw em at f))

    pub loop_long : most < m → Still
    loop_long h = loop_full (s.longest m h)

    pub loop_none : first_fit_of m (blocks_of l) ≡ None → Still
    loop_none h = loop_full (no_run m (blocks_of l) h)

    module _ (p : Spot) (h : first_fit_of m (blocks_of l) ≡ Some p) where
      pub grantable : Grantable l p.place m
      grantable = let f = found-run m (blocks_of l) p h in record { pool = s.pool; least = least; run = f.0; place_is = f.1 }

      pub loop_on : (l' : List ℕ) → l' ≡ changed (granted m e.task) l → (w'' : List Woken) (o : BlockOffset) → o ≡ offset_of p.place
          → w'' ≡ set w' k' (record { task = e.task; code = e_ok; offset = o }) → (k'' : ℕ) → k'' ≡ k' + 1 → Loop a x n most w k v l' rest w'' k''
      unfolding serve rules
      loop_on l' el w'' o eo ew k'' ek =
          let bs = blocks_of l in
          let t = e.task in
          let news = granted m t bs in
          let f = found-run m bs p h in
          let po = open_pool l s.pool in
          let m4 : m % 4 ≡ 0 = rw em ((rules_laws a n).need_mod e head.fair) in
          let fine = granted_finer m t (omega (arith, least)) bs in
          let bytes : l' ≡ render news x = el ∙ ap (λ (y : List ℕ). render news (erase bs y)) s.shows ∙ ap (render news) (erase-render bs x) ∙ render-erase bs news x fine in
          let g = shown x n news s.erased (granted-tiled most_tasks m t m4 least head.task-least head.task-most false bs po.tiling)
          (granted-total m t bs ∙ po.sums ∙ s.long) l s.pool s.long in
          let yes : fits (need_of a e.size) bs ≡ true = rw em at f.0 in
          let place : o ≡ offset_of (record { 0 = first_fit (need_of a e.size) bs }) = eo ∙ ap {B = BlockOffset} (λ (i : ℕ). record { 0 = i + 8 }) (rw em at f.1) in
          let be : granted (need_of a e.size) t bs ≡ blocks_of l' = sym (ap blocks_of bytes ∙ g.blocks_are ∙ ap (λ (i : ℕ). granted i t bs) em) in
          let ws : set w' k' (record { task = t; code = e_ok; offset = offset_of (record { 0 = first_fit (need_of a e.size) bs }) }) ≡ w'' =
          sym (ew ∙ ap {B = List Woken} (λ (i : BlockOffset). set w' k' (record { task = t; code = e_ok; offset = i })) place) in
          record {
            pool = rw bytes g.pool;
            long = ap length bytes ∙ g.long;
            erased = s.erased;
            queue = (open_queued (rules a n) e rest (rw q at s.queue)).rest;
            room = omega (arith, s.room, ap length q);
            places = ap length ew ∙ simp length-set s.places;
            shows = bytes ∙ ap (λ (b : List Block). render b x) (sym (ap blocks_of bytes ∙ g.blocks_are));
            longest = λ i j. rw (ap blocks_of bytes ∙ g.blocks_are) (granted-fits m t i bs (s.longest i j));
            same = s.same ∙ rw q (rw yes (λ i. served_as a x (ws i) (sym (ek ∙ add-one k') i) (serve (rules a n) (blocks (rules a n)) (be i) rest)));
          }
