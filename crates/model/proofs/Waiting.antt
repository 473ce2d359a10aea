-- Laws of the waiting queue: who joins, who leaves and a tick keep it in order. Assumes nothing.
use Prim.Native.Nat.{ℕ, zero, suc, ◌+◌, ◌-◌, ◌≤◌, ◌<◌}
use mathlib.Core.Path.{◌≡◌, refl, sym, ap, ◌∙◌}
use mathlib.Core.Bool.{Bool, true, false, not, cond, ◌&&◌, ◌||◌}
use mathlib.Core.List.{List, [], ◌∷◌}
use native.Mathlib.Omega.{arith}
use lib.ListN.{length, get_or}
use lib.Dec.{leb, eqb}
use borrow.Author.Tests.{leb-true, leb-false, eqb-true, eqb-false, le-leb, lt-leb, eq-eqb, ne_eqb}
use Rattle.model.specs.Limits.{longest_left, forever}
use Rattle.model.specs.Waiting.{Entry, waits, place_in, remove, head_task, insert, blocked, leads, ok_left, expires, aged, expired, remaining}
use Rattle.model.specs.Rules.{Rules, Laws, ok_task, ok_entry, queued}
use Rattle.model.proofs.Tests.{by, clash, and_l, and_r, and_i, or_f_l, or_f_r, or_f, or_t_r, not_t}

pub waits_other : (x t : ℕ) → (x ≡ t → ⊥) → (q : List Entry) → waits x (remove t q) ≡ waits x q
unfolding waits remove
waits_other x t ne [] = refl
waits_other x t ne (e ∷ q) =
    by (eqb e.task t)
    (λ h. rw h (let z : eqb e.task x ≡ false = ne_eqb e.task x (λ g. ne (sym g ∙ eqb-true e.task t h)) in rw z))
    (λ h. rw h (ap (λ (b : Bool). eqb e.task x || b) (waits_other x t ne q)))

module _ (K : Rules) where
  -- ---- the tests, opened

  -- what may stand in a request
  pub record Asked (e : Entry) : Type 0 where
    pub task-least : 1 ≤ e.task
    pub task-most : e.task ≤ K.tasks
    pub fair : K.allowed e ≡ true

  pub asked : (e : Entry) → ok_task K e.task ≡ true → K.allowed e ≡ true → Asked e
  asked e h k =
      record {
        task-least = leb-true 1 e.task (and_l (leb 1 e.task) (leb e.task K.tasks) h);
        task-most = leb-true e.task K.tasks (and_r (leb 1 e.task) (leb e.task K.tasks) h);
        fair = k;
      }

  pub entry-asked : (e : Entry) → ok_entry K e ≡ true → Asked e
  entry-asked e h =
      asked e (and_l (ok_task K e.task) (K.allowed e && ok_left e.left) h)
      (and_l (K.allowed e) (ok_left e.left) (and_r (ok_task K e.task) (K.allowed e && ok_left e.left) h))

  pub record Front (x : Entry) (q : List Entry) : Type 0 where
    pub entry : ok_entry K x ≡ true
    pub lead : leads K.rank x q ≡ true
    pub rest : queued K q ≡ true

  pub open_queued : (x : Entry) (q : List Entry) → queued K (x ∷ q) ≡ true → Front x q
  unfolding queued
  open_queued x q e =
      let e2 : leads K.rank x q && queued K q ≡ true = and_r (ok_entry K x) _ e in
      record { entry = and_l (ok_entry K x) (leads K.rank x q && queued K q) e; lead = and_l (leads K.rank x q) (queued K q) e2; rest = and_r (leads K.rank x q) (queued K q) e2 }

  pub close_queued : (x : Entry) (q : List Entry) → Front x q → queued K (x ∷ q) ≡ true
  unfolding queued
  close_queued x q o = and_i (ok_entry K x) _ o.entry (and_i (leads K.rank x q) _ o.lead o.rest)

  pub record Before (x y : Entry) (q : List Entry) : Type 0 where
    pub other : y.task ≡ x.task → ⊥
    pub order : K.rank x ≤ K.rank y
    pub rest : leads K.rank x q ≡ true

  pub open_leads : (x y : Entry) (q : List Entry) → leads K.rank x (y ∷ q) ≡ true → Before x y q
  unfolding leads
  open_leads x y q e =
      let e1 : not (eqb y.task x.task) && leb (K.rank x) (K.rank y) ≡ true = and_l (not (eqb y.task x.task) && leb (K.rank x) (K.rank y)) (leads K.rank x q) e in
      record {
        other = eqb-false y.task x.task (not_t (eqb y.task x.task) (and_l (not (eqb y.task x.task)) (leb (K.rank x) (K.rank y)) e1));
        order = leb-true (K.rank x) (K.rank y) (and_r (not (eqb y.task x.task)) (leb (K.rank x) (K.rank y)) e1);
        rest = and_r (not (eqb y.task x.task) && leb (K.rank x) (K.rank y)) (leads K.rank x q) e;
      }

  pub close_leads : (x y : Entry) (q : List Entry) → Before x y q → leads K.rank x (y ∷ q) ≡ true
  unfolding leads
  close_leads x y q o =
      and_i (not (eqb y.task x.task) && leb (K.rank x) (K.rank y)) _
      (and_i (not (eqb y.task x.task)) _ (rw (ne_eqb y.task x.task o.other)) (le-leb (K.rank x) (K.rank y) o.order))
      o.rest

  -- one who stands before x, and is of another task than all, stands before those whom x leads
  pub lead_over : (e x : Entry) (q : List Entry) → K.rank e ≤ K.rank x → waits e.task q ≡ false → leads K.rank x q ≡ true → leads K.rank e q ≡ true
  unfolding leads waits
  lead_over e x [] r w l = refl
  lead_over e x (y ∷ q) r w l =
      let o = open_leads x y q l in
      close_leads e y q
      (record {
        other = eqb-false y.task e.task (or_f_l (eqb y.task e.task) (waits e.task q) w);
        order = omega (arith, o.order);
        rest = lead_over e x q r (or_f_r (eqb y.task e.task) (waits e.task q) w) o.rest;
      })

  -- ---- a newcomer keeps the queue in order

  pub lead_insert : (x e : Entry) (q : List Entry) → (e.task ≡ x.task → ⊥) → K.rank x ≤ K.rank e → leads K.rank x q ≡ true → leads K.rank x (insert K.rank e q) ≡ true
  unfolding insert leads
  lead_insert x e [] n r l = close_leads x e [] (record { other = n; order = r; rest = refl })
  lead_insert x e (y ∷ q) n r l =
      let o = open_leads x y q l in
      by (leb (K.rank y) (K.rank e))
      (λ h. rw h (close_leads x y (insert K.rank e q) (record { other = o.other; order = o.order; rest = lead_insert x e q n r o.rest })))
      (λ h. rw h (close_leads x e (y ∷ q) (record { other = n; order = r; rest = l })))

  pub insert-queued : (e : Entry) (q : List Entry) → ok_entry K e ≡ true → waits e.task q ≡ false → queued K q ≡ true → queued K (insert K.rank e q) ≡ true
  unfolding insert waits leads queued
  insert-queued e [] ok w l = close_queued e [] (record { entry = ok; lead = refl; rest = refl })
  insert-queued e (x ∷ q) ok w l =
      let o = open_queued x q l in
      let ne = eqb-false x.task e.task (or_f_l (eqb x.task e.task) (waits e.task q) w) in
      let w2 : waits e.task q ≡ false = or_f_r (eqb x.task e.task) (waits e.task q) w in
      by (leb (K.rank x) (K.rank e))
      (λ h. rw h (close_queued x (insert K.rank e q)
      (record { entry = o.entry; lead = lead_insert x e q (λ g. ne (sym g)) (leb-true (K.rank x) (K.rank e) h) o.lead; rest = insert-queued e q ok w2 o.rest })))
      (λ h. let r = leb-false (K.rank x) (K.rank e) h in
      rw h (close_queued e (x ∷ q)
      (record { entry = ok; lead = close_leads e x q (record { other = ne; order = omega (arith, r); rest = lead_over e x q (omega (arith, r)) w2 o.lead }); rest = l })))

  -- ---- who leaves keeps the queue in order

  pub lead_remove : (x : Entry) (t : ℕ) (q : List Entry) → leads K.rank x q ≡ true → leads K.rank x (remove t q) ≡ true
  unfolding remove leads
  lead_remove x t [] l = refl
  lead_remove x t (y ∷ q) l =
      let o = open_leads x y q l in
      by (eqb y.task t)
      (λ h. rw h o.rest)
      (λ h. rw h (close_leads x y (remove t q) (record { other = o.other; order = o.order; rest = lead_remove x t q o.rest })))

  pub remove-queued : (t : ℕ) (q : List Entry) → queued K q ≡ true → queued K (remove t q) ≡ true
  unfolding remove queued
  remove-queued t [] l = refl
  remove-queued t (x ∷ q) l =
      let o = open_queued x q l in
      by (eqb x.task t)
      (λ h. rw h o.rest)
      (λ h. rw h (close_queued x (remove t q) (record { entry = o.entry; lead = lead_remove x t q o.lead; rest = remove-queued t q o.rest })))

  -- ---- a newcomer and one who leaves

  pub remove-insert-same : (e : Entry) (q : List Entry) → waits e.task q ≡ false → remove e.task (insert K.rank e q) ≡ q
  unfolding remove insert waits
  remove-insert-same e [] w = rw (eq-eqb e.task e.task refl)
  remove-insert-same e (x ∷ q) w =
      let ne : eqb x.task e.task ≡ false = or_f_l (eqb x.task e.task) (waits e.task q) w in
      by (leb (K.rank x) (K.rank e))
      (λ h. rw (h, ne) (ap (λ (l : List Entry). x ∷ l) (remove-insert-same e q (or_f_r (eqb x.task e.task) (waits e.task q) w))))
      (λ h. rw (h, eq-eqb e.task e.task refl))

  -- in front of those whom x leads, if x is behind
  insert_front : (e x : Entry) (q : List Entry) → K.rank e < K.rank x → leads K.rank x q ≡ true → insert K.rank e q ≡ e ∷ q
  unfolding insert
  insert_front e x [] r l = refl
  insert_front e x (y ∷ q) r l = rw (lt-leb (K.rank y) (K.rank e) (omega (arith, (open_leads x y q l).order)))

  pub remove-insert : (t : ℕ) (e : Entry) (q : List Entry) → (e.task ≡ t → ⊥) → queued K q ≡ true → remove t (insert K.rank e q) ≡ insert K.rank e (remove t q)
  unfolding remove insert
  remove-insert t e [] ne l = rw (ne_eqb e.task t ne)
  remove-insert t e (x ∷ q) ne l =
      let o = open_queued x q l in
      by (leb (K.rank x) (K.rank e))
      (λ h. by (eqb x.task t) (λ g. rw (h, g)) (λ g. rw (h, g) (rw h (ap (λ (r : List Entry). x ∷ r) (remove-insert t e q ne o.rest)))))
      (λ h. let z : eqb e.task t ≡ false = ne_eqb e.task t ne in
      by (eqb x.task t)
      (λ g. rw (h, z, g) (sym (insert_front e x q (leb-false (K.rank x) (K.rank e) h) o.lead)))
      (λ g. rw (h, z, g) (rw h)))

  pub waits-insert : (t : ℕ) (e : Entry) (q : List Entry) → waits t q ≡ true → waits t (insert K.rank e q) ≡ true
  unfolding waits insert
  waits-insert t e [] w = cc
  waits-insert t e (x ∷ q) w =
      by (leb (K.rank x) (K.rank e))
      (λ h. rw h (by (eqb x.task t) (λ g. rw g) (λ g. rw g (waits-insert t e q (rw g at w)))))
      (λ h. rw h (or_t_r (eqb e.task t) (eqb x.task t || waits t q) w))

  pub waits-insert-same : (e : Entry) (q : List Entry) → waits e.task (insert K.rank e q) ≡ true
  unfolding waits insert
  waits-insert-same e [] = rw (eq-eqb e.task e.task refl)
  waits-insert-same e (x ∷ q) =
      by (leb (K.rank x) (K.rank e))
      (λ h. rw h (or_t_r (eqb x.task e.task) (waits e.task (insert K.rank e q)) (waits-insert-same e q)))
      (λ h. rw (h, eq-eqb e.task e.task refl))

  pub blocked-insert : (e : Entry) (q : List Entry) → blocked K.rank (K.rank e) (insert K.rank e q) ≡ true
  unfolding blocked insert
  blocked-insert e [] = rw (le-leb (K.rank e) (K.rank e) (omega arith))
  blocked-insert e (x ∷ q) = by (leb (K.rank x) (K.rank e)) (λ h. rw h (rw h)) (λ h. rw h (rw (le-leb (K.rank e) (K.rank e) (omega arith))))

  -- all who wait stay, so who was blocked stays blocked
  pub blocked-more : (r : ℕ) (e : Entry) (q : List Entry) → blocked K.rank r q ≡ true → blocked K.rank r (insert K.rank e q) ≡ true
  unfolding blocked insert
  blocked-more r e [] b = clash false b refl
  blocked-more r e (x ∷ q) b =
      by (leb (K.rank x) (K.rank e))
      (λ h. rw h (by (leb (K.rank x) r) (λ g. rw g) (λ g. rw g (blocked-more r e q (rw g at b)))))
      (λ h. rw h (or_t_r (leb (K.rank e) r) _ b))

  -- nobody stands behind one of lower rank, so the head decides who is blocked
  lead_blocks : (r : ℕ) (x : Entry) (q : List Entry) → leads K.rank x q ≡ true → leb (K.rank x) r ≡ false → blocked K.rank r q ≡ false
  unfolding blocked
  lead_blocks r x [] l h = refl
  lead_blocks r x (y ∷ q) l h =
      let o = open_leads x y q l in
      or_f (leb (K.rank y) r) _ (lt-leb (K.rank y) r (omega (arith, o.order, leb-false (K.rank x) r h))) (lead_blocks r x q o.rest h)

  pub head-blocks : (r : ℕ) (x : Entry) (q : List Entry) → queued K (x ∷ q) ≡ true → blocked K.rank r (x ∷ q) ≡ leb (K.rank x) r
  unfolding blocked
  head-blocks r x q o = by (leb (K.rank x) r) (λ h. rw h) (λ h. rw h (lead_blocks r x q (open_queued x q o).lead h))

  -- ---- a tick keeps the queue in order

  aged_left : (l : ℕ) → ok_left l ≡ true → eqb l 1 ≡ false → ok_left (cond (eqb l forever) forever (l - 1)) ≡ true
  aged_left l h n =
      let ne = eqb-false l 1 n in
      let h1 = leb-true 1 l (and_l (leb 1 l) (leb l longest_left || eqb l forever) h) in
      let h2 : leb l longest_left || eqb l forever ≡ true = and_r (leb 1 l) (leb l longest_left || eqb l forever) h in
      by (eqb l forever)
      (λ f. rw f)
      (λ f. rw f (and_i (leb 1 (l - 1)) _ (le-leb 1 (l - 1) (omega arith))
      (by (leb l longest_left)
      (λ g. let z : leb (l - 1) longest_left ≡ true = le-leb (l - 1) longest_left (omega (arith, leb-true l longest_left g)) in rw z)
      (λ g. clash (leb l longest_left || eqb l forever) h2 (or_f (leb l longest_left) (eqb l forever) g f)))))

  module _ (L : Laws K) where
    lead_remaining : (x : Entry) (q : List Entry) → leads K.rank x q ≡ true → leads K.rank (aged x) (remaining q) ≡ true
    unfolding remaining leads
    lead_remaining x [] l = refl
    lead_remaining x (y ∷ q) l =
        let o = open_leads x y q l in
        by (expires y)
        (λ h. rw h (lead_remaining x q o.rest))
        (λ h. rw h (close_leads (aged x) (aged y) (remaining q)
        (record {
          other = o.other;
          order = omega (arith, o.order, L.rank_left (aged x).left x, L.rank_left (aged y).left y);
          rest = lead_remaining x q o.rest;
        })))

    pub remaining-queued : (q : List Entry) → queued K q ≡ true → queued K (remaining q) ≡ true
    unfolding remaining queued
    remaining-queued [] l = refl
    remaining-queued (x ∷ q) l =
        let o = open_queued x q l in
        let a = ok_task K x.task in
        let b = K.allowed x in
        let c = ok_left x.left in
        by (expires x)
        (λ h. rw h (remaining-queued q o.rest))
        (λ h. rw h (close_queued (aged x) (remaining q)
        (record {
          entry = and_i a _ (and_l a (b && c) o.entry)
              (and_i (K.allowed (aged x)) _ (L.allowed_left (aged x).left x ∙ and_l b c (and_r a (b && c) o.entry)) (aged_left x.left (and_r b c (and_r a (b && c) o.entry)) h));
          lead = lead_remaining x q o.lead;
          rest = remaining-queued q o.rest;
        })))

-- ---- the ranks do not fall from place to place

module _ (K : Rules) where
  lead_order : (x : Entry) (q : List Entry) (d : Entry) (j : ℕ) → leads K.rank x q ≡ true → j < length q → K.rank x ≤ K.rank (get_or q j d)
  lead_order x [] d j l h = absurd (omega arith)
  lead_order x (y ∷ q) d zero l h = (open_leads K x y q l).order
  lead_order x (y ∷ q) d (suc j) l h = lead_order x q d j (open_leads K x y q l).rest (omega arith)

  pub queued-order : (q : List Entry) → queued K q ≡ true → (i j : ℕ) (d : Entry) → i ≤ j → j < length q → K.rank (get_or q i d) ≤ K.rank (get_or q j d)
  queued-order [] o i j d k h = absurd (omega arith)
  queued-order (x ∷ q) o zero zero d k h = omega arith
  queued-order (x ∷ q) o zero (suc j) d k h = lead_order x q d j (open_queued K x q o).lead (omega arith)
  queued-order (x ∷ q) o (suc i) zero d k h = absurd (omega arith)
  queued-order (x ∷ q) o (suc i) (suc j) d k h = queued-order q (open_queued K x q o).rest i j d (omega arith) (omega arith)

-- ---- a queue has no more entries than there are tasks

-- tasks of 1 to m, each once
unfoldable Distinct : ℕ → List Entry → Type 0
Distinct m [] = Unit {0}
Distinct m (e ∷ q) = (1 ≤ e.task) × (e.task ≤ m) × (waits e.task q ≡ false) × Distinct m q

distinct_absent : (m : ℕ) (q : List Entry) → Distinct (suc m) q → waits (suc m) q ≡ false → Distinct m q
unfolding Distinct waits
distinct_absent m [] r w = tt
distinct_absent m (e ∷ q) r w =
    let ne = eqb-false e.task (suc m) (or_f_l (eqb e.task (suc m)) (waits (suc m) q) w) in
    (r.0, omega (arith, r.1), r.2, distinct_absent m q r.3 (or_f_r (eqb e.task (suc m)) (waits (suc m) q) w))

distinct_remove : (m : ℕ) (q : List Entry) → Distinct (suc m) q → Distinct m (remove (suc m) q)
unfolding Distinct remove
distinct_remove m [] r = tt
distinct_remove m (e ∷ q) r =
    by (eqb e.task (suc m))
    (λ h. rw h (let k = eqb-true e.task (suc m) h in distinct_absent m q r.3 (rw k at r.2)))
    (λ h. let ne = eqb-false e.task (suc m) h in
    rw h (r.0, omega (arith, r.1), waits_other e.task (suc m) ne q ∙ r.2, distinct_remove m q r.3))

remove-length : (t : ℕ) (q : List Entry) → length q ≤ suc (length (remove t q))
unfolding remove
remove-length t [] = omega arith
remove-length t (e ∷ q) = let ih = remove-length t q in by (eqb e.task t) (λ h. rw h (omega arith)) (λ h. rw h (omega (arith, ih)))

distinct_length : (m : ℕ) (q : List Entry) → Distinct m q → length q ≤ m
unfolding Distinct
distinct_length zero [] r = omega arith
distinct_length zero (e ∷ q) r = absurd (omega (arith, r.0, r.1))
distinct_length (suc m) q r = let ih = distinct_length m (remove (suc m) q) (distinct_remove m q r) in omega (arith, remove-length (suc m) q)

module _ (K : Rules) where
  pub lead_waits : (x : Entry) (q : List Entry) → leads K.rank x q ≡ true → waits x.task q ≡ false
  unfolding waits
  lead_waits x [] l = refl
  lead_waits x (y ∷ q) l =
      let o = open_leads K x y q l in
      or_f (eqb y.task x.task) _ (ne_eqb y.task x.task o.other) (lead_waits x q o.rest)

  queued_distinct : (q : List Entry) → queued K q ≡ true → Distinct K.tasks q
  unfolding Distinct
  queued_distinct [] l = tt
  queued_distinct (x ∷ q) l =
      let o = open_queued K x q l in
      let a = entry-asked K x o.entry in
      (a.task-least, a.task-most, lead_waits x q o.lead, queued_distinct q o.rest)

  pub waits-least : (t : ℕ) (q : List Entry) → queued K q ≡ true → waits t q ≡ true → 1 ≤ t
  unfolding waits
  waits-least t [] o w = clash false w refl
  waits-least t (x ∷ q) o w =
      let u = open_queued K x q o in
      by (eqb x.task t) (λ h. omega (arith, eqb-true x.task t h, (entry-asked K x u.entry).task-least)) (λ h. waits-least t q u.rest (rw h at w))

  pub queued-length : (q : List Entry) → queued K q ≡ true → length q ≤ K.tasks
  queued-length q h = distinct_length K.tasks q (queued_distinct q h)

-- those who leave, and those who stay

pub remove-count : (t : ℕ) (q : List Entry) → waits t q ≡ true → suc (length (remove t q)) ≡ length q
unfolding waits remove
remove-count t [] w = clash false w refl
remove-count t (e ∷ q) w =
    by (eqb e.task t) (λ h. rw h) (λ h. let ih = remove-count t q (rw h at w) in rw h (omega (arith, ih)))

pub expired-count : (q : List Entry) → length (expired q) + length (remaining q) ≡ length q
unfolding expired remaining
expired-count [] = refl
expired-count (e ∷ q) = let ih = expired-count q in by (expires e) (λ h. rw h (omega (arith, ih))) (λ h. rw h (omega (arith, ih)))

pub head-place : (t : ℕ) (q : List Entry) → head_task q ≡ t → waits t q ≡ true → place_in t q ≡ 1
unfolding head_task place_in waits
head-place t [] e w = clash false w refl
head-place t (x ∷ q) e w = rw (eq-eqb x.task t e)
