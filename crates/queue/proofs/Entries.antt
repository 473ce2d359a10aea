-- Laws of the entries: what the tests, the place found and the place of a newcomer say. Assumes nothing.
use Prim.Native.Nat.{ℕ, zero, suc, ◌+◌, ◌≤◌, ◌<◌}
use mathlib.Core.Path.{◌≡◌, refl, sym, ap, ◌∙◌}
use mathlib.Core.Bool.{Bool, true, false, not, ◌&&◌, ◌||◌}
use mathlib.Core.List.{List, [], ◌∷◌}
use native.Mathlib.Omega.{arith}
use native.Mathlib.Numerals.{one-add}
use lib.Dec.{leb, ltb, eqb}
use lib.ListN.{length, drop, get_or, set, replicate}
use lib.Seq.{get_or-set_same, get_or-set_other}
use borrow.Author.Tests.{ltb-true, ltb-false, lt-ltb, le-ltb, leb-true, eqb-true, eqb-false, le-leb, lt-leb}
use Rattle.model.specs.declared.Attributes.{Attributes}
use Rattle.model.specs.declared.Entry.{Entry}
use Rattle.model.specs.Limits.{most_tasks}
use Rattle.model.specs.Waiting.{waits, remove, head_task, blocked, leads, ok_left}
use Rattle.model.specs.Rules.{ok_task, ok_entry, queued, rank_by, rules}
use Rattle.model.specs.Places.{no_entry, used, all_unused, tidy}
use Rattle.model.proofs.Tests.{by, clash, and_l, and_r, and_f_r, and-true, and_assoc, and_swap}
use Rattle.model.proofs.Waiting.{head-blocks}
use Rattle.std.specs.Prelude.{Some, None}
use Rattle.std.specs.List.{position, position_or_len, prefix_len, take_while}
use Rattle.queue.specs.Entries.{sound_queue, place, found, without}
use Rattle.queue.proofs.Places.{used_stop, used_go, tidy_stop, tidy_go, drop_end}

-- ---- a sound queue

-- none of the entries is of a lower rank than r
unfoldable pub above : (order r : ℕ) → List Entry → Bool
above order r [] = true
above order r (e ∷ q) = leb r (rank_by order e) && above order r q

above_zero : (order : ℕ) (q : List Entry) → above order 0 q ≡ true
unfolding above
above_zero order [] = refl
above_zero order (e ∷ q) = rw (le-leb 0 (rank_by order e) (omega arith)) (above_zero order q)

above_less : (order k r : ℕ) (q : List Entry) → k ≤ r → above order r q ≡ true → above order k q ≡ true
unfolding above
above_less order k r [] h a = refl
above_less order k r (e ∷ q) h a =
    let m = leb-true r (rank_by order e) (and_l (leb r (rank_by order e)) (above order r q) a) in
    rw (le-leb k (rank_by order e) (omega (arith, h, m))) (above_less order k r q h (and_r (leb r (rank_by order e)) (above order r q) a))

leads_split : (order : ℕ) (x : Entry) (q : List Entry) → leads (rank_by order) x q ≡ not (waits x.task q) && above order (rank_by order x) q
unfolding leads waits above
leads_split order x [] = refl
leads_split order x (y ∷ q) =
    let b = leb (rank_by order x) (rank_by order y) in
    by (eqb y.task x.task) (λ h. rw h) (λ h. rw h (ap (λ (c : Bool). b && c) (leads_split order x q) ∙ and_swap b (not (waits x.task q)) (above order (rank_by order x) q)))

-- the number of a task that may stand in the queue
pub entry_number : (a : Attributes) (n : ℕ) (e : Entry) → ok_entry (rules a n) e ≡ true → e.task ≤ most_tasks
unfolding rules
entry_number a n e h = leb-true e.task most_tasks (and_r (leb 1 e.task) (leb e.task most_tasks) (and_l (ok_task (rules a n) e.task) ((rules a n).allowed e && ok_left e.left) h))

-- none of the entries is of a task that is marked
unfoldable pub unmarked : List Bool → List Entry → Bool
unmarked seen [] = true
unmarked seen (e ∷ q) = not (get_or seen e.task false) && unmarked seen q

get_or_none : (m i : ℕ) → get_or (replicate m false) i false ≡ false
get_or_none zero i = refl
get_or_none (suc m) zero = refl
get_or_none (suc m) (suc i) = get_or_none m i

unmarked_none : (m : ℕ) (q : List Entry) → unmarked (replicate m false) q ≡ true
unfolding unmarked
unmarked_none m [] = refl
unmarked_none m (e ∷ q) = rw (get_or_none m e.task) (unmarked_none m q)

-- one more mark: nobody of that task follows
unmarked_set : (seen : List Bool) (t : ℕ) → t < length seen → (q : List Entry) → unmarked (set seen t true) q ≡ not (waits t q) && unmarked seen q
unfolding unmarked waits
unmarked_set seen t h [] = refl
unmarked_set seen t h (e ∷ q) =
    by (eqb e.task t)
    (λ s. rw (s, eqb-true e.task t s, get_or-set_same seen t true false h))
    (λ s. rw (s, get_or-set_other seen t e.task true false (eqb-false e.task t s), unmarked_set seen t h q)
    (and_swap (not (get_or seen e.task false)) (not (waits t q)) (unmarked seen q)))

-- what is still to be tested of the places, given the tasks marked, the rank of the last entry, and whether the entries have ended
abbrev pub test_from : Attributes → ℕ → List Bool → ℕ → Bool → List Entry → Bool
test_from a n seen last true l = all_unused l
test_from a n seen last false l = sound_queue a n l && (unmarked seen (used l) && above a.order last (used l))

pub test_starts : (a : Attributes) (n m : ℕ) (l : List Entry) → sound_queue a n l ≡ test_from a n (replicate m false) 0 false l
test_starts a n m l = rw (unmarked_none m (used l), above_zero a.order (used l)) (sym (and-true (sound_queue a n l)))

regroup : (free rises sound unseen above : Bool) → (rises ≡ true → above ≡ true) → ((free && rises) && sound) && (unseen && above) ≡ sound && ((free && unseen) && rises)
regroup false rises sound unseen above f = sym (and_f_r sound false refl)
regroup true false sound unseen above f = sym (and_f_r sound (unseen && false) (and_f_r unseen false refl))
regroup true true sound unseen above f = ap (λ (b : Bool). sound && (unseen && b)) (f refl)

-- the test at one place more
module _ (a : Attributes) (n : ℕ) (l : List Entry) (i : ℕ) (seen : List Bool) (last : ℕ) where
  abbrev x : Entry
  x = get_or l i no_entry

  abbrev r : List Entry
  r = drop (i + 1) l

  abbrev order : ℕ
  order = a.order

  pub test_ended : (ended : Bool) → ended || eqb x.task 0 ≡ true → test_from a n seen last ended (drop i l) ≡ all_unused (drop i l)
  unfolding queued unmarked above
  test_ended true h = refl
  test_ended false h = let z = eqb-true x.task 0 h in rw (used_stop l i z, tidy_stop l i z) (and-true (all_unused (drop i l)))

  -- who stands behind x: nobody of its task, and nobody of a lower rank
  abbrev free : Bool
  free = not (waits x.task (used r))

  abbrev rises : Bool
  rises = above order (rank_by order x) (used r)

  sound_split : (x.task ≡ 0 → ⊥) → sound_queue a n (drop i l) ≡ ok_entry (rules a n) x && ((free && rises) && sound_queue a n r)
  unfolding queued rules
  sound_split h =
      let q = queued (rules a n) (used r) in
      rw (used_go l i h, tidy_go l i h, leads_split order x (used r), and_assoc (ok_entry (rules a n) x) ((free && rises) && q) (tidy r), and_assoc (free && rises) q (tidy r))

  pub test_bad : (ended : Bool) → ended || eqb x.task 0 ≡ false → ok_entry (rules a n) x ≡ false → test_from a n seen last ended (drop i l) ≡ false
  test_bad true h b = clash true refl h
  test_bad false h b = rw (sound_split (eqb-false x.task 0 h), b)

  pub test_marked : (ended : Bool) → ended || eqb x.task 0 ≡ false → get_or seen x.task false ≡ true → test_from a n seen last ended (drop i l) ≡ false
  unfolding unmarked
  test_marked true h m = clash true refl h
  test_marked false h m = and_f_r (sound_queue a n (drop i l)) _ (rw (used_go l i (eqb-false x.task 0 h), m))

  pub test_low : (ended : Bool) → ended || eqb x.task 0 ≡ false → rank_by order x < last → test_from a n seen last ended (drop i l) ≡ false
  unfolding above
  test_low true h m = clash true refl h
  test_low false h m =
      and_f_r (sound_queue a n (drop i l)) _
      (and_f_r (unmarked seen (used (drop i l))) _ (rw (used_go l i (eqb-false x.task 0 h), lt-leb last (rank_by order x) m)))

  pub test_go : (ended : Bool) → ended || eqb x.task 0 ≡ false → ok_entry (rules a n) x ≡ true → get_or seen x.task false ≡ false → last ≤ rank_by order x → x.task < length seen
      → test_from a n seen last ended (drop i l) ≡ test_from a n (set seen x.task true) (rank_by order x) false r
  unfolding unmarked above
  test_go true h ok m low k = clash true refl h
  test_go false h ok m low k =
      let u = eqb-false x.task 0 h in
      rw (sound_split u, used_go l i u, ok, m, le-leb last (rank_by order x) low, unmarked_set seen x.task k (used r))
      (regroup free rises (sound_queue a n r) (unmarked seen (used r)) (above order last (used r)) (above_less order last (rank_by order x) (used r) low))

  pub test_end : (ended : Bool) → length l ≡ most_tasks → most_tasks ≤ i → test_from a n seen last ended (drop i l) ≡ true
  unfolding queued used tidy all_unused unmarked above
  test_end true e h = rw (drop_end l i e h)
  test_end false e h = rw (drop_end l i e h)

pub record Sound (a : Attributes) (n : ℕ) (es : List Entry) : Type 0 where
  pub queue : queued (rules a n) (used es) ≡ true
  pub places : tidy es ≡ true

pub open_sound : (a : Attributes) (n : ℕ) (es : List Entry) → sound_queue a n es ≡ true → Sound a n es
open_sound a n es h = record { queue = and_l (queued (rules a n) (used es)) (tidy es) h; places = and_r (queued (rules a n) (used es)) (tidy es) h }

-- ---- who waits

-- the entries are those in front of the first unused place
used_while : (l : List Entry) → take_while (λ e. not (eqb e.task 0)) l ≡ used l
unfolding used
used_while [] = refl
used_while (e ∷ q) = by (eqb e.task 0) (λ h. rw h) (λ h. rw (h, one-add (prefix_len (λ x. not (eqb x.task 0)) q)) (ap (λ (l : List Entry). e ∷ l) (used_while q)))

place_is : (t : ℕ) (q : List Entry) → position_or_len (λ e. eqb e.task t) q ≡ place t q
unfolding place
place_is t [] = refl
place_is t (e ∷ q) = by (eqb e.task t) (λ h. rw h) (λ h. rw (h, one-add (position_or_len (λ x. eqb x.task t) q)) (ap suc (place_is t q)))

place_within : (t : ℕ) (q : List Entry) → ltb (place t q) (length q) ≡ waits t q
unfolding place waits
place_within t [] = refl
place_within t (e ∷ q) =
    let p = place t q in
    let n = length q in
    let step : ltb (suc p) (suc n) ≡ ltb p n =
    by (ltb p n) (λ h. rw h (lt-ltb (suc p) (suc n) (omega (arith, ltb-true p n h)))) (λ h. rw h (le-ltb (suc p) (suc n) (omega (arith, ltb-false p n h)))) in
    by (eqb e.task t) (λ h. rw h (lt-ltb 0 (suc n) (omega arith))) (λ h. rw h (step ∙ place_within t q))

pub found_place : (t : ℕ) (l : List Entry) → position (λ e. eqb e.task t) (take_while (λ e. not (eqb e.task 0)) l) ≡ found t (used l)
found_place t l = rw (used_while l, place_is t (used l), place_within t (used l))

place-length : (t : ℕ) (q : List Entry) → waits t q ≡ true → place t q < length q
unfolding waits place
place-length t [] w = clash false w refl
place-length t (e ∷ q) w = by (eqb e.task t) (λ h. rw h (omega arith)) (λ h. let ih = place-length t q (rw h at w) in rw h (omega arith))

without-place : (t : ℕ) (q : List Entry) → without (place t q) q ≡ remove t q
unfolding remove place
without-place t [] = refl
without-place t (e ∷ q) = by (eqb e.task t) (λ h. rw h) (λ h. rw h (ap (λ (k : List Entry). e ∷ k) (without-place t q)))

-- what a place found says of the task
pub record Found (t i : ℕ) (q : List Entry) : Type 0 where
  pub waiting : waits t q ≡ true
  pub within : i < length q
  pub removed : without i q ≡ remove t q

nowhere {ℓ} : {X : Type ℓ} (i : ℕ) → Some i ≡ None → X
nowhere i e = absurd (let z : ◌≡◌ {A = ℕ} 0 1 = cc in omega arith)

module _ (t : ℕ) (q : List Entry) where
  pub found_nothing : None ≡ found t q → waits t q ≡ false
  found_nothing e = by (waits t q) (λ w. nowhere (place t q) (sym (rw w at e))) (λ w. w)

  pub found_at : (i : ℕ) → Some i ≡ found t q → Found t i q
  found_at i e =
      let w : waits t q ≡ true = by (waits t q) (λ w. w) (λ w. nowhere i (rw w at e)) in
      let g : Some i ≡ Some (place t q) = rw w at e in
      let k : i ≡ place t q = cc in
      record { waiting = w; within = rw k (place-length t q w); removed = rw k (without-place t q) }

-- ---- the head

module _ (es : List Entry) where
  pub head-task : head_task (used es) ≡ (get_or es 0 no_entry).task
  unfolding head_task
  head-task =
      by (eqb (get_or es 0 no_entry).task 0)
      (λ h. let z = eqb-true (get_or es 0 no_entry).task 0 h in rw (used_stop es 0 z) (sym z))
      (λ h. rw (used_go es 0 (eqb-false (get_or es 0 no_entry).task 0 h)))

  -- a request of rank r is not blocked exactly if there is no head or its rank is above r
  pub head_decides : (a : Attributes) (n r : ℕ) → queued (rules a n) (used es) ≡ true → blocked (rank_by a.order) r (used es) ≡ not (eqb (get_or es 0 no_entry).task 0 || ltb r (rank_by a.order (get_or es 0 no_entry)))
  unfolding blocked rules
  head_decides a n r o =
      let x = get_or es 0 no_entry in
      let k = rank_by a.order x in
      by (eqb x.task 0)
      (λ h. rw (h, used_stop es 0 (eqb-true x.task 0 h)))
      (λ h. let g = used_go es 0 (eqb-false x.task 0 h) in
      rw (h, g) (head-blocks (rules a n) r x _ (rw g at o) ∙ by (ltb r k) (λ l. rw l (lt-leb k r (ltb-true r k l))) (λ l. rw l (le-leb k r (ltb-false r k l)))))
