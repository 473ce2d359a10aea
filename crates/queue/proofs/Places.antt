-- Laws of the queue's places: what is stored in them, and each definition at one place more. Assumes nothing.
use Prim.Native.Nat.{ℕ, zero, suc, ◌+◌, ◌-◌, ◌≤◌}
use mathlib.Core.Path.{◌≡◌, refl, ap, ◌∙◌}
use mathlib.Core.Bool.{true, false, cond, ◌&&◌}
use mathlib.Core.List.{List, [], ◌∷◌, ◌++◌, append_assoc, append-nil}
use native.Mathlib.Omega.{arith}
use native.Mathlib.Nat.{zero-add}
use native.Mathlib.Numerals.{add-one}
use lib.Dec.{eqb}
use lib.ListN.{length, take, drop, get_or, set, replicate, length-drop, drop_of_length-le}
use borrow.Rule.Slice.PartMut.{put_mid}
use lib.Seq.{length-take-le, sets, paste, take_all, take-paste, length-paste}
use borrow.Author.Tests.{eq-eqb, ne_eqb}
use Rattle.model.specs.declared.Entry.{Entry}
use Rattle.model.specs.Limits.{most_tasks}
use Rattle.model.specs.Places.{no_entry, pad, used, is_unused, all_unused, tidy}
use Rattle.model.proofs.Tests.{by}
use Rattle.model.proofs.Places.{tidy-is}
use Rattle.queue.specs.Entries.{without}

-- ---- any list in its places

module _ {A : Type 0} where
  -- room for x at place i, the last place lost
  room : (l : List A) (i m k : ℕ) (x : A) → i + suc m ≡ length l → length l ≤ k → set (take (suc i) l ++ take m (drop i l) ++ drop k l) i x ≡ take (length l) (take i l ++ x ∷ drop i l)
  room [] i m k x h g = absurd (omega arith)
  room (y ∷ l) zero m k x h g = let e : m ≡ length l = omega arith in rw (drop_of_length-le (y ∷ l) {i = k} g, e, append-nil (take (length l) (y ∷ l)))
  room (y ∷ l) (suc i) m k x h g = rw (drop_of_length-le (y ∷ l) {i = k} g) (ap (λ (r : List A). y ∷ r) (rw (← drop_of_length-le l {i = k} (omega arith)) (room l i m k x (omega arith) (omega arith))))

  pub make_room : (l : List A) (i j : ℕ) (x : A) → i ≤ j → j + 1 ≡ length l → set (paste l (i + 1) (drop i l) (j - i)) i x ≡ take (length l) (take i l ++ x ∷ drop i l)
  make_room l i j x h n = rw add-one (room l i (j - i) (suc i + (j - i)) x (omega arith) (omega arith))

module _ {A : Type 0} (d : A) where
  -- a definition that goes element by element and takes the end for d, at one place more
  split_drop : {X : Type 0} (f : List A → X) (g : A → List A → X) → f [] ≡ g d [] → ((x : A) (xs : List A) → f (x ∷ xs) ≡ g x xs) → (l : List A) (i : ℕ) → f (drop i l) ≡ g (get_or l i d) (drop (suc i) l)
  split_drop f g n s [] zero = n
  split_drop f g n s [] (suc i) = n
  split_drop f g n s (x ∷ xs) zero = s x xs
  split_drop f g n s (x ∷ xs) (suc i) = split_drop f g n s xs i

  pub pad-nil : (n : ℕ) → replicate n d ≡ pad d n []
  unfolding pad
  pad-nil zero = refl
  pad-nil (suc n) = ap (λ (k : List A). d ∷ k) (pad-nil n)

  -- one place fewer; the places from the k-th on; those behind a list; more of them
  pub take-pad : (n : ℕ) (xs : List A) → take n (pad d (suc n) xs) ≡ pad d n xs
  unfolding pad
  take-pad zero xs = refl
  take-pad (suc n) [] = ap (λ (l : List A). d ∷ l) (take-pad n [])
  take-pad (suc n) (x ∷ xs) = ap (λ (l : List A). x ∷ l) (take-pad n xs)

  drop-pad : (k n : ℕ) (xs : List A) → drop k (pad d (k + n) xs) ≡ pad d n (drop k xs)
  unfolding pad
  drop-pad zero n xs = rw (zero-add n)
  drop-pad (suc k) n [] = let e : suc k + n ≡ suc (k + n) = omega arith in rw e (drop-pad k n [] ∙ ap (pad d n) (drop_of_length-le {A = A} [] {i = k} (omega arith)))
  drop-pad (suc k) n (x ∷ xs) = let e : suc k + n ≡ suc (k + n) = omega arith in rw e (drop-pad k n xs)

  pad-behind : (n : ℕ) (xs ys : List A) → xs ++ pad d n ys ≡ pad d (length xs + n) (xs ++ ys)
  unfolding pad
  pad-behind n [] ys = rw (zero-add n)
  pad-behind n (x ∷ xs) ys = let e : suc (length xs) + n ≡ suc (length xs + n) = omega arith in rw e (ap (λ (l : List A). x ∷ l) (pad-behind n xs ys))

  pad-more : (n c : ℕ) (xs : List A) → length xs ≤ n → pad d n xs ++ replicate c d ≡ pad d (n + c) xs
  unfolding pad
  pad-more zero c [] h = rw (zero-add c) (pad-nil c)
  pad-more zero c (x ∷ xs) h = absurd (omega arith)
  pad-more (suc n) c [] h = let e : suc n + c ≡ suc (n + c) = omega arith in rw e (ap (λ (l : List A). d ∷ l) (pad-more n c [] (omega arith)))
  pad-more (suc n) c (x ∷ xs) h = let e : suc n + c ≡ suc (n + c) = omega arith in rw e (ap (λ (l : List A). x ∷ l) (pad-more n c xs (omega arith)))

  -- c places left out at place p, those behind them so many further up, and d in the last
  pub cut_places : (n p c : ℕ) (l z : List A) → length l ≡ n → p + c ≤ n → z ≡ replicate c d
      → put_mid (n - c) (n - (n - c)) (paste l p (drop (p + c) l) (length l - (p + c))) z ≡ take p l ++ (drop (p + c) l ++ replicate c d)
  cut_places n p c l z e h w =
      let m : ℕ = length l - (p + c) in
      let s : List A = drop (p + c) l in
      let k : n - c ≡ p + m = omega arith in
      let j : length s ≡ m = omega (arith, length-drop (p + c) l) in
      let q : List A = paste l p s m in
      let o : length q ≡ n = length-paste l p s m (omega arith) (omega arith) ∙ e in
      let front : take (n - c) q ≡ take p l ++ s = rw k (take-paste l p s m (omega arith) (omega arith) ∙ rw (take_all m s (omega arith))) in
      let back : drop (n - (n - c)) (drop (n - c) q) ≡ [] = drop_of_length-le (drop (n - c) q) {i = n - (n - c)} (omega (arith, length-drop (n - c) q)) in
      rw (front, back, w, append-nil, append_assoc)

  -- elements stored one by one into empty places
  sets-nil : (i : ℕ) (xs : List A) → sets [] i xs ≡ []
  sets-nil i [] = refl
  sets-nil i (x ∷ xs) = sets-nil (suc i) xs

  sets-cons : (a : A) (l : List A) (i : ℕ) (xs : List A) → sets (a ∷ l) (suc i) xs ≡ a ∷ sets l i xs
  sets-cons a l i [] = refl
  sets-cons a l i (x ∷ xs) = sets-cons a (set l i x) (suc i) xs

  pub sets-pad : (n : ℕ) (xs : List A) → sets (pad d n []) 0 xs ≡ pad d n xs
  unfolding pad
  sets-pad zero xs = sets-nil 0 xs
  sets-pad (suc n) [] = refl
  sets-pad (suc n) (x ∷ xs) = sets-cons x (pad d n []) 0 xs ∙ ap (λ (l : List A). x ∷ l) (sets-pad n xs)

  -- the same behind those that are stored
  pub sets_behind : (n : ℕ) (xs ys : List A) → sets (pad d n xs) (length xs) ys ≡ pad d n (xs ++ ys)
  unfolding pad
  sets_behind n [] ys = sets-pad n ys
  sets_behind zero (x ∷ xs) ys = sets-nil (suc (length xs)) ys
  sets_behind (suc n) (x ∷ xs) ys = sets-cons x (pad d n xs) (length xs) ys ∙ ap (λ (l : List A). x ∷ l) (sets_behind n xs ys)

-- ---- the entries and the places that hold them

pub used-length : (l : List Entry) → length (used l) ≤ length l
unfolding used
used-length [] = omega arith
used-length (e ∷ r) = let ih = used-length r in by (eqb e.task 0) (λ h. rw h (omega arith)) (λ h. rw h (omega (arith, ih)))

-- c places left out at place p of places that are tidy, and as many unused ones behind the last
pub cut_entries : (p c : ℕ) (l : List Entry) → tidy l ≡ true → p + c ≤ length l
    → take p l ++ (drop (p + c) l ++ replicate c no_entry) ≡ pad no_entry (length l) (take p l ++ drop (p + c) (used l))
cut_entries p c l t h =
    let m : ℕ = length l - (p + c) in
    let ys : List Entry = drop (p + c) (used l) in
    let n : length l ≡ p + c + m = omega arith in
    let back : drop (p + c) l ≡ pad no_entry m ys = ap (drop (p + c)) (tidy-is l t ∙ ap (λ (k : ℕ). pad no_entry k (used l)) n) ∙ drop-pad no_entry (p + c) m (used l) in
    let more : pad no_entry m ys ++ replicate c no_entry ≡ pad no_entry (m + c) ys = pad-more no_entry m c ys (omega (arith, length-drop (p + c) (used l), used-length l)) in
    let k : length (take p l) + (m + c) ≡ length l = omega (arith, length-take-le p l) in
    rw (back, more) (pad-behind no_entry (m + c) (take p l) ys ∙ rw k)

used-parts : (i : ℕ) (l : List Entry) → i ≤ length (used l) → (take i l ≡ take i (used l)) × (drop i (used l) ≡ used (drop i l))
unfolding used
used-parts zero l h = (refl, refl)
used-parts (suc i) [] h = (refl, refl)
used-parts (suc i) (e ∷ r) h =
    by (eqb e.task 0)
    (λ z. absurd (let k : suc i ≤ 0 = rw z at h in omega arith))
    (λ z. let k : suc i ≤ suc (length (used r)) = rw z at h in
    let ih = used-parts i r (omega arith) in
    rw z (ap (λ (k : List Entry). e ∷ k) ih.0, ih.1))

module _ (i : ℕ) (l : List Entry) (h : i ≤ length (used l)) where
  pub remove_places : take i l ++ drop (i + 1) (used l) ≡ without i (used l)
  remove_places = rw (add-one, (used-parts i l h).0)

  pub used-drop : drop i (used l) ≡ used (drop i l)
  used-drop = (used-parts i l h).1

-- ---- one place more

module _ (l : List Entry) (i : ℕ) where
  abbrev x : Entry
  x = get_or l i no_entry

  used_split : used (drop i l) ≡ cond (eqb x.task 0) [] (x ∷ used (drop (suc i) l))
  unfolding used
  used_split = split_drop no_entry used (λ e r. cond (eqb e.task 0) [] (e ∷ used r)) refl (λ e r. refl) l i

  unused_split : all_unused (drop i l) ≡ is_unused x && all_unused (drop (suc i) l)
  unfolding all_unused
  unused_split = split_drop no_entry all_unused (λ e r. is_unused e && all_unused r) refl (λ e r. refl) l i

  tidy_split : tidy (drop i l) ≡ cond (eqb x.task 0) (is_unused x && all_unused (drop (suc i) l)) (tidy (drop (suc i) l))
  unfolding tidy all_unused
  tidy_split = split_drop no_entry tidy (λ e r. cond (eqb e.task 0) (is_unused e && all_unused r) (tidy r)) refl (λ e r. refl) l i

  pub unused_stop : is_unused x ≡ false → all_unused (drop i l) ≡ false
  unused_stop h = unused_split ∙ rw h

  pub unused_go : is_unused x ≡ true → all_unused (drop i l) ≡ all_unused (drop (i + 1) l)
  unused_go h = unused_split ∙ rw (h, add-one)

  pub used_stop : x.task ≡ 0 → used (drop i l) ≡ []
  used_stop h = used_split ∙ rw (eq-eqb x.task 0 h)

  pub tidy_stop : x.task ≡ 0 → tidy (drop i l) ≡ all_unused (drop i l)
  tidy_stop h = tidy_split ∙ rw (unused_split, eq-eqb x.task 0 h)

  module _ (h : x.task ≡ 0 → ⊥) where
    pub used_go : used (drop i l) ≡ x ∷ used (drop (i + 1) l)
    used_go = used_split ∙ rw (ne_eqb x.task 0 h, add-one)

    pub tidy_go : tidy (drop i l) ≡ tidy (drop (i + 1) l)
    tidy_go = tidy_split ∙ rw (ne_eqb x.task 0 h, add-one)

  pub drop_end : length l ≡ most_tasks → most_tasks ≤ i → drop i l ≡ []
  drop_end e h = drop_of_length-le l {i = i} (omega arith)

  pub used_end : length l ≡ most_tasks → most_tasks ≤ i → used (drop i l) ≡ []
  unfolding used
  used_end e h = rw (drop_end e h)
