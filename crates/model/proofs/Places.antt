-- Laws of the queue's places: entries from places and places from entries are inverse. Assumes nothing.
use Prim.Native.Nat.{ℕ, zero, suc, ◌≤◌}
use mathlib.Core.Path.{◌≡◌, refl, sym, ap, ◌∙◌}
use mathlib.Core.Bool.{true, ◌&&◌}
use mathlib.Core.List.{List, [], ◌∷◌}
use native.Mathlib.Omega.{arith}
use lib.ListN.{length}
use lib.Dec.{eqb}
use borrow.Author.Tests.{eqb-true, ne_eqb}
use Rattle.model.specs.Limits.{most_tasks}
use Rattle.model.specs.Waiting.{Entry}
use Rattle.model.specs.Rules.{Rules, queued}
use Rattle.model.specs.Places.{Queue, no_entry, pad, used, is_unused, all_unused, tidy, entries_of, queue_of}
use Rattle.model.proofs.Tests.{by, and_l, and_r}
use Rattle.model.proofs.Waiting.{open_queued, entry-asked}

-- ---- places that are tidy are their entries, padded

unused_is : (e : Entry) → is_unused e ≡ true → e ≡ no_entry
unused_is e h =
    let a = eqb e.task 0 in
    let b = eqb e.size 0 in
    let c = eqb e.left 0 in
    let d = eqb e.priority 0 in
    let h2 = and_r a (b && (c && d)) h in
    let h3 = and_r b (c && d) h2 in
    let t = eqb-true e.task 0 (and_l a (b && (c && d)) h) in
    let z = eqb-true e.size 0 (and_l b (c && d) h2) in
    let l = eqb-true e.left 0 (and_l c d h3) in
    let p = eqb-true e.priority 0 (and_r c d h3) in
    λ i. record { task = t i; size = z i; left = l i; priority = p i }

all_unused_is : (l : List Entry) → all_unused l ≡ true → l ≡ pad no_entry (length l) []
unfolding all_unused pad
all_unused_is [] h = refl
all_unused_is (e ∷ r) h = λ i. unused_is e (and_l (is_unused e) (all_unused r) h) i ∷ all_unused_is r (and_r (is_unused e) (all_unused r) h) i

pub tidy-is : (l : List Entry) → tidy l ≡ true → l ≡ pad no_entry (length l) (used l)
unfolding tidy used pad
tidy-is [] h = refl
tidy-is (e ∷ r) h =
    by (eqb e.task 0)
    (λ z. rw z (all_unused_is (e ∷ r) (rw z at h)))
    (λ z. rw z (ap (λ (x : List Entry). e ∷ x) (tidy-is r (rw z at h))))

-- ---- padded entries are tidy, and their entries are the same

-- no entry has the task 0
unfoldable pub Live : List Entry → Type 0
Live [] = Unit {0}
Live (e ∷ r) = (e.task ≡ 0 → ⊥) × Live r

pub queued-live : (K : Rules) (q : List Entry) → queued K q ≡ true → Live q
unfolding Live
queued-live K [] h = tt
queued-live K (e ∷ q) h = let o = open_queued K e q h in (λ z. omega (arith, (entry-asked K e o.entry).task-least), queued-live K q o.rest)

pub pad-length : {A : Type 0} (d : A) (n : ℕ) (xs : List A) → length (pad d n xs) ≡ n
unfolding pad
pad-length d zero xs = refl
pad-length d (suc n) [] = ap suc (pad-length d n [])
pad-length d (suc n) (x ∷ xs) = ap suc (pad-length d n xs)

pub used-pad : (n : ℕ) (es : List Entry) → Live es → length es ≤ n → used (pad no_entry n es) ≡ es
unfolding used pad Live
used-pad zero [] v h = refl
used-pad (suc n) [] v h = refl
used-pad zero (e ∷ r) v h = absurd (omega (arith, h))
used-pad (suc n) (e ∷ r) v h = rw (ne_eqb e.task 0 v.0) (ap (λ (k : List Entry). e ∷ k) (used-pad n r v.1 (omega (arith, h))))

unused_pad : (n : ℕ) → all_unused (pad no_entry n []) ≡ true
unfolding all_unused pad
unused_pad zero = refl
unused_pad (suc n) = unused_pad n

pub tidy-pad : (n : ℕ) (es : List Entry) → Live es → tidy (pad no_entry n es) ≡ true
unfolding tidy pad Live
tidy-pad zero es v = refl
tidy-pad (suc n) [] v = unused_pad (suc n)
tidy-pad (suc n) (e ∷ r) v = rw (ne_eqb e.task 0 v.0) (tidy-pad n r v.1)

-- ---- the queue

pub queue_entries : (q : Queue) → length q.entries ≡ most_tasks → tidy q.entries ≡ true → queue_of q.attributes (entries_of q) ≡ q
queue_entries q n h = sym (ap {B = Queue} (λ (l : List Entry). record { attributes = q.attributes; entries = l }) (tidy-is q.entries h ∙ ap (λ (k : ℕ). pad no_entry k (entries_of q)) n))
