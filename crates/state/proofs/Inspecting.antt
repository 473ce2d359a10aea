-- The test of a state, opened, and the calls on a state that is sound or not. Assumes nothing.
use Prim.Native.Nat.{ℕ, ◌+◌, ◌≤◌, ◌<◌}
use mathlib.Core.Path.{◌≡◌, refl, sym, ap, ◌∙◌}
use mathlib.Core.Bool.{Bool, true, false, not, ◌&&◌}
use mathlib.Core.List.{List, ◌∷◌, map}
use mathlib.Core.Option.{none, some}
use native.Mathlib.Omega.{arith}
use lib.ListN.{length, get_or, length-map}
use lib.Dec.{leb, eqb}
use borrow.Author.Tests.{le-leb, lt-leb}
use Rattle.std.specs.Prelude.{Some, None, Result, Ok, Err}
use Rattle.model.specs.declared.HeaderPlace.{HeaderPlace}
use Rattle.model.specs.declared.Entry.{Entry}
use Rattle.model.specs.declared.Queue.{Queue}
use Rattle.model.specs.declared.errors.CallError.{CallError}
use Rattle.model.specs.declared.errors.CallError.TheVariants.{Unsound}
use Rattle.model.specs.Limits.{most_tasks, longest_pool}
use Rattle.model.specs.Blocks.{total, tiled, sum_free, greatest_free}
use Rattle.model.specs.Bytes.{blocks_of, render, erase}
use Rattle.model.specs.Rules.{Rules, ok_long, ok_attributes, need_of, queued, rules}
use Rattle.model.specs.Calls.{Call, Refusal, blocks, head_stuck, sound, tests, act}
use Rattle.model.specs.Places.{no_entry, tidy, entries_of, queue_of}
use Rattle.model.specs.Pool.{stored, view, settled, sound_by, is_sound, result_of, answered, called}
use Rattle.model.proofs.Tests.{by, and_l, and_r, and_f_r, and-true}
use Rattle.model.proofs.Waiting.{open_queued, entry-asked}
use Rattle.model.proofs.Blocks.{greatest-total, fits-greatest}
use Rattle.model.proofs.Bytes.{Bytes, finer_refl, render-erase, render-blocks}
use Rattle.model.proofs.Places.{queue_entries}
use Rattle.model.proofs.Rules.{rules_laws}
use Rattle.model.proofs.Pool.{by_refused, by_done}
use Rattle.layout.specs.declared.Target.{Target}
use Rattle.layout.specs.declared.Survey.{Survey}
use Rattle.layout.specs.Layout.{sound_pool, seek, sought, survey_of, Grantable}
use Rattle.layout.proofs.Sound.{open_pool}
use Rattle.layout.proofs.Granting.{run, total-append}
use Rattle.queue.specs.Entries.{sound_queue}
use Rattle.queue.proofs.Places.{used_stop, used_go}
use Rattle.queue.proofs.Entries.{open_sound}
use Rattle.state.specs.State.{rules_in, inspected, refusal}

-- an array in a field of a struct: its length is that of its image
pub length_of_map : (X Y : Type 0) (f : X → Y) (l : List X) (n : ℕ) → length (map f l) ≡ n → length l ≡ n
length_of_map X Y f l n p = sym (length-map l f) ∙ p

pub clash_none : {X A : Type 0} {x : A} → None ≡ Some x → X
clash_none e = absurd (let z : ◌≡◌ {A = ℕ} 0 1 = cc in omega arith)

pub clash_ok : {X A E : Type 0} {x : A} {y : E} → Ok x ≡ Err y → X
clash_ok e = absurd (let z : ◌≡◌ {A = ℕ} 0 1 = cc in omega arith)

-- ---- the test, part by part

regroup : (a v b c d t : Bool) → ((a && v) && (b && (c && d))) && t ≡ (a && b) && (v && ((c && t) && d))
regroup false v b c d t = refl
regroup true false b c d t = sym (and_f_r b false refl)
regroup true true false c d t = refl
regroup true true true false d t = refl
regroup true true true true d t = by d (λ h. rw h (sym (and-true t))) (λ h. rw h (sym (and_f_r t false refl)))

abbrev stuck : List ℕ → Queue → Bool
stuck l q = head_stuck (rules_in l q) (blocks (rules_in l q)) (blocks_of l) (entries_of q)

abbrev sound_entries : List ℕ → Queue → Bool
sound_entries l q = sound_queue q.attributes (length l) q.entries

pub state-parts : (l : List ℕ) (q : Queue) → is_sound rules (stored l q) ≡ sound_pool l && (ok_attributes q.attributes (length l) && (sound_entries l q && stuck l q))
unfolding sound_by view sound sound_pool rules
state-parts l q =
    let n = length l in
    regroup (ok_long n) (ok_attributes q.attributes n) (eqb (total (blocks_of l)) n && tiled most_tasks false (blocks_of l)) (queued (rules_in l q) (entries_of q)) (stuck l q) (tidy q.entries)

pub record State (l : List ℕ) (q : Queue) : Type 0 where
  pub pool : sound_pool l ≡ true
  pub queue : queued (rules_in l q) (entries_of q) ≡ true
  pub places : tidy q.entries ≡ true
  pub head : stuck l q ≡ true

pub open_state : (l : List ℕ) (q : Queue) → is_sound rules (stored l q) ≡ true → State l q
open_state l q h =
    let a = sound_pool l in
    let v = ok_attributes q.attributes (length l) in
    let b = sound_entries l q in
    let c = stuck l q in
    let e = sym (state-parts l q) ∙ h in
    let bc = and_r v (b && c) (and_r a (v && (b && c)) e) in
    let o = open_sound q.attributes (length l) q.entries (and_l b c bc) in
    record { pool = and_l a (v && (b && c)) e; queue = o.queue; places = o.places; head = and_r b c bc }

-- a queue that keeps what create refuses
pub kept_unsound : (l : List ℕ) (q : Queue) → ok_attributes q.attributes (length l) ≡ false → is_sound rules (stored l q) ≡ false
kept_unsound l q e = state-parts l q ∙ by (sound_pool l) (λ p. rw (p, e)) (λ p. rw p)

-- ---- what is inspected

-- the greatest run, header included, is at most the pool's length
pub greatest-least : (l : List ℕ) → sound_pool l ≡ true → greatest_free (blocks_of l) ≤ length l
greatest-least l p = omega (arith, greatest-total (blocks_of l), (open_pool l p).sums)

pub survey-greatest : (t : Target) (l : List ℕ) (seen : Survey) → survey_of t l ≡ Some seen → seen.greatest ≡ greatest_free (blocks_of l)
survey-greatest t l seen e =
    by (sound_pool l)
    (λ p. let m : Some (record { found = seek (sought t) 0 0 (blocks_of l); greatest = greatest_free (blocks_of l); sum = sum_free (blocks_of l) }) ≡ Some seen = rw p at e in
    let k : record { found = seek (sought t) 0 0 (blocks_of l); greatest = greatest_free (blocks_of l); sum = sum_free (blocks_of l) } ≡ seen = cc in
    sym (ap (λ (x : Survey). x.greatest) k))
    (λ p. let n : None ≡ Some seen = rw p at e in clash_none n)

module _ (t : Target) (l : List ℕ) (q : Queue) where
  pub pool-good : (seen : Survey) → survey_of t l ≡ Some seen → sound_pool l ≡ true
  pool-good seen e = by (sound_pool l) (λ p. p) (λ p. let n : None ≡ Some seen = rw p at e in clash_none n)

  pub attributes_bad : ok_attributes q.attributes (length l) ≡ false → Err Unsound ≡ inspected t l q
  attributes_bad e = rw (kept_unsound l q e)

  pub queue_bad : ok_attributes q.attributes (length l) ≡ true → sound_entries l q ≡ false → Err Unsound ≡ inspected t l q
  queue_bad v e =
      let s : is_sound rules (stored l q) ≡ false = state-parts l q ∙ by (sound_pool l) (λ p. rw (p, v, e)) (λ p. rw p) in
      rw s

  module _ (seen : Survey) (found : survey_of t l ≡ Some seen) (v : ok_attributes q.attributes (length l) ≡ true) (b : sound_entries l q ≡ true) where
    abbrev first : Entry
    first = get_or q.entries 0 no_entry

    abbrev need : ℕ
    need = need_of q.attributes first.size

    p : sound_pool l ≡ true
    p = pool-good seen found

    greatest : seen.greatest ≡ greatest_free (blocks_of l)
    greatest = survey-greatest t l seen found

    good : stuck l q ≡ true → Ok seen ≡ inspected t l q
    good h =
        let s : is_sound rules (stored l q) ≡ true = state-parts l q ∙ rw (p, v, b, h) in
        rw (s, found)

    pub head_none : first.task ≡ 0 → Ok seen ≡ inspected t l q
    unfolding head_stuck
    head_none e = good (rw (used_stop q.entries 0 e))

    -- the head fits exactly if its need is at most the greatest run
    head-fits : (first.task ≡ 0 → ⊥) → stuck l q ≡ not (leb need (seen.greatest + 8))
    unfolding head_stuck rules
    head-fits u =
        let K = rules_in l q in
        let g = used_go q.entries 0 u in
        let h : queued K (first ∷ _) ≡ true = rw g at (open_sound q.attributes (length l) q.entries b).queue in
        let a = entry-asked K first (open_queued K first _ h).entry in
        let k : 9 ≤ need = omega (arith, (rules_laws q.attributes (length l)).need_least first a.fair) in
        rw (g, greatest, fits-greatest most_tasks need false (blocks_of l) k (open_pool l p).tiling)

    pub head_fit : (first.task ≡ 0 → ⊥) → need ≤ seen.greatest + 8 → Err Unsound ≡ inspected t l q
    head_fit u h =
        let s : is_sound rules (stored l q) ≡ false = state-parts l q ∙ rw (p, v, b, head-fits u, le-leb need (seen.greatest + 8) h) in
        rw s

    pub head-waits : (first.task ≡ 0 → ⊥) → seen.greatest + 8 < need → Ok seen ≡ inspected t l q
    head-waits u h = good (head-fits u ∙ rw (lt-leb need (seen.greatest + 8) h))

-- a place that is granted has an offset
pub place-small : (l : List ℕ) (p : HeaderPlace) (n : ℕ) → Grantable l p n → p.0 ≤ longest_pool
place-small l p n g =
    let r = run n (blocks_of l) g.run in
    let o = open_pool l g.pool in
    omega (arith, g.place_is, r.place, ap total r.is ∙ total-append r.pre (r.b ∷ r.post), o.sums, o.long.most)

-- ---- what an inspection tells

pub record Told (t : Target) (l : List ℕ) (q : Queue) (seen : Survey) : Type 0 where
  pub state : is_sound rules (stored l q) ≡ true
  pub parts : State l q
  pub found : seen.found ≡ seek (sought t) 0 0 (blocks_of l)
  pub greatest : seen.greatest ≡ greatest_free (blocks_of l)
  pub sum : seen.sum ≡ sum_free (blocks_of l)

module _ (t : Target) (l : List ℕ) (q : Queue) where
  pub told : (seen : Survey) → Ok seen ≡ inspected t l q → Told t l q seen
  told seen e =
      by (is_sound rules (stored l q))
      (λ s. let o = open_state l q s in
      let p = o.pool in
      let m : ◌≡◌ {A = Result Survey CallError} (Ok seen) (Ok (record { found = seek (sought t) 0 0 (blocks_of l); greatest = greatest_free (blocks_of l); sum = sum_free (blocks_of l) })) = e ∙ rw (s, p) in
      let k : seen ≡ record { found = seek (sought t) 0 0 (blocks_of l); greatest = greatest_free (blocks_of l); sum = sum_free (blocks_of l) } = cc in
      record {
        state = s;
        parts = o;
        found = ap (λ (x : Survey). x.found) k;
        greatest = ap (λ (x : Survey). x.greatest) k;
        sum = ap (λ (x : Survey). x.sum) k;
      })
      (λ s. let m : Ok seen ≡ Err Unsound = e ∙ rw s in clash_ok m)

  pub record Unsure (x : CallError) : Type 0 where
    pub state : is_sound rules (stored l q) ≡ false
    pub is : x ≡ Unsound

  pub unsound : (x : CallError) → Err x ≡ inspected t l q → Unsure x
  unsound x e =
      by (is_sound rules (stored l q))
      (λ s. let p = (open_state l q s).pool in
      let m : Err x ≡ Ok (record { found = seek (sought t) 0 0 (blocks_of l); greatest = greatest_free (blocks_of l); sum = sum_free (blocks_of l) }) = e ∙ rw (s, p) in
      clash_ok (sym m))
      (λ s. let m : ◌≡◌ {A = Result Survey CallError} (Err x) (Err Unsound) = e ∙ rw s in record { state = s; is = cc })

pub told-small : (t : Target) (l : List ℕ) (q : Queue) (seen : Survey) → Told t l q seen → seen.greatest ≤ longest_pool
told-small t l q seen o = omega (arith, o.greatest, greatest-least l o.parts.pool, (open_pool l o.parts.pool).long.most)

-- ---- the calls, by the state and the tests

module _ (c : Call) (l : List ℕ) (q : Queue) where
  abbrev K : Rules
  K = rules_in l q

  pub called-refused : (k : Refusal) → is_sound rules (stored l q) ≡ true → tests K (blocks K) c (view (stored l q)) ≡ some k → result_of (refusal k q) l ≡ called c l q
  called-refused k h e = sym (ap answered (by_refused K c (stored l q) k h e))

  pub called_done : is_sound rules (stored l q) ≡ true → tests K (blocks K) c (view (stored l q)) ≡ none → answered (settled (stored l q) (act K (blocks K) c (view (stored l q)))) ≡ called c l q
  called_done h e = sym (ap answered (by_done K c (stored l q) h e))

-- ---- a sound state's bytes and places, written again

module _ (l : List ℕ) (q : Queue) where
  pub kept_bytes : Bytes l → State l q → render (blocks_of l) (erase (blocks_of l) l) ≡ l
  kept_bytes w s = let o = open_pool l s.pool in render-erase (blocks_of l) (blocks_of l) l (finer_refl (blocks_of l)) ∙ render-blocks most_tasks l o.tiling o.sums w

  pub kept_queue : length q.entries ≡ most_tasks → State l q → queue_of q.attributes (entries_of q) ≡ q
  kept_queue n s = queue_entries q n s.places
