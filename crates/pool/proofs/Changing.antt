-- The calls after which the queue is served, create and inquire. Assumes nothing.
use Prim.Native.Nat.{ℕ, zero, suc, ◌+◌, ◌-◌, ◌%◌, ◌≤◌, ◌<◌, max}
use mathlib.Core.Path.{◌≡◌, refl, sym, ap, ◌∙◌}
use mathlib.Core.Bool.{Bool, true, false, not}
use mathlib.Core.List.{List, [], ◌∷◌, ◌++◌, append-nil}
use mathlib.Core.Option.{none, some}
use mathlib.Core.Option as maybe
use native.Mathlib.Omega.{arith}
use lib.ListN.{length, get_or, replicate}
use lib.Seq.{sets}
use lib.Dec.{leb, eqb}
use lib.IntN.{ℤ, pos, negsuc}
use mir.Syntax.{w32}
use mir.Val.{SFits, of_z, to_z}
use mir.ValLaws.{to_z-of_z}
use Rattle.std.specs.Prelude.{Option, Some, None, Err}
use borrow.Author.Tests.{eqb-true, eqb-false, leb-true, le-leb, lt-leb, lt-ltb, le-ltb, eq-eqb, ne_eqb}
use Rattle.model.specs.declared.Attributes.{Attributes}
use Rattle.model.specs.declared.BlockOffset.{BlockOffset}
use Rattle.model.specs.declared.Entry.{Entry}
use Rattle.model.specs.declared.Queue.{Queue}
use Rattle.model.specs.declared.Woken.{Woken}
use Rattle.model.specs.Limits.{most_tasks, longest_pool, e_ok, e_sys, e_par, e_id, e_obj, e_rlwai, e_tmout, out_of_range, misaligned, already_free, inside_block}
use Rattle.model.specs.Blocks.{Block, block, is_free, fits, starts_at, live_at, free_at, freed, greatest_free}
use Rattle.model.specs.Bytes.{u32_at, header_at, blocks_of, render, erase, header, written, mask, overlay}
use Rattle.model.specs.Waiting.{remove, expired, remaining}
use Rattle.model.specs.Rules.{Rules, ok_task, queued, rules}
use Rattle.model.specs.Calls.{place_of, no_offset, no_place, Call, get, is_poll, release, cancel, tick, inquire, Reply, Refusal, plain, because, Served, wake, leaves, leave, blocks, serve, in_range, tests, act}
use Rattle.model.specs.Errors.{refusal_of}
use Rattle.model.specs.declared.errors.CallError.{CallError}
use Rattle.model.specs.declared.errors.CallError.TheVariants as error
use Rattle.model.specs.Pool as pool
use Rattle.model.specs.Places.{no_entry, pad, used, tidy, entries_of, queue_of, woken_of}
use Rattle.model.specs.Pool.{Stored, stored, view, settled, defaults, is_sound, perform_by, create, result_of, answered, created, called, inquired, totals}
use Rattle.model.proofs.Tests.{by, clash, and_l, and_r, and_f_r}
use Rattle.model.proofs.Blocks.{freed-total, freed-tiled, fits-greatest, starts}
use Rattle.model.proofs.Bytes.{Bytes, erase-length, erase-render, erase-erase, tiled_roomy, freed_finer}
use Rattle.model.proofs.Waiting.{remove-queued, remove-count, remaining-queued, expired-count, queued-length}
use Rattle.model.proofs.Serving.{serve_stuck, stuck_remaining}
use Rattle.model.proofs.Soundness.{leave-length}
use Rattle.model.proofs.Places.{queued-live, used-pad, tidy-pad}
use Rattle.model.proofs.Pool.{by_unsound, by_done}
use Rattle.model.proofs.Reasons.{released-live}
use Rattle.model.proofs.Rules.{rules_laws}
use Rattle.layout.specs.declared.Spot.{Spot}
use Rattle.layout.specs.declared.Target.{Target}
use Rattle.layout.specs.declared.Target.TheVariants as target
use Rattle.layout.specs.declared.Survey.{Survey}
use Rattle.layout.specs.Layout.{sound_pool, seek, sought, put, Releasable, Released}
use Rattle.layout.proofs.Sound.{open_pool}
use Rattle.layout.proofs.Finding.{no_holder, Held, held}
use Rattle.queue.specs.declared.Ticked.{Ticked}
use Rattle.queue.specs.Entries.{found, without, ticked_of}
use Rattle.queue.proofs.Places.{sets_behind}
use Rattle.queue.proofs.Entries.{Found, found_nothing, found_at, head-task}
use Rattle.queue.specs.declared.Limit.{Limit}
use Rattle.request.specs.Request.{request, entry, asked, admitted, Fair}
use Rattle.request.proofs.Judging.{Goes, judged_go, get-admitted, get_fair}
use Rattle.state.specs.State.{rules_in, inspected, refusal}
use Rattle.serving.specs.Serving.{served_as, Ready}
use Rattle.pool.specs.Steps.{misplaced_in, verdict_in, time_of, Requested, Freeable, Cancellable}
use Rattle.state.proofs.Inspecting.{State, Told, greatest-least, open_state, unsound, called_done, kept_bytes}
use Rattle.serving.proofs.Serves.{Shown, shown}

-- ---- before and after the queue is served

-- no run is longer than the greatest, header included
pub none_longer : (l : List ℕ) → sound_pool l ≡ true → (need : ℕ) → greatest_free (blocks_of l) + 8 < need → fits need (blocks_of l) ≡ false
none_longer l p need h =
    fits-greatest most_tasks need false (blocks_of l) (omega arith) (open_pool l p).tiling ∙ lt-leb need (greatest_free (blocks_of l) + 8) h

-- entries in their places
module _ (a : Attributes) (n : ℕ) (q : List Entry) (h : queued (rules a n) q ≡ true) where
  pub short : length q ≤ most_tasks
  short = omega (arith, queued-length (rules a n) q h, (rules_laws a n).tasks_most)

  pub placed-used : used (pad no_entry most_tasks q) ≡ q
  placed-used = used-pad most_tasks q (queued-live (rules a n) q h) short

  pub placed-tidy : tidy (pad no_entry most_tasks q) ≡ true
  placed-tidy = tidy-pad most_tasks q (queued-live (rules a n) q h)

pub ready : (a : Attributes) (l : List ℕ) (es q : List Entry) (k most : ℕ) → sound_pool l ≡ true → es ≡ pad no_entry most_tasks q → queued (rules a (length l)) q ≡ true → k + length q ≤ most_tasks
    → most ≡ greatest_free (blocks_of l) + 8 → Ready a l es k most
ready a l es q k most p e h r m =
    let u : used es ≡ q = ap used e ∙ placed-used a (length l) q h in
    record { pool = p; queue = rw u h; places = rw e (placed-tidy a (length l) q h); room = rw u r; longest = λ need g. none_longer l p need (omega (arith, g, m)) }

-- what the loop leaves is the reply: those who left first, then those who are served
pub served_reply : (p : Stored) (x : List ℕ) (w first : List Woken) (k : ℕ) (v : Served (List Block)) → x ≡ erase (blocks_of p.bytes) p.bytes → w ≡ woken_of first → k ≡ length first
    → served_as p.queue.attributes x w k v ≡ answered (settled p (wake first v))
served_reply p x w first k v ex ew ek =
    let s : sets w k v.woken ≡ woken_of (first ++ v.woken) = rw (ew, ek) (sets_behind (record { task = 0; code = e_ok; offset = no_offset }) most_tasks first v.woken) in
    λ i. result_of (record { code = e_ok; offset = no_offset; reason = 0; place = no_place; woken = s i; queue = queue_of p.queue.attributes v.state.queue }) (render v.state.pool (ex i))

-- the greatest run of a sound pool is a small number
pub greatest-small : (l : List ℕ) (q : Queue) (g : ℕ) → is_sound rules (stored l q) ≡ true → g ≡ greatest_free (blocks_of l) → g ≤ longest_pool
greatest-small l q g s e = let p = (open_state l q s).pool in omega (arith, e, greatest-least l p, (open_pool l p).long.most)

-- ---- how a call is refused

module _ (c : Call) (l : List ℕ) (q : Queue) where
  pub denied : (e : CallError) → verdict_in c l q ≡ some (refusal_of e) → result_of (refusal (refusal_of e) q) l ≡ called c l q
  unfolding perform_by
  denied e h = rw h

  pub verdict_unsound : (t : Target) (e : CallError) → Err e ≡ inspected t l q → verdict_in c l q ≡ some (refusal_of e)
  verdict_unsound t e h = let u = unsound t l q e h in rw (u.state, u.is)

  pub verdict_test : (k : Refusal) → is_sound rules (stored l q) ≡ true → tests (rules_in l q) (blocks (rules_in l q)) c (view (stored l q)) ≡ some k → verdict_in c l q ≡ some k
  verdict_test k s h = rw s h

-- ---- get

-- a limit as the code tests it
limit_zero : (l : ℤ) → is_poll l ≡ true → of_z w32 l ≡ 0
limit_zero (pos n) h = ap (λ (i : ℕ). of_z w32 (pos i)) (eqb-true n 0 h)
limit_zero (negsuc n) h = clash false h refl

pub limit_polls : (l : ℤ) → SFits w32 l → eqb (of_z w32 l) 0 ≡ is_poll l
limit_polls l s =
    by (eqb (of_z w32 l) 0)
    (λ h. let z : l ≡ pos 0 = sym (to_z-of_z w32 l s) ∙ ap (to_z w32) (eqb-true (of_z w32 l) 0 h) in rw z)
    (λ h. h ∙ by (is_poll l) (λ p. absurd (eqb-false (of_z w32 l) 0 h (limit_zero l p))) (λ p. sym p))

module _ (l : List ℕ) (q : Queue) (t n : ℕ) (limit : ℤ) (k : ℕ) (f : Option Spot) (w : Limit) (o : Requested l q (request t n limit k) f w) where
  goes : Goes (asked (rules_in l q) (request t n limit k) (entries_of q)) limit w
  goes = judged_go (asked (rules_in l q) (request t n limit k) (entries_of q)) limit w (sym o.wait)

  pub requested_fair : (left : ℕ) → Fair l q (entry t n left k) f
  requested_fair left = get_fair l q t n limit k left f o.state goes.passes o.run

  pub requested_admitted : (p : Bool) (left : ℕ) → p ≡ is_poll limit → left ≡ time_of w → answered (admitted (stored l q) (entry t n left k) p) ≡ called (get (request t n limit k)) l q
  requested_admitted p left ep el =
      get-admitted l q t n limit k p left o.state goes.passes ep
      (el ∙ ap time_of goes.wait ∙ by (is_poll limit) (λ h. rw h) (λ h. rw h))

-- ---- release

-- the attributes do not matter to an offset
abbrev plain_rules : List ℕ → Rules
plain_rules l = rules defaults (length l)

-- what is known of an offset once the state is, by the block that holds it
module _ (l : List ℕ) (o : BlockOffset) (sound : sound_pool l ≡ true) where
  -- no block holds it
  pub reason_nowhere : seek (sought (target.Holder o)) 0 0 (blocks_of l) ≡ None → misplaced_in o l ≡ some (because out_of_range no_place)
  unfolding rules
  reason_nowhere e =
      let n = no_holder o (blocks_of l) e in
      rw (and_f_r (leb 8 o.0) _ (le-ltb o.0 (length l) (omega (arith, (open_pool l sound).sums))))

  module _ (s : Spot) (e : seek (sought (target.Holder o)) 0 0 (blocks_of l) ≡ Some s) (h : 8 ≤ o.0) where
    known : Held l o s
    known = held l o s sound e

    pub reason-room : s.place.0 + 8 ≤ length l
    reason-room = known.room

    is_in_range : in_range (plain_rules l) o ≡ true
    unfolding rules
    is_in_range = rw (le-leb 8 o.0 h, lt-ltb o.0 (length l) known.within)

    pub reason_uneven : (o.0 % 4 ≡ 0 → ⊥) → misplaced_in o l ≡ some (because misaligned no_place)
    reason_uneven n = rw (is_in_range, ne_eqb (o.0 % 4) 0 n)

    module _ (d : o.0 % 4 ≡ 0) where
      even : eqb (o.0 % 4) 0 ≡ true
      even = eq-eqb (o.0 % 4) 0 d

      pub reason-inside : (o.0 ≡ s.place.0 + 8 → ⊥) → misplaced_in o l ≡ some (because inside_block s.place)
      reason-inside n =
          let free = known.inside n h is_free in
          let live = known.inside n h (λ b. not (is_free b)) in
          rw (is_in_range, even, free, live) (ap {B = maybe.Option Refusal} (λ (i : ℕ). some (because inside_block (record { 0 = i }))) (sym known.place))

      module _ (a : o.0 ≡ s.place.0 + 8) (w : ℕ) (r : w ≡ u32_at l (s.place.0 + 4)) where
        here : o.0 - 8 ≡ s.place.0
        here = omega arith

        starting : (test : Block → Bool) → starts_at test (o.0 - 8) (blocks_of l) ≡ test (header_at l s.place.0)
        starting test = rw here (known.heads test)

        pub reason-free : w ≡ 0 → misplaced_in o l ≡ some (because already_free s.place)
        reason-free z =
            let free : free_at (o.0 - 8) (blocks_of l) ≡ true = starting is_free ∙ eq-eqb _ 0 (sym r ∙ z) in
            rw (is_in_range, even, free) (ap {B = maybe.Option Refusal} (λ (i : ℕ). some (because already_free (record { 0 = i }))) here)

        pub reason-live : (w ≡ 0 → ⊥) → misplaced_in o l ≡ none
        reason-live z =
            let owned : eqb (u32_at l (s.place.0 + 4)) 0 ≡ false = ne_eqb _ 0 (λ x. z (r ∙ x)) in
            let free : free_at (o.0 - 8) (blocks_of l) ≡ false = starting is_free ∙ owned in
            let live : live_at (o.0 - 8) (blocks_of l) ≡ true = starting (λ b. not (is_free b)) ∙ ap not owned in
            rw (is_in_range, even, free, live)

pub release-refused : (o : BlockOffset) (l : List ℕ) (q : Queue) (x : Refusal) → is_sound rules (stored l q) ≡ true → misplaced_in o l ≡ some x → verdict_in (release o) l q ≡ some x
unfolding tests view rules
release-refused o l q x s e = verdict_test (release o) l q x s e

module _ (l : List ℕ) (q : Queue) (o : BlockOffset) (s : Spot) (g : ℕ) (t : Freeable l q o s g) where
  abbrev bs : List Block
  bs = blocks_of l

  abbrev p : ℕ
  p = (place_of o).0

  abbrev K : Rules
  K = rules_in l q

  abbrev at : Attributes
  at = q.attributes

  parts : State l q
  parts = open_state l q t.state

  far : 8 ≤ o.0
  far = leb-true 8 o.0 (and_l (leb 8 o.0) (live_at p bs) (released-live (plain_rules l) (blocks (plain_rules l)) o bs t.live))

  live : live_at p bs ≡ true
  live = and_r (leb 8 o.0) (live_at p bs) (released-live (plain_rules l) (blocks (plain_rules l)) o bs t.live)

  spot_place : s.place.0 ≡ p
  spot_place =
      (held l o s parts.pool t.found).place ∙ (starts most_tasks (λ b. not (is_free b)) p false bs (open_pool l parts.pool).tiling live).holds o.0 (omega (arith, far))

  pub releasable : Releasable l s
  releasable =
      let k : s.place.0 + 8 ≡ o.0 = omega (arith, spot_place, far) in
      record { pool = parts.pool; live = rw spot_place live; found = ap (λ (i : ℕ). seek (sought (target.Holder (record { 0 = i }))) 0 0 bs) k ∙ t.found }

  module _ (l₁ : List ℕ) (r : ℕ) (d : Released l s.place.0 l₁ r) where
    abbrev news : List Block
    news = freed p bs

    bytes : l₁ ≡ render news (erase bs l)
    bytes = rw spot_place at d.bytes

    after : Shown (erase bs l) (render news (erase bs l)) (length l) news
    after =
        let u = open_pool l parts.pool in
        shown (erase bs l) (length l) news (erase-length bs l) (freed-tiled most_tasks false p bs u.tiling) (freed-total p bs ∙ u.sums) l parts.pool refl

    same_length : length l₁ ≡ length l
    same_length = ap length bytes ∙ after.long

    blocks_are : blocks_of l₁ ≡ news
    blocks_are = ap blocks_of bytes ∙ after.blocks_are

    erased : erase (blocks_of l₁) l₁ ≡ erase bs l
    erased =
        ap (λ (x : List Block). erase x l₁) blocks_are ∙ ap (erase news) bytes ∙ erase-render news (erase bs l)
        ∙ erase-erase news bs l (freed_finer p bs (tiled_roomy most_tasks false bs (open_pool l parts.pool).tiling))

    pub release_ready : (most : ℕ) → most ≡ max r (g + 8) → Ready at l₁ q.entries 0 most
    release_ready most m =
        record {
          pool = rw bytes after.pool;
          queue = rw same_length parts.queue;
          places = parts.places;
          room = omega (arith, short q.attributes (length l) (entries_of q) parts.queue);
          longest = λ need h.
              let a : leb need r ≡ false = lt-leb need r (omega (arith, h, m)) in
              let b : fits need bs ≡ false = none_longer l parts.pool need (omega (arith, h, m, t.greatest)) in
              rw (blocks_are) (rw spot_place at (d.runs need) ∙ rw (a, b));
        }

    pub release_done : (a : pool.Result) (w : List Woken) → w ≡ woken_of []
        → a ≡ served_as at (erase (blocks_of l₁) l₁) w 0 (serve (rules at (length l₁)) (blocks (rules at (length l₁))) (blocks_of l₁) (entries_of q)) → a ≡ called (release o) l q
    unfolding tests act view rules
    release_done a w ew e =
        e ∙ (λ i. served_as at (erased i) w 0 (serve (rules at (same_length i)) (blocks (rules at (same_length i))) (blocks_are i) (entries_of q)))
        ∙ served_reply (stored l q) (erase bs l) w [] 0 (serve K (blocks K) news (entries_of q)) refl ew refl
        ∙ called_done (release o) l q t.state t.live

-- ---- cancel

module _ (l : List ℕ) (q : Queue) (task : ℕ) (s : is_sound rules (stored l q) ≡ true) where
  pub cancel-unknown : ok_task (rules_in l q) task ≡ false → verdict_in (cancel task) l q ≡ some (refusal_of error.UnknownTask)
  unfolding tests view
  cancel-unknown h = verdict_test (cancel task) l q (plain e_id) s (rw h)

  pub cancel-idle : ok_task (rules_in l q) task ≡ true → None ≡ found task (entries_of q) → verdict_in (cancel task) l q ≡ some (refusal_of error.NotWaiting)
  unfolding tests view
  cancel-idle h n = verdict_test (cancel task) l q (plain e_obj) s (rw (h, found_nothing task (entries_of q) n))

module _ (l : List ℕ) (q : Queue) (task place g : ℕ) (t : Cancellable l q task place g) where
  waits_in : State l q
  waits_in = open_state l q t.state

  f : Found task place (entries_of q)
  f = found_at task (entries_of q) place t.place

  left : queued (rules_in l q) (remove task (entries_of q)) ≡ true
  left = remove-queued (rules_in l q) task (entries_of q) waits_in.queue

  pub cancel_room : (tidy q.entries ≡ true) × (place < length (entries_of q))
  cancel_room = (waits_in.places, f.within)

  module _ (es : List Entry) (e : es ≡ pad no_entry most_tasks (without place (entries_of q))) where
    placed : es ≡ pad no_entry most_tasks (remove task (entries_of q))
    placed = e ∙ ap (pad no_entry most_tasks) f.removed

    pub cancel_ready : Ready q.attributes l es 1 (g + 8)
    cancel_ready =
        ready q.attributes l es (remove task (entries_of q)) 1 (g + 8) waits_in.pool placed left
        (omega (arith, short q.attributes (length l) (entries_of q) waits_in.queue, remove-count task (entries_of q) f.waiting)) (omega (arith, t.greatest))

    pub cancel_done : (a : pool.Result) (ws : List Woken) → ws ≡ woken_of (leaves e_rlwai task ∷ [])
        → a ≡ served_as q.attributes (erase (blocks_of l) l) ws 1 (serve (rules_in l q) (blocks (rules_in l q)) (blocks_of l) (used es)) → a ≡ called (cancel task) l q
    unfolding tests act view
    cancel_done a ws ew h =
        let u : used es ≡ remove task (entries_of q) = ap used placed ∙ placed-used q.attributes (length l) (remove task (entries_of q)) left in
        h ∙ ap (λ (x : List Entry). served_as q.attributes (erase (blocks_of l) l) ws 1 (serve (rules_in l q) (blocks (rules_in l q)) (blocks_of l) x)) u
        ∙ served_reply (stored l q) (erase (blocks_of l) l) ws (leaves e_rlwai task ∷ []) 1 _ refl ew refl
        ∙ called_done (cancel task) l q t.state (rw (t.task, f.waiting))

-- ---- tick

module _ (l : List ℕ) (q : Queue) (seen : Survey) (t : Told target.Nothing l q seen) where
  module _ (ticked : Ticked) (e : ticked ≡ ticked_of q.entries) where
    abbrev stay : List Entry
    stay = remaining (entries_of q)

    stays : queued (rules_in l q) stay ≡ true
    stays = remaining-queued (rules_in l q) (rules_laws q.attributes (length l)) (entries_of q) t.parts.queue

    places_are : ticked.entries ≡ pad no_entry most_tasks stay
    places_are = ap (λ (x : Ticked). x.entries) e

    count-is : ticked.count ≡ length (expired (entries_of q))
    count-is = ap (λ (x : Ticked). x.count) e

    pub tick_ready : (most : ℕ) → most ≡ seen.greatest + 8 → Ready q.attributes l ticked.entries ticked.count most
    tick_ready most m =
        ready q.attributes l ticked.entries stay ticked.count most t.parts.pool places_are stays
        (omega (arith, short q.attributes (length l) (entries_of q) t.parts.queue, expired-count (entries_of q), count-is)) (omega (arith, m, t.greatest))

    pub tick_done : (a : pool.Result)
        → a ≡ served_as q.attributes (erase (blocks_of l) l) ticked.woken ticked.count (serve (rules_in l q) (blocks (rules_in l q)) (blocks_of l) (used ticked.entries))
        → a ≡ called tick l q
    unfolding tests act view
    tick_done a g =
        let u : used ticked.entries ≡ stay = ap used places_are ∙ placed-used q.attributes (length l) stay stays in
        g ∙ ap (λ (x : List Entry). served_as q.attributes (erase (blocks_of l) l) ticked.woken ticked.count (serve (rules_in l q) (blocks (rules_in l q)) (blocks_of l) x)) u
        ∙ served_reply (stored l q) (erase (blocks_of l) l) ticked.woken (leave e_tmout (expired (entries_of q))) ticked.count _ refl
        (ap (λ (x : Ticked). x.woken) e) (count-is ∙ sym (leave-length e_tmout (expired (entries_of q))))
        ∙ called_done tick l q t.state refl

    -- where no wait ends, the head is that of before, and nobody is served
    pub tick_none : ticked.count ≡ 0 → Bytes l
        → result_of (record { code = e_ok; offset = no_offset; reason = 0; place = no_place; woken = ticked.woken; queue = record { attributes = q.attributes; entries = ticked.entries } }) l ≡ called tick l q
    tick_none z b =
        let K = rules_in l q in
        let stuck = serve_stuck K (blocks K) (blocks_of l) stay (stuck_remaining K (blocks K) (blocks_of l) (entries_of q) (sym count-is ∙ z) t.parts.head) in
        let u : used ticked.entries ≡ stay = ap used places_are ∙ placed-used q.attributes (length l) stay stays in
        tick_done _ (rw (u, stuck) (λ i. result_of
        (record { code = e_ok; offset = no_offset; reason = 0; place = no_place; woken = ticked.woken; queue = record { attributes = q.attributes; entries = places_are i } })
        (sym (kept_bytes l q b t.parts) i)))

-- ---- inquire

module _ (l : List ℕ) (q : Queue) where
  pub inquire_unsound : is_sound rules (stored l q) ≡ false → record { code = e_sys; sum = 0; greatest = 0; head = 0 } ≡ inquired l q
  inquire_unsound h = sym (ap (λ (r : Reply Stored). totals r.said) (by_unsound (rules_in l q) inquire (stored l q) h))

  pub inquire_done : (seen : Survey) → Told target.Nothing l q seen
      → record { code = e_ok; sum = seen.sum; greatest = seen.greatest; head = (get_or q.entries 0 no_entry).task } ≡ inquired l q
  unfolding tests act view
  inquire_done seen t =
      (λ i. record { code = e_ok; sum = t.sum i; greatest = t.greatest i; head = sym (head-task q.entries) i })
      ∙ sym (ap (λ (r : Reply Stored). totals r.said) (by_done (rules_in l q) inquire (stored l q) t.state refl))

-- ---- create

overlay_nones : (k : ℕ) (l : List ℕ) → overlay (replicate k none) l ≡ l
unfolding overlay
overlay_nones zero l = refl
overlay_nones (suc k) [] = refl
overlay_nones (suc k) (x ∷ l) = ap (λ (r : List ℕ). x ∷ r) (overlay_nones k l)

overlay-first : (xs : List ℕ) (k : ℕ) (l : List ℕ) → overlay (written xs) l ≡ overlay (written xs ++ replicate k none) l
unfolding overlay written
overlay-first [] k l = sym (overlay_nones k l)
overlay-first (x ∷ xs) k [] = refl
overlay-first (x ∷ xs) k (y ∷ l) = ap (λ (r : List ℕ). x ∷ r) (overlay-first xs k l)

module _ (a : Attributes) (l : List ℕ) where
  pub create-refused : (q : Queue) → q ≡ queue_of defaults [] → (rules a (length l)).valid ≡ false → result_of (refusal (plain e_par) q) l ≡ created a l
  unfolding create
  create-refused q e h = rw (e, h)

  pub create_done : (q : Queue) → q ≡ queue_of a [] → (rules a (length l)).valid ≡ true → (l' : List ℕ) → l' ≡ put 0 (header (block (length l) 0)) l → result_of (refusal (plain e_ok) q) l' ≡ created a l
  unfolding create put render mask
  create_done q e h l' el =
      let b = block (length l) 0 in
      let bytes : l' ≡ overlay ((written (header b) ++ replicate (length l - 8) none) ++ []) l =
      el ∙ overlay-first (header b) (length l - 8) l ∙ ap (λ (m : List (maybe.Option ℕ)). overlay m l) (sym (append-nil _)) in
      rw (e, h) (ap (λ (x : List ℕ). result_of (refusal (plain e_ok) (queue_of a [])) x) bytes)
