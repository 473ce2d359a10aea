-- The calls on bytes and places are the calls on block list and entries; demand 3, timeouts and the wait bound brought to bytes and places. Assumes nothing.
use Prim.Native.Nat.{ℕ, ◌≤◌}
use mathlib.Core.Path.{◌≡◌, refl, sym, ap, ◌∙◌}
use mathlib.Core.Bool.{Bool, true, false}
use mathlib.Core.Logic.{◌↔◌, ◌⊎◌, inl, inr}
use mathlib.Core.List.{List, [], ◌∷◌}
use mathlib.Core.Option.{Option, none, some}
use native.Mathlib.Omega.{arith}
use native.Mathlib.Nat.{add-zero}
use lib.ListN.{length}
use lib.IntN.{pos}
use Rattle.model.specs.Limits.{most_tasks, minus, e_ok, waiting, e_sys, e_rlwai, already_free}
use Rattle.model.specs.Blocks.{Block, block, total, tiled, live_count}
use Rattle.model.specs.Waiting.{Entry, waits, entry_in, remove, with_left}
use Rattle.model.specs.Rules.{Rules, Laws, Attributes, queued}
use Rattle.model.specs.Calls.{BlockOffset, no_offset, no_place, Request, Call, get, release, cancel, tick, inquire, Said, Reply, says, Refusal, plain, refuse, decide, entry_of, leaves, blocks, Store, State, state, fitting, given, serve, head_stuck, sound, is_live, misplaced, tests, verdict, act, step}
use Rattle.model.specs.Refusals.{Refused}
use Rattle.model.specs.Runs.{Turn, after, run, refuses, refused_by, wake_code, end_code, Spared, releases, Unpassed, gets, refusals, winners, Others, Ranked}
use Rattle.model.specs.Demands.{Seen, NoTrace, undo, Undone, Timeout, Untimed, StaysBehind, EndsWithin, OneHolder}
use Rattle.model.specs.Bytes.{blocks_of, render, erase}
use Rattle.model.specs.Places.{Queue, no_entry, pad, used, all_unused, tidy, entries_of, queue_of}
use Rattle.model.specs.Pool.{Stored, stored, Typed, view, waiters, wait_bound, settled, sound_by, perform_by, rules_of, is_sound, perform, create}
use Rattle.model.proofs.Tests.{by, clash, and_l, and_r, and_i}
use Rattle.model.proofs.Blocks.{untile}
use Rattle.model.proofs.Waiting.{open_queued, entry-asked, remove-queued, queued-length}
use Rattle.model.proofs.Bytes.{Finer, finer_refl, finer_trans, granted_finer, render-length, erase-length, render-erase, render-render, blocks-render, render-blocks}
use Rattle.model.proofs.Places.{queued-live, pad-length, used-pad, tidy-pad, queue_entries}
use Rattle.model.proofs.Store.{open_blocks, close_blocks, block_laws, count_laws}
use Rattle.model.proofs.Soundness.{no_some, Sound, open_sound, close_sound, passed, passed_asked, step-refused, step_done, verdict-sound, act-sound, woken-length}
use Rattle.model.proofs.Refusals.{verdict-refused, refused-verdict, refused-code, misplaced-because, done_code, act-code, act_no_reason}
use Rattle.model.proofs.Reasons.{live-released, released-live, held_at}
use Rattle.model.proofs.NoTrace.{Outcome, refusal, granting, joining, outcome, no_trace, get-release}
use Rattle.model.proofs.Timeouts.{timeout, unlimited, still_waits}
use Rattle.model.proofs.WaitBound.{wait_bound_lem}
use Rattle.model.proofs.Passing.{stays_behind}
use Rattle.model.proofs.Runs.{runs_alike, ends_alike}

-- ---- a state as it is kept, given the rules

module _ (K : Rules) where
  pub open_stored : (p : Stored) → sound_by K p ≡ true → (sound K (blocks K) (view p) ≡ true) × (tidy p.queue.entries ≡ true)
  unfolding sound_by
  open_stored p h =
      let a = sound K (blocks K) (view p) in
      let b = tidy p.queue.entries in
      (and_l a b h, and_r a b h)

  pub close_stored : (p : Stored) → sound K (blocks K) (view p) ≡ true → tidy p.queue.entries ≡ true → sound_by K p ≡ true
  unfolding sound_by
  close_stored p h t = and_i (sound K (blocks K) (view p)) _ h t

  pub by_unsound : (c : Call) (p : Stored) → sound_by K p ≡ false → perform_by K c p ≡ refuse p (plain e_sys)
  unfolding perform_by
  by_unsound c p h = rw h

  pub by_refused : (c : Call) (p : Stored) (k : Refusal) → sound_by K p ≡ true → tests K (blocks K) c (view p) ≡ some k → perform_by K c p ≡ refuse p k
  unfolding perform_by
  by_refused c p k h e = rw (h, e)

  pub by_done : (c : Call) (p : Stored) → sound_by K p ≡ true → tests K (blocks K) c (view p) ≡ none → perform_by K c p ≡ settled p (act K (blocks K) c (view p))
  unfolding perform_by
  by_done c p h e = rw (h, e)

  pub places_by : (c : Call) (p : Stored) → length p.queue.entries ≡ most_tasks → length (perform_by K c p).state.queue.entries ≡ most_tasks
  unfolding perform_by
  places_by c p e = go (verdict K (blocks K) (sound_by K p) c (view p))
    where
      go : (v : Option Refusal) → length (decide p v (settled p (act K (blocks K) c (view p)))).state.queue.entries ≡ most_tasks
      go (some k) = e
      go none = pad-length no_entry most_tasks (act K (blocks K) c (view p)).state.queue

  pub attributes_by : (c : Call) (p : Stored) → (perform_by K c p).state.queue.attributes ≡ p.queue.attributes
  unfolding perform_by
  attributes_by c p = go (verdict K (blocks K) (sound_by K p) c (view p))
    where
      go : (v : Option Refusal) → (decide p v (settled p (act K (blocks K) c (view p)))).state.queue.attributes ≡ p.queue.attributes
      go (some k) = refl
      go none = refl

  -- ---- refusals

  -- what is answered, by the verdict
  data Answered (c : Call) (p : Stored) : Type 0 where
    refusing : (k : Refusal) → verdict K (blocks K) (sound_by K p) c (view p) ≡ some k → perform_by K c p ≡ refuse p k → Answered c p
    doing : verdict K (blocks K) (sound_by K p) c (view p) ≡ none → perform_by K c p ≡ settled p (act K (blocks K) c (view p)) → Answered c p

  answered : (c : Call) (p : Stored) → Answered c p
  unfolding perform_by
  answered c p = go (verdict K (blocks K) (sound_by K p) c (view p)) refl
    where
      go : (v : Option Refusal) → verdict K (blocks K) (sound_by K p) c (view p) ≡ v → Answered c p
      go (some k) e = refusing k e (rw e)
      go none e = doing e (rw e)

  verdict-refuses : (c : Call) (p : Stored) (k : Refusal) → verdict K (blocks K) (sound_by K p) c (view p) ≡ some k → refuses k.code ≡ true
  verdict-refuses c p k e = refused-code K (blocks K) (sound_by K p) c (view p) k (verdict-refused K (blocks K) (sound_by K p) c (view p) k e)

  refused-said : (c : Call) (p : Stored) (k : Refusal) → verdict K (blocks K) (sound_by K p) c (view p) ≡ some k → perform_by K c p ≡ refuse p k → refused_by (perform_by K c p).said ≡ some k
  refused-said c p k v g = ap (λ (a : Reply Stored). refused_by a.said) g ∙ rw (verdict-refuses c p k v)

  done_said : (c : Call) (p : Stored) → perform_by K c p ≡ settled p (act K (blocks K) c (view p)) → refused_by (perform_by K c p).said ≡ none
  done_said c p g = ap (λ (a : Reply Stored). refused_by a.said) g ∙ act-code K (blocks K) c (view p)

  pub refusal_keeps : (c : Call) (p : Stored) (k : Refusal) → refused_by (perform_by K c p).said ≡ some k → perform_by K c p ≡ refuse p k
  refusal_keeps c p k e = go (answered c p)
    where
      go : Answered c p → perform_by K c p ≡ refuse p k
      go (doing v g) = no_some (sym e ∙ done_said c p g)
      go (refusing j v g) = let q : some j ≡ some k = sym (refused-said c p j v g) ∙ e in let r : j ≡ k = cc in g ∙ ap (λ (x : Refusal). refuse p x) r

  pub refusal_when : (c : Call) (p : Stored) (k : Refusal) → (refused_by (perform_by K c p).said ≡ some k) ↔ Refused K (blocks K) (sound_by K p) (view p) c k
  refusal_when c p k = (λ e. go e (answered c p), λ o. back (refused-verdict K (blocks K) (sound_by K p) c (view p) k o) (answered c p))
    where
      go : refused_by (perform_by K c p).said ≡ some k → Answered c p → Refused K (blocks K) (sound_by K p) (view p) c k
      go e (doing v g) = no_some (sym e ∙ done_said c p g)
      go e (refusing j v g) = verdict-refused K (blocks K) (sound_by K p) c (view p) k (v ∙ (sym (refused-said c p j v g) ∙ e))

      back : verdict K (blocks K) (sound_by K p) c (view p) ≡ some k → Answered c p → refused_by (perform_by K c p).said ≡ some k
      back e (doing v g) = no_some (sym e ∙ v)
      back e (refusing j v g) = refused-said c p j v g ∙ (sym v ∙ e)

  -- ---- reasons

  -- a call that is carried out has none
  pub done_no_reason : (c : Call) (p : Stored) → refused_by (perform_by K c p).said ≡ none → ((perform_by K c p).said.reason ≡ 0) × ((perform_by K c p).said.place ≡ no_place)
  done_no_reason c p e = go (answered c p)
    where
      go : Answered c p → ((perform_by K c p).said.reason ≡ 0) × ((perform_by K c p).said.place ≡ no_place)
      go (doing v g) = let a = act_no_reason K (blocks K) c (view p) in (rw g a.0, rw g a.1)
      go (refusing j v g) = no_some (sym (refused-said c p j v g) ∙ e)

  module _ (o : BlockOffset) (p : Stored) where
    abbrev asked : Reply Stored
    asked = perform_by K (release o) p

    -- a release is refused exactly if there is a reason or the state is not sound
    pub release-refused : (refuses asked.said.code ≡ true) ↔ (((asked.said.reason ≡ 0) → ⊥) ⊎ (sound_by K p ≡ false))
    unfolding tests
    release-refused = (λ e. to e (answered (release o) p), λ e. from e (answered (release o) p))
      where
        to : refuses asked.said.code ≡ true → Answered (release o) p → ((asked.said.reason ≡ 0) → ⊥) ⊎ (sound_by K p ≡ false)
        to e (doing v g) = clash (refuses asked.said.code) e (rw g (done_code K (blocks K) (release o) (view p)))
        to e (refusing j v g) =
            by (sound_by K p)
            (λ h. inl (λ z. (misplaced-because K (blocks K) o (view p).pool j (rw h at v)).some-reason (sym (ap (λ (a : Reply Stored). a.said.reason) g) ∙ z)))
            (λ h. inr h)

        from : ((asked.said.reason ≡ 0) → ⊥) ⊎ (sound_by K p ≡ false) → Answered (release o) p → refuses asked.said.code ≡ true
        from e (refusing j v g) = rw g (verdict-refuses (release o) p j v)
        from (inl e) (doing v g) = absurd (e (rw g (act_no_reason K (blocks K) (release o) (view p)).0))
        from (inr e) (doing v g) = no_some (rw e at v)

    -- in a sound state: exactly if the offset is not that of a live block
    pub release-refused-live : sound_by K p ≡ true → (refuses asked.said.code ≡ true) ↔ (is_live K (blocks K) o (view p).pool ≡ false)
    unfolding tests
    release-refused-live h = (λ e. to e (answered (release o) p), λ e. from e (answered (release o) p))
      where
        to : refuses asked.said.code ≡ true → Answered (release o) p → is_live K (blocks K) o (view p).pool ≡ false
        to e (doing v g) = clash (refuses asked.said.code) e (rw g (done_code K (blocks K) (release o) (view p)))
        to e (refusing j v g) =
            by (is_live K (blocks K) o (view p).pool)
            (λ l. let u : misplaced K (blocks K) o (view p).pool ≡ some j = rw h at v in
            no_some (sym u ∙ live-released K (blocks K) (block_laws K) o (view p).pool (open_sound K (blocks K) (view p) (open_stored p h).0).pool l))
            (λ l. l)

        from : is_live K (blocks K) o (view p).pool ≡ false → Answered (release o) p → refuses asked.said.code ≡ true
        from e (refusing j v g) = rw g (verdict-refuses (release o) p j v)
        from e (doing v g) =
            let u : misplaced K (blocks K) o (view p).pool ≡ none = rw h at v in
            clash (is_live K (blocks K) o (view p).pool) (released-live K (blocks K) o (view p).pool u) e

    -- with the reasons 3 and 4 the place is the header of the one block that holds the offset
    pub release-place : already_free ≤ asked.said.reason → OneHolder o.0 (blocks_of p.bytes) asked.said.place.0
    unfolding view
    release-place n = go (answered (release o) p)
      where
        go : Answered (release o) p → OneHolder o.0 (blocks_of p.bytes) asked.said.place.0
        go (doing v g) = absurd (omega (arith, n, ap (λ (a : Reply Stored). a.said.reason) g, (act_no_reason K (blocks K) (release o) (view p)).0))
        go (refusing j v g) =
            rw g (held_at K o (view p) (λ h. (open_sound K (blocks K) (view p) (open_stored p h).0).pool) j (verdict-refused K (blocks K) (sound_by K p) (release o) (view p) j v)
            (omega (arith, n, ap (λ (a : Reply Stored). a.said.reason) g)))

-- ---- grants add headers and take none away

module _ (K : Rules) (L : Laws K) where
  serve_finer : (bs : List Block) (q : List Entry) → queued K q ≡ true → Finer bs (serve K (blocks K) bs q).state.pool
  unfolding serve
  serve_finer bs [] o = finer_refl bs
  serve_finer bs (e ∷ q) o =
      let u = open_queued K e q o in
      let a = entry-asked K e u.entry in
      by (fitting K (blocks K) e bs)
      (λ f. rw f (finer_trans bs (given K (blocks K) e bs) (serve K (blocks K) (given K (blocks K) e bs) q).state.pool
      (granted_finer (K.need e.size) e.task (omega (arith, L.need_least e a.fair)) bs) (serve_finer (given K (blocks K) e bs) q u.rest)))
      (λ f. rw f (finer_refl bs))

  get_finer : (r : Request) (s : State (List Block)) → sound K (blocks K) s ≡ true → Finer s.pool (step K (blocks K) (get r) s).state.pool
  get_finer r s h = go (outcome K (blocks K) r s h)
    where
      go : Outcome K (blocks K) r s → Finer s.pool (step K (blocks K) (get r) s).state.pool
      go (refusal k t e) = rw e (finer_refl s.pool)
      go (joining n g e) = rw e (finer_refl s.pool)
      go (granting n g e) =
          let a = passed_asked K (blocks K) r s (passed K (blocks K) r s n) in
          rw e (granted_finer (K.need r.size) r.task (omega (arith, L.need_least (entry_of r) a.fair)) s.pool)

  cancel_finer : (t : ℕ) (s : State (List Block)) → sound K (blocks K) s ≡ true → Finer s.pool (step K (blocks K) (cancel t) s).state.pool
  unfolding act
  cancel_finer t s h = go (tests K (blocks K) (cancel t) s) refl
    where
      go : (v : Option Refusal) → tests K (blocks K) (cancel t) s ≡ v → Finer s.pool (step K (blocks K) (cancel t) s).state.pool
      go (some k) e = rw (step-refused K (blocks K) (cancel t) s k (verdict-sound K (blocks K) (cancel t) s h ∙ e)) (finer_refl s.pool)
      go none e =
          rw (step_done K (blocks K) (cancel t) s (verdict-sound K (blocks K) (cancel t) s h ∙ e))
          (serve_finer s.pool (remove t s.queue) (remove-queued K t s.queue (open_sound K (blocks K) s h).order))

-- ---- an empty queue, and one block

queued-nil : (K : Rules) → queued K [] ≡ true
unfolding queued
queued-nil K = refl

stuck_nil : (K : Rules) {P : Type 0} (E : Store P) (p : P) → head_stuck K E p [] ≡ true
unfolding head_stuck
stuck_nil K E p = refl

tiled-nil : (tasks : ℕ) (p : Bool) → tiled tasks p [] ≡ true
unfolding tiled
tiled-nil tasks p = refl

total_one : (n : ℕ) → total (block n 0 ∷ []) ≡ n
unfolding total
total_one n = add-zero n

-- only gets
unfoldable Gets : List Call → Type 0
Gets [] = Unit {0}
Gets (get r ∷ cs) = Gets cs
Gets (release o ∷ cs) = ⊥
Gets (cancel t ∷ cs) = ⊥
Gets (tick ∷ cs) = ⊥
Gets (inquire ∷ cs) = ⊥

gets_are : (rs : List Request) → Gets (gets rs)
unfolding Gets gets
gets_are [] = tt
gets_are (r ∷ rs) = gets_are rs

module _ (R : Attributes → ℕ → Rules) (law : (a : Attributes) (n : ℕ) → Laws (R a n)) (long-is : (a : Attributes) (n : ℕ) → (R a n).long ≡ n) where
  laws_of : (p : Stored) → Laws (rules_of R p)
  laws_of p = law p.queue.attributes (length p.bytes)

  module _ (K : Rules) (L : Laws K) where
    abbrev B : Store (List Block)
    B = blocks K

    long_by : (p : Stored) → rules_of R p ≡ K → length p.bytes ≡ K.long
    long_by p e = sym (long-is p.queue.attributes (length p.bytes)) ∙ ap (λ (x : Rules). x.long) e

    -- ---- a sound state, settled into bytes and places

    module _ (p : Stored) (r : Reply (State (List Block))) (same : rules_of R p ≡ K) (h : sound K B r.state ≡ true) where
      abbrev news : List Block
      news = r.state.pool

      ok : Sound K B r.state
      ok = open_sound K B r.state h

      erased : length (erase (blocks_of p.bytes) p.bytes) ≡ length p.bytes
      erased = erase-length (blocks_of p.bytes) p.bytes

      settled-rules : rules_of R (settled p r).state ≡ K
      settled-rules = ap (R p.queue.attributes) (render-length news (erase (blocks_of p.bytes) p.bytes) ∙ erased) ∙ same

      settled-blocks : blocks_of (settled p r).state.bytes ≡ news
      settled-blocks =
          let t = open_blocks K news ok.pool in
          blocks-render K.tasks (omega (arith, L.tasks_most)) false news (erase (blocks_of p.bytes) p.bytes) t.tiling
          (t.sums ∙ sym (erased ∙ long_by p same)) (rw erased (omega (arith, L.long_most ok.valid, long_by p same)))

      settled_entries : entries_of (settled p r).state.queue ≡ r.state.queue
      settled_entries = used-pad most_tasks r.state.queue (queued-live K r.state.queue ok.order) (omega (arith, queued-length K r.state.queue ok.order, L.tasks_most))

      pub settled-view : view (settled p r).state ≡ r.state
      unfolding view
      settled-view = λ i. state (settled-blocks i) (settled_entries i)

      pub settled-sound : is_sound R (settled p r).state ≡ true
      settled-sound = rw settled-rules (close_stored K (settled p r).state (rw settled-view h) (tidy-pad most_tasks r.state.queue (queued-live K r.state.queue ok.order)))

    -- ---- bytes and places that show a state

    pub record Shown (p : Stored) (s : State (List Block)) : Type 0 where
      pub rules : rules_of R p ≡ K
      pub good : is_sound R p ≡ true
      pub is : view p ≡ s

    pub shown_sound : (p : Stored) (s : State (List Block)) → Shown p s → sound K B s ≡ true
    shown_sound p s o = rw o.is at (open_stored K p (rw o.rules at o.good)).0

    perform-refused : (c : Call) (p : Stored) (s : State (List Block)) (k : Refusal) → Shown p s → tests K B c s ≡ some k → perform R c p ≡ refuse p k
    perform-refused c p s k o e = rw o.rules (by_refused K c p k (rw o.rules at o.good) (rw o.is e))

    perform_done : (c : Call) (p : Stored) (s : State (List Block)) → Shown p s → tests K B c s ≡ none → perform R c p ≡ settled p (act K B c s)
    perform_done c p s o e = rw o.rules (by_done K c p (rw o.rules at o.good) (rw o.is e) ∙ ap (λ (z : State (List Block)). settled p (act K B c z)) o.is)

    pub record Next (c : Call) (p : Stored) (s : State (List Block)) : Type 0 where
      pub said : (perform R c p).said ≡ (step K B c s).said
      pub shown : Shown (perform R c p).state (step K B c s).state

    pub next : (c : Call) (p : Stored) (s : State (List Block)) → Shown p s → Next c p s
    next c p s o = go (tests K B c s) refl
      where
        h : sound K B s ≡ true
        h = shown_sound p s o

        go : (v : Option Refusal) → tests K B c s ≡ v → Next c p s
        go (some k) e =
            let g = perform-refused c p s k o e in
            let u = step-refused K B c s k (verdict-sound K B c s h ∙ e) in
            record { said = rw (g, u); shown = rw (g, u) o }
        go none e =
            let g = perform_done c p s o e in
            let u = step_done K B c s (verdict-sound K B c s h ∙ e) in
            let a = act K B c s in
            let k = act-sound K B L (block_laws K) c s h e in
            record { said = rw (g, u); shown = rw (g, u) (record { rules = settled-rules p a o.rules k; good = settled-sound p a o.rules k; is = settled-view p a o.rules k }) }

    alike : (c : Call) (cs : List Call) (p : Stored) (s : State (List Block)) → Shown p s → ((perform R c p).said ≡ (step K B c s).said) × Shown (perform R c p).state (step K B c s).state
    alike c cs p s o = let u = next c p s o in (u.said, u.shown)

    -- what a run is told, and what it leaves
    runs_shown : (cs : List Call) (p : Stored) (s : State (List Block)) → Shown p s → run (perform R) p cs ≡ run (step K B) s cs
    runs_shown = runs_alike (perform R) (step K B) (λ _. Shown) alike

    ends_shown : (cs : List Call) (p : Stored) (s : State (List Block)) → Shown p s → Shown (after (perform R) p cs) (after (step K B) s cs)
    ends_shown = ends_alike (perform R) (step K B) (λ _. Shown) alike

    -- ---- and whose bytes are b with the state's headers written

    record Shows (a : Attributes) (b : List ℕ) (p : Stored) (s : State (List Block)) : Type 0 where
      shown : Shown p s
      bytes : p.bytes ≡ render s.pool b
      queue : p.queue ≡ queue_of a s.queue

    fine_next : (a : Attributes) (b : List ℕ) (c : Call) (p : Stored) (s : State (List Block)) → Finer s.pool (step K B c s).state.pool → Shows a b p s → Shows a b (perform R c p).state (step K B c s).state
    unfolding view
    fine_next a b c p s fine o = go (tests K B c s) refl
      where
        h : sound K B s ≡ true
        h = shown_sound p s o.shown

        go : (v : Option Refusal) → tests K B c s ≡ v → Shows a b (perform R c p).state (step K B c s).state
        go (some k) e = rw (perform-refused c p s k o.shown e, step-refused K B c s k (verdict-sound K B c s h ∙ e)) o
        go none e =
            let g = perform_done c p s o.shown e in
            let u = step_done K B c s (verdict-sound K B c s h ∙ e) in
            let news = (act K B c s).state.pool in
            let olds : blocks_of p.bytes ≡ s.pool = ap (λ (x : State (List Block)). x.pool) o.shown.is in
            let f : Finer s.pool news = rw u at fine in
            record {
              shown = (next c p s o.shown).shown;
              bytes = rw (g, u) (rw olds (render-erase s.pool news p.bytes f ∙ ap (λ (l : List ℕ). render news l) o.bytes ∙ render-render s.pool news b f));
              queue = rw (g, u) (ap (λ (x : Queue). queue_of x.attributes (act K B c s).state.queue) o.queue);
            }

    -- what shows the same is the same
    shows_one : (a : Attributes) (b : List ℕ) (p q : Stored) (s z : State (List Block)) → s ≡ z → Shows a b p s → Shows a b q z → p ≡ q
    shows_one a b p q s z e o k =
        let eb : p.bytes ≡ q.bytes = o.bytes ∙ ap (λ (x : State (List Block)). render x.pool b) e ∙ sym k.bytes in
        let eq : p.queue ≡ q.queue = o.queue ∙ ap (λ (x : State (List Block)). queue_of a x.queue) e ∙ sym k.queue in
        λ i. stored (eb i) (eq i)

    gets_next : (a : Attributes) (b : List ℕ) (c : Call) (cs : List Call) (p : Stored) (s : State (List Block)) → Shows a b p s × Gets (c ∷ cs)
        → ((perform R c p).said ≡ (step K B c s).said) × (Shows a b (perform R c p).state (step K B c s).state × Gets cs)
    unfolding Gets
    gets_next a b (get r) cs p s o =
        ((next (get r) p s o.0.shown).said, (fine_next a b (get r) p s (get_finer K L r s (shown_sound p s o.0.shown)) o.0, o.1))
    gets_next a b (release f) cs p s o = absurd o.1
    gets_next a b (cancel t) cs p s o = absurd o.1
    gets_next a b tick cs p s o = absurd o.1
    gets_next a b inquire cs p s o = absurd o.1

  -- ---- runs

  own : (p : Stored) → is_sound R p ≡ true → Shown (rules_of R p) (laws_of p) p (view p)
  own p h = record { rules = refl; good = h; is = refl }

  shows_own : (p : Stored) → is_sound R p ≡ true → Typed p → Shows (rules_of R p) (laws_of p) p.queue.attributes p.bytes p (view p)
  unfolding view
  shows_own p h t =
      let K = rules_of R p in
      let a = open_stored K p h in
      let k = open_blocks K (blocks_of p.bytes) (open_sound K (blocks K) (view p) a.0).pool in
      record {
        shown = own p h;
        bytes = sym (render-blocks K.tasks p.bytes k.tiling (k.sums ∙ long-is p.queue.attributes (length p.bytes)) t.byte);
        queue = sym (queue_entries p.queue t.places a.1);
      }

  -- a run on bytes and places is told what the run on block list and entries is told
  pub run-view : (p : Stored) (cs : List Call) → is_sound R p ≡ true → run (perform R) p cs ≡ run (step (rules_of R p) (blocks (rules_of R p))) (view p) cs
  run-view p cs h = runs_shown (rules_of R p) (laws_of p) cs p (view p) (own p h)

  -- every run leaves a sound state sound
  pub after-sound : (p : Stored) (cs : List Call) → is_sound R p ≡ true → is_sound R (after (perform R) p cs) ≡ true
  after-sound p cs h = (ends_shown (rules_of R p) (laws_of p) cs p (view p) (own p h)).good

  pub perform-seen : (c : Call) (p : Stored) → is_sound R p ≡ true → Seen R c p
  perform-seen c p h = let u = next (rules_of R p) (laws_of p) c p (view p) (own p h) in record { said = u.said; state = u.shown.is }

  pub perform-sound : (c : Call) (p : Stored) → is_sound R p ≡ true → is_sound R (perform R c p).state ≡ true
  perform-sound c p h = (next (rules_of R p) (laws_of p) c p (view p) (own p h)).shown.good

  pub woken_fit : (c : Call) (p : Stored) → is_sound R p ≡ true → length (perform R c p).said.woken ≤ most_tasks
  woken_fit c p h = go (tests K B c (view p)) refl
    where
      K : Rules
      K = rules_of R p

      B : Store (List Block)
      B = blocks K

      go : (v : Option Refusal) → tests K B c (view p) ≡ v → length (perform R c p).said.woken ≤ most_tasks
      go (some k) e = rw (by_refused K c p k h e) (omega arith)
      go none e =
          rw (by_done K c p h e) (omega (arith, woken-length K B (laws_of p) (block_laws K) c (view p) (open_stored K p h).0 e, (laws_of p).tasks_most))

  -- ---- demand 3

  pub perform_no_trace : (p : Stored) (f : Request) (rs : List Request) → is_sound R p ≡ true → Typed p → (perform R (get f) p).said.code ≡ waiting
      → Others f.task rs → Ranked (rules_of R p).rank ((rules_of R p).rank (entry_of f)) rs → NoTrace (perform R) p f rs
  perform_no_trace p f rs h t z os rk =
      let K = rules_of R p in
      let L = laws_of p in
      let B = blocks K in
      let a = p.queue.attributes in
      let b = p.bytes in
      let s = view p in
      let o = shows_own p h t in
      let u = next K L (get f) p s (own p h) in
      let hs = shown_sound K L p s (own p h) in
      let m = no_trace K B L (block_laws K) s f rs hs (ap (λ (x : Said). x.code) (sym u.said) ∙ z) os rk in
      let p₁ = (perform R (get f) p).state in
      let s₁ = (step K B (get f) s).state in
      let o₁ = fine_next K L a b (get f) p s (get_finer K L f s hs) o in
      let rel : List Call → Stored → State (List Block) → Type 0 = λ cs x y. Shows K L a b x y × Gets cs in
      let e₁ = (ends_alike (perform R) (step K B) rel (gets_next K L a b) (gets rs) p₁ s₁ (o₁, gets_are rs)).0 in
      let e₂ = (ends_alike (perform R) (step K B) rel (gets_next K L a b) (gets rs) p s (o, gets_are rs)).0 in
      let r₁ = runs_alike (perform R) (step K B) rel (gets_next K L a b) (gets rs) p₁ s₁ (o₁, gets_are rs) in
      let r₂ = runs_alike (perform R) (step K B) rel (gets_next K L a b) (gets rs) p s (o, gets_are rs) in
      let pe = after (perform R) p₁ (gets rs) in
      let se = after (step K B) s₁ (gets rs) in
      let c = cancel f.task in
      let last = fine_next K L a b c pe se (cancel_finer K L f.task se (shown_sound K L pe se e₁.shown)) e₁ in
      let said = (next K L c pe se e₁.shown).said ∙ ap (λ (a : Reply (State (List Block))). a.said) m.cancelled
      ∙ ap (λ (l : List Turn). says e_ok no_offset (leaves e_rlwai f.task ∷ winners l)) (sym r₂) in
      let same = ap (λ (a : Reply (State (List Block))). a.state) m.cancelled in
      let state = shows_one K L a b (perform R c pe).state (after (perform R) p (gets rs)) (step K B c se).state (after (step K B) s (gets rs)) same last e₂ in
      record { cancelled = λ i. record { said = said i; state = state i }; refused = ap refusals r₁ ∙ m.refused ∙ sym (ap refusals r₂) }

  pub perform_undone : (p : Stored) (r : Request) → is_sound R p ≡ true → Typed p → (perform R (get r) p).said.code ≡ e_ok → Undone p (undo (perform R) p r)
  unfolding view
  perform_undone p r h t z =
      let K = rules_of R p in
      let L = laws_of p in
      let B = blocks K in
      let s = view p in
      let u = next K L (get r) p s (own p h) in
      let z₁ : (step K B (get r) s).said.code ≡ e_ok = ap (λ (x : Said). x.code) (sym u.said) ∙ z in
      let g = get-release K B L (block_laws K) r s (shown_sound K L p s (own p h)) z₁ in
      let at : (perform R (get r) p).said.offset ≡ (step K B (get r) s).said.offset = ap (λ (x : Said). x.offset) u.said in
      let c = release (step K B (get r) s).said.offset in
      let v = next K L c (perform R (get r) p).state (step K B (get r) s).state u.shown in
      let back : view (perform R c (perform R (get r) p).state).state ≡ s = v.shown.is ∙ ap (λ (a : Reply (State (List Block))). a.state) g in
      let q = (perform R c (perform R (get r) p).state).state in
      let K₁ = rules_of R (perform R (get r) p).state in
      let kept : q.queue.attributes ≡ p.queue.attributes = attributes_by K₁ c (perform R (get r) p).state ∙ attributes_by K (get r) p in
      let places : queue_of q.queue.attributes (entries_of q.queue) ≡ q.queue =
      queue_entries q.queue (places_by K₁ c (perform R (get r) p).state (places_by K (get r) p t.places)) (open_stored (rules_of R q) q v.shown.good).1 in
      rw at (record {
        said = v.said ∙ ap (λ (a : Reply (State (List Block))). a.said) g;
        blocks = ap (λ (x : State (List Block)). x.pool) back;
        queue = sym places ∙ (λ i. queue_of (kept i) (back i).queue) ∙ queue_entries p.queue t.places (open_stored K p h).1;
      })

  -- ---- timeouts: a get that is told to wait, and a run from there

  module _ (p : Stored) (f : Request) (cs : List Call) (h : is_sound R p ≡ true) (z : (perform R (get f) p).said.code ≡ waiting) where
    abbrev S : Rules
    S = rules_of R p

    abbrev steps : Call → State (List Block) → Reply (State (List Block))
    steps = step S (blocks S)

    -- the states that the get leaves
    abbrev p₁ : Stored
    p₁ = (perform R (get f) p).state

    abbrev s₁ : State (List Block)
    s₁ = (steps (get f) (view p)).state

    good : sound S (blocks S) (view p) ≡ true
    good = shown_sound S (laws_of p) p (view p) (own p h)

    first : Next S (laws_of p) (get f) p (view p)
    first = next S (laws_of p) (get f) p (view p) (own p h)

    told : (steps (get f) (view p)).said.code ≡ waiting
    told = ap (λ (x : Said). x.code) (sym first.said) ∙ z

    turns : run (perform R) p₁ cs ≡ run steps s₁ cs
    turns = runs_shown S (laws_of p) cs p₁ s₁ first.shown

    end : Shown S (laws_of p) (after (perform R) p₁ cs) (after steps s₁ cs)
    end = ends_shown S (laws_of p) cs p₁ s₁ first.shown

    waits_shown : (b : Bool) (x : Stored) (s : State (List Block)) → Shown S (laws_of p) x s → waits f.task s.queue ≡ b → waits f.task (waiters x) ≡ b
    unfolding view
    waits_shown b x s o e = ap (λ (y : State (List Block)). waits f.task y.queue) o.is ∙ e

    pub perform_timeout : Spared f.task (run (perform R) p₁ cs) → (k : ℕ) → f.limit ≡ pos k → Timeout (perform R) waiters p₁ f.task k cs
    perform_timeout sp k e =
        let m = timeout S (blocks S) (laws_of p) (block_laws S) (view p) f cs good told (rw turns at sp) k e in
        let pe = after (perform R) p₁ cs in
        let se = after steps s₁ cs in
        let last = next S (laws_of p) tick pe se end in
        record {
          ends = ap (end_code f.task) turns ∙ m.ends;
          waiting = λ i. waits_shown true pe se end (m.waiting i);
          woken = λ i. ap (λ (x : Said). wake_code f.task x.woken) last.said ∙ m.woken i;
          gone = λ i. waits_shown false (perform R tick pe).state (steps tick se).state last.shown (m.gone i);
        }

    pub perform_unlimited : Spared f.task (run (perform R) p₁ cs) → f.limit ≡ minus 1 → Untimed (perform R) waiters p₁ f.task cs
    perform_unlimited sp e =
        let m = unlimited S (blocks S) (laws_of p) (block_laws S) (view p) f cs good told (rw turns at sp) e in
        record { ends = ap (end_code f.task) turns ∙ m.ends; waiting = waits_shown true (after (perform R) p₁ cs) (after steps s₁ cs) end m.waiting }

    -- ---- nobody is passed: as long as it waits, requests of no better rank stay behind it

    pub perform-behind : (r : Request) (ds : List Call) → end_code f.task (run (perform R) p₁ cs) ≡ none → S.rank (entry_of f) ≤ S.rank (entry_of r)
        → StaysBehind (perform R) (after (perform R) p₁ cs) f.task r ds
    perform-behind r ds u k =
        let pe = after (perform R) p₁ cs in
        let se = after steps s₁ cs in
        let w = still_waits S (blocks S) (laws_of p) (block_laws S) (view p) f cs good told (sym (ap (end_code f.task) turns) ∙ u) in
        let kept = (laws_of p).rank_left w.left (entry_of f) in
        let m = stays_behind S (blocks S) (laws_of p) (block_laws S) se f.task (with_left w.left (entry_of f)) r ds w.good w.here (omega (arith, k, kept)) in
        let n = next S (laws_of p) (get r) pe se end in
        let code = ap (λ (x : Said). x.code) n.said in
        let later = runs_shown S (laws_of p) ds (perform R (get r) pe).state (steps (get r) se).state n.shown in
        record { not_at_once = λ e. m.not_at_once (sym code ∙ e); not_before = λ e. rw later (m.not_before (sym code ∙ e)) }

  -- ---- the wait bound

  ending_shown : (K : Rules) (L : Laws K) (t m : ℕ) (cs : List Call) (p : Stored) (s : State (List Block)) → Shown K L p s → EndsWithin (step K (blocks K)) s t m cs → EndsWithin (perform R) p t m cs
  ending_shown K L t m cs p s o w =
      let turns = runs_shown K L w.before p s o in
      let last = next K L w.call (after (perform R) p w.before) (after (step K (blocks K)) s w.before) (ends_shown K L w.before p s o) in
      record {
        before = w.before;
        call = w.call;
        rest = w.rest;
        is = w.is;
        waiting = ap (end_code t) turns ∙ w.waiting;
        soon = rw turns w.soon;
        code = w.code;
        woken = ap (λ (x : Said). wake_code t x.woken) last.said ∙ w.woken;
        served = w.served;
      }

  pub perform_bound : (p : Stored) (t : ℕ) (e : Entry) (cs : List Call) → is_sound R p ≡ true → entry_in t (waiters p) ≡ some e
      → Unpassed (rules_of R p).rank t ((rules_of R p).rank e) (run (perform R) p cs)
      → wait_bound p t ≤ releases (run (perform R) p cs) → EndsWithin (perform R) p t (wait_bound p t) cs
  unfolding view
  perform_bound p t e cs h here up j =
      let K = rules_of R p in
      let L = laws_of p in
      let turns = run-view p cs h in
      ending_shown K L t (wait_bound p t) cs p (view p) (own p h)
      (wait_bound_lem K (blocks K) live_count L (block_laws K) (count_laws K) t e (view p) cs (shown_sound K L p (view p) (own p h)) here (rw turns at up) (rw turns at j))

  -- ---- create

  pub create-sound : (a : Attributes) (l : List ℕ) → (R a (length l)).valid ≡ true → is_sound R (create R a l).state ≡ true
  unfolding create view used pad tidy all_unused
  create-sound a l v =
      let n = length l in
      let K = R a n in
      let L = law a n in
      let long = long-is a n in
      let bs = block n 0 ∷ [] in
      let tiling : tiled K.tasks false bs ≡ true = untile K.tasks false (block n 0) []
      (record { by_four = rw long at (L.long_mod v); least = rw long at (L.long_least v); owned = omega arith; apart = refl; rest = tiled-nil K.tasks true }) in
      let sums : total bs ≡ n = total_one n in
      let eb : blocks_of (render bs l) ≡ bs = blocks-render K.tasks (omega (arith, L.tasks_most)) false bs l tiling sums (omega (arith, L.long_most v, long)) in
      let ok : sound K (blocks K) (state bs []) ≡ true = close_sound K (blocks K) (state bs [])
      (record { valid = v; pool = close_blocks K bs (record { sums = sums ∙ sym long; tiling = tiling }); order = queued-nil K; stuck = stuck_nil K (blocks K) bs }) in
      rw v (rw (render-length bs l) (close_stored K (stored (render bs l) (queue_of a [])) (rw eb ok) refl))
