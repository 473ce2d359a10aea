-- Nobody who waits is passed by one of no better rank that asks later, over any store. Assumes nothing.
use Prim.Native.Nat.{ℕ, ◌≤◌}
use mathlib.Core.Path.{◌≡◌, refl, sym, ap, ◌∙◌}
use mathlib.Core.Bool.{Bool, true, false, not, cond, ◌&&◌}
use mathlib.Core.List.{List, [], ◌∷◌, ◌++◌}
use mathlib.Core.Option.{Option, none, some}
use lib.Dec.{leb, eqb}
use lib.IntN.{ℤ}
use borrow.Author.Tests.{eqb-true, eqb-false, eq-eqb, ne_eqb}
use Rattle.model.specs.Limits.{e_rlwai, e_tmout}
use Rattle.model.specs.Waiting.{Entry, waits, entry_in, remove, insert, expires, expired, remaining}
use Rattle.model.specs.Rules.{Rules, Laws, queued}
use Rattle.model.specs.Calls.{Woken, place_of, Request, Call, get, release, cancel, tick, inquire, Refusal, entry_of, leaves, leave, Store, State, fitting, given, wakes, serve, sound, goes, tests, act, step}
use Rattle.model.specs.Runs.{run, is_zero, wakings, served_before, wake_code}
use Rattle.model.specs.Demands.{StaysBehind}
use Rattle.model.proofs.Tests.{by, clash, and_l, and_r, not_t, or_f_l, or_f_r}
use Rattle.model.proofs.Waiting.{waits_other, open_queued, waits-insert, waits-insert-same, head-blocks}
use Rattle.model.proofs.Store.{StoreLaws}
use Rattle.model.proofs.Soundness.{no_some, open_sound, passed, step-refused, step_done, verdict-sound, step-sound}
use Rattle.model.proofs.NoTrace.{told-joins, granted-goes}
use Rattle.model.proofs.WaitBound.{held_up}

-- ---- two tasks in the queue

-- the task t waits, and the task u does not stand before it
unfoldable ahead : (t u : ℕ) → List Entry → Bool
ahead t u [] = false
ahead t u (x ∷ q) = cond (eqb x.task t) true (not (eqb x.task u) && ahead t u q)

module _ (t u : ℕ) where
  -- what follows a head that is not t
  ahead_rest : (x : Entry) (q : List Entry) → eqb x.task t ≡ false → ahead t u (x ∷ q) ≡ true → (eqb x.task u ≡ false) × (ahead t u q ≡ true)
  unfolding ahead
  ahead_rest x q n a =
      let b : not (eqb x.task u) && ahead t u q ≡ true = rw n at a in
      (not_t (eqb x.task u) (and_l (not (eqb x.task u)) (ahead t u q) b), and_r (not (eqb x.task u)) (ahead t u q) b)

  ahead_on : (x : Entry) (q : List Entry) → (eqb x.task t ≡ false → eqb x.task u ≡ false) → (eqb x.task t ≡ false → ahead t u q ≡ true) → ahead t u (x ∷ q) ≡ true
  unfolding ahead
  ahead_on x q n a = by (eqb x.task t) (λ g. rw g) (λ g. rw (g, n g) (a g))

  ahead_insert : (rank : Entry → ℕ) (e : Entry) (q : List Entry) → eqb e.task u ≡ false → ahead t u q ≡ true → ahead t u (insert rank e q) ≡ true
  unfolding insert ahead
  ahead_insert rank e [] n a = clash false a refl
  ahead_insert rank e (x ∷ q) n a =
      by (leb (rank x) (rank e))
      (λ h. rw h (ahead_on x (insert rank e q) (λ g. (ahead_rest x q g a).0) (λ g. ahead_insert rank e q n (ahead_rest x q g a).1)))
      (λ h. rw h (ahead_on e (x ∷ q) (λ g. n) (λ g. a)))

  ahead_remove : (y : ℕ) (q : List Entry) → (y ≡ t → ⊥) → ahead t u q ≡ true → ahead t u (remove y q) ≡ true
  unfolding remove
  ahead_remove y [] n a = a
  ahead_remove y (x ∷ q) n a =
      by (eqb x.task y)
      (λ h. rw h (ahead_rest x q (ne_eqb x.task t (λ g. n (sym (eqb-true x.task y h) ∙ g))) a).1)
      (λ h. rw h (ahead_on x (remove y q) (λ g. (ahead_rest x q g a).0) (λ g. ahead_remove y q n (ahead_rest x q g a).1)))

  -- a newcomer stands behind all of no higher rank
  module _ (K : Rules) (e : Entry) where
    ahead_joined : (x : Entry) (q : List Entry) → x.task ≡ u → K.rank e ≤ K.rank x → queued K q ≡ true → waits u q ≡ false → entry_in t q ≡ some e → ahead t u (insert K.rank x q) ≡ true
    unfolding entry_in insert waits
    ahead_joined x [] i k o w h = no_some (sym h)
    ahead_joined x (y ∷ q) i k o w h =
        rw (sym (head-blocks K (K.rank x) y q o) ∙ held_up t e K (K.rank x) (y ∷ q) k h)
        (ahead_on y (insert K.rank x q)
        (λ g. or_f_l (eqb y.task u) (waits u q) w)
        (λ g. ahead_joined x q i k (open_queued K y q o).rest (or_f_r (eqb y.task u) (waits u q) w) (rw g at h)))

  -- ---- a tick

  -- who is not woken stays
  waits-remaining : (c : ℤ) (y : ℕ) (q : List Entry) → wake_code y (leave c (expired q)) ≡ none → waits y q ≡ true → waits y (remaining q) ≡ true
  unfolding waits remaining expired leave wake_code
  waits-remaining c y [] n w = w
  waits-remaining c y (x ∷ q) n w =
      by (expires x)
      (λ h. by (eqb x.task y)
      (λ g. no_some (rw (h, g) at n))
      (λ g. rw h (waits-remaining c y q (rw (h, g) at n) (rw g at w))))
      (λ h. by (eqb x.task y) (λ g. rw h (rw g)) (λ g. rw h (rw g (waits-remaining c y q (rw h at n) (rw g at w)))))

  ahead_remaining : (c : ℤ) (q : List Entry) → wake_code t (leave c (expired q)) ≡ none → ahead t u q ≡ true → ahead t u (remaining q) ≡ true
  unfolding remaining expired leave wake_code
  ahead_remaining c [] n a = a
  ahead_remaining c (x ∷ q) n a =
      by (expires x)
      (λ h. by (eqb x.task t)
      (λ g. no_some (rw (h, g) at n))
      (λ g. rw h (ahead_remaining c q (rw (h, g) at n) (ahead_rest x q g a).1)))
      (λ h. let m : wake_code t (leave c (expired q)) ≡ none = rw h at n in
      rw h (ahead_on _ (remaining q) (λ g. (ahead_rest x q g a).0) (λ g. ahead_remaining c q m (ahead_rest x q g a).1)))

  -- ---- who is woken, and the queue that is left: it is decided that u is not served before t, or both wait as before
  data Kept (ws : List Woken) (q : List Entry) : Type 0 where
    decided : ((rest : List Woken) → served_before u t (ws ++ rest) ≡ false) → Kept ws q
    open_still : ((rest : List Woken) → served_before u t (ws ++ rest) ≡ served_before u t rest) → ahead t u q ≡ true → waits u q ≡ true → Kept ws q

  -- of t nothing more is asked, of u only whether it got a block
  kept_first : (w : Woken) (ws : List Woken) (q : List Entry) → w.task ≡ t → Kept (w ∷ ws) q
  unfolding served_before
  kept_first w ws q e = decided (λ rest. rw (eq-eqb w.task t e))

  kept_ended : (w : Woken) (ws : List Woken) (q : List Entry) → w.task ≡ u → is_zero w.code ≡ false → Kept (w ∷ ws) q
  unfolding served_before
  kept_ended w ws q e z = decided (λ rest. by (eqb w.task t) (λ g. rw g) (λ g. rw (g, eq-eqb w.task u e) z))

  served_past : (w : Woken) (ws : List Woken) → eqb w.task t ≡ false → eqb w.task u ≡ false → served_before u t (w ∷ ws) ≡ served_before u t ws
  unfolding served_before
  served_past w ws a b = rw (a, b)

  kept_past : (w : Woken) (ws : List Woken) (q : List Entry) → eqb w.task t ≡ false → eqb w.task u ≡ false → Kept ws q → Kept (w ∷ ws) q
  kept_past w ws q a b (decided d) = decided (λ rest. served_past w (ws ++ rest) a b ∙ d rest)
  kept_past w ws q a b (open_still d i j) = open_still (λ rest. served_past w (ws ++ rest) a b ∙ d rest) i j

  -- tasks that leave without a block, and then the rest
  kept_leave : (c : ℤ) → is_zero c ≡ false → (ts : List ℕ) (ws : List Woken) (q : List Entry)
      → (wake_code t (leave c ts) ≡ none → wake_code u (leave c ts) ≡ none → Kept ws q) → Kept (leave c ts ++ ws) q
  unfolding leave wake_code
  kept_leave c z [] ws q k = k refl refl
  kept_leave c z (y ∷ ts) ws q k =
      by (eqb y t)
      (λ g. kept_first (leaves c y) (leave c ts ++ ws) q (eqb-true y t g))
      (λ g. by (eqb y u)
      (λ h. kept_ended (leaves c y) (leave c ts ++ ws) q (eqb-true y u h) z)
      (λ h. kept_past (leaves c y) (leave c ts ++ ws) q g h (kept_leave c z ts ws q (λ a b. k (rw g a) (rw h b)))))

  kept_run : (ws rest : List Woken) (q : List Entry) → Kept ws q → (ahead t u q ≡ true → waits u q ≡ true → served_before u t rest ≡ false) → served_before u t (ws ++ rest) ≡ false
  kept_run ws rest q (decided d) k = d rest
  kept_run ws rest q (open_still d i j) k = d rest ∙ k i j

  module _ (K : Rules) {P : Type 0} (E : Store P) where
    serve_kept : (p : P) (q : List Entry) → ahead t u q ≡ true → waits u q ≡ true → Kept (serve K E p q).woken (serve K E p q).state.queue
    unfolding serve waits
    serve_kept p [] a w = clash false w refl
    serve_kept p (e ∷ q) a w =
        by (fitting K E e p)
        (λ f. rw f (let v = serve K E (given K E e p) q in by (eqb e.task t)
        (λ g. kept_first (wakes K E e p) v.woken v.state.queue (eqb-true e.task t g))
        (λ g. let r = ahead_rest e q g a in
        kept_past (wakes K E e p) v.woken v.state.queue g r.0 (serve_kept (given K E e p) q r.1 (rw r.0 at w)))))
        (λ f. rw f (open_still (λ rest. refl) a w))

    module _ (s : State P) (h : sound K E s ≡ true) (a : ahead t u s.queue ≡ true) (w : waits u s.queue ≡ true) where
      act_kept : (c : Call) → tests K E c s ≡ none → Kept (act K E c s).said.woken (act K E c s).state.queue
      unfolding act
      act_kept (get r) n =
          by (goes K E (entry_of r) s)
          (λ g. rw g (open_still (λ rest. refl) a w))
          (λ g. let other : eqb r.task u ≡ false = ne_eqb r.task u (λ e. clash (waits u s.queue) w (rw e at (passed K E r s n).away)) in
          rw g (open_still (λ rest. refl) (ahead_insert K.rank (entry_of r) s.queue other a) (waits-insert K u (entry_of r) s.queue w)))
      act_kept (release o) n = serve_kept (E.free (place_of o) s.pool) s.queue a w
      act_kept (cancel y) n =
          let v = serve K E s.pool (remove y s.queue) in
          by (eqb y t)
          (λ g. kept_first (leaves e_rlwai y) v.woken v.state.queue (eqb-true y t g))
          (λ g. by (eqb y u)
          (λ k. kept_ended (leaves e_rlwai y) v.woken v.state.queue (eqb-true y u k) refl)
          (λ k. let ny = eqb-false y u k in
          kept_past (leaves e_rlwai y) v.woken v.state.queue g k
          (serve_kept s.pool (remove y s.queue) (ahead_remove y s.queue (eqb-false y t g) a) (waits_other u y (λ e. ny (sym e)) s.queue ∙ w))))
      act_kept tick n =
          let v = serve K E s.pool (remaining s.queue) in
          kept_leave e_tmout refl (expired s.queue) v.woken v.state.queue
          (λ i j. serve_kept s.pool (remaining s.queue) (ahead_remaining e_tmout s.queue i a) (waits-remaining e_tmout u s.queue j w))
      act_kept inquire n = open_still (λ rest. refl) a w

      step_kept : (c : Call) → Kept (step K E c s).said.woken (step K E c s).state.queue
      step_kept c = go (tests K E c s) refl
        where
          go : (v : Option Refusal) → tests K E c s ≡ v → Kept (step K E c s).said.woken (step K E c s).state.queue
          go none n = rw (step_done K E c s (verdict-sound K E c s h ∙ n)) (act_kept c n)
          go (some k) n = rw (step-refused K E c s k (verdict-sound K E c s h ∙ n)) (open_still (λ rest. refl) a w)

    module _ (L : Laws K) (S : StoreLaws K E) where
      run_kept : (cs : List Call) (s : State P) → sound K E s ≡ true → ahead t u s.queue ≡ true → waits u s.queue ≡ true → served_before u t (wakings (run (step K E) s cs)) ≡ false
      unfolding run wakings served_before
      run_kept [] s h a w = refl
      run_kept (c ∷ cs) s h a w =
          let next = (step K E c s).state in
          kept_run (step K E c s).said.woken (wakings (run (step K E) next cs)) next.queue (step_kept s h a w c) (λ i j. run_kept cs next (step-sound K E L S c s h) i j)

-- ---- a request that is made while the task t waits with the entry e

module _ (K : Rules) {P : Type 0} (E : Store P) (L : Laws K) (S : StoreLaws K E) where
  pub stays_behind : (s : State P) (t : ℕ) (e : Entry) (r : Request) (cs : List Call) → sound K E s ≡ true → entry_in t s.queue ≡ some e → K.rank e ≤ K.rank (entry_of r)
      → StaysBehind (step K E) s t r cs
  stays_behind s t e r cs h here k =
      record {
        not_at_once = λ z. clash (goes K E (entry_of r) s) (granted-goes K E r s h z) held;
        not_before = λ z.
            let o = told-joins K E r s h z in
            let q : (step K E (get r) s).state.queue ≡ insert K.rank (entry_of r) s.queue = ap (λ x. x.state.queue) o.is in
            run_kept t r.task K E L S cs (step K E (get r) s).state (step-sound K E L S (get r) s h)
            (rw q (ahead_joined t r.task K e (entry_of r) s.queue refl k (open_sound K E s h).order o.fair.away here))
            (rw q (waits-insert-same K (entry_of r) s.queue));
      }
    where
      held : goes K E (entry_of r) s ≡ false
      held = rw (held_up t e K (K.rank (entry_of r)) s.queue k here)
