-- The wait bound is reached for every number of live blocks and every place in the queue: in a full pool that each waiting task asks for whole. Assumes nothing.
use Prim.Native.Nat.{ℕ, zero, suc, ◌+◌, ◌-◌, ◌*◌, ◌%◌, ◌≤◌, ◌<◌}
use mathlib.Core.Path.{◌≡◌, refl, sym, ap, subst, ◌∙◌}
use mathlib.Core.Bool.{true, false, cond}
use mathlib.Core.List.{List, [], ◌∷◌}
use mathlib.Core.Option.{none, some}
use native.Mathlib.Omega.{arith}
use lib.ListN.{length, replicate, length-replicate}
use lib.Dec.{leb, eqb}
use borrow.Author.Tests.{eqb-true, le-leb, lt-leb, eq-eqb, ne_eqb}
use Rattle.model.specs.Limits.{most_tasks, longest_pool, lowest_priority, forever, e_ok}
use Rattle.model.specs.Blocks.{Block, block, total, tiled, fits, carve, granted, starts_at, live_at, join, freed, live_count}
use Rattle.model.specs.Waiting.{Entry, waits, place_in, leads}
use Rattle.model.specs.Rules.{Rules, need_of, queued, rules}
use Rattle.model.specs.Calls.{BlockOffset, no_offset, release, says, Store, blocks, State, state, Served, wakes, wake, serve, head_stuck, is_live, tests, act, step}
use Rattle.model.specs.Runs.{after, run, wake_code, end_code, releases}
use Rattle.model.specs.Bytes.{blocks_of, render}
use Rattle.model.specs.Places.{queue_of}
use Rattle.model.specs.Pool.{Stored, stored, view, waiters, wait_bound, defaults, is_sound, perform}
use Rattle.model.specs.Demands.{ServedAt, Reached}
use Rattle.model.proofs.Tests.{by, and_i}
use Rattle.model.proofs.Waiting.{queued-length}
use Rattle.model.proofs.Bytes.{render-length, blocks-render}
use Rattle.model.proofs.Places.{queued-live, used-pad, tidy-pad}
use Rattle.model.proofs.Store.{close_blocks, block_laws}
use Rattle.model.proofs.Serving.{serve_stuck}
use Rattle.model.proofs.Soundness.{open_sound, close_sound, step_done, verdict-sound}
use Rattle.model.proofs.Reasons.{live-released}
use Rattle.model.proofs.Fates.{wake_none, wake-head, wake_other}
use Rattle.model.proofs.Pool as P
use Rattle.model.proofs.Rules.{rules_laws, rules-long}

-- ---- the pool

-- n live blocks of 12 bytes
abbrev full : ℕ → List Block
full n = replicate n (block 12 1)

full_is : (N n : ℕ) → (total (full n) ≡ 12 * n) × (tiled most_tasks false (full n) ≡ true) × (live_count (full n) ≡ n) × (fits N (full n) ≡ false)
unfolding total tiled live_count fits
full_is N zero = (refl, refl, refl, refl)
full_is N (suc n) = let ih = full_is N n in (omega (arith, ih.0), ih.1, omega (arith, ih.2), ih.3)

full_join : (n : ℕ) → join (block 12 0) (full n) ≡ block 12 0 ∷ full n
unfolding join
full_join zero = refl
full_join (suc n) = refl

-- and m free bytes before them
abbrev behind : ℕ → ℕ → List Block
behind m n = cond (eqb m 0) (full n) (block m 0 ∷ full n)

behind-live : (m n : ℕ) → live_at m (behind m (suc n)) ≡ true
unfolding starts_at
behind-live m n = let d : m - m ≡ 0 = omega arith in by (eqb m 0) (λ h. rw h (rw h)) (λ h. rw h (rw (h, le-leb m m (omega arith), d)))

behind-freed : (m n : ℕ) → freed m (behind m (suc n)) ≡ block (m + 12) 0 ∷ full n
unfolding freed join
behind-freed m n =
    let d : m - m ≡ 0 = omega arith in
    by (eqb m 0)
    (λ h. rw h (rw h (full_join n ∙ ap (λ (k : ℕ). block k 0 ∷ full n) (omega (arith, eqb-true m 0 h)))))
    (λ h. rw h (rw (h, d) (rw (full_join n))))

module _ (N : ℕ) (four : N % 4 ≡ 0) (least : 12 ≤ N) where
  abbrev K : Rules
  K = rules defaults N

  abbrev B : Store (List Block)
  B = blocks K

  -- ---- the queue

  abbrev entry : ℕ → Entry
  entry t = record { task = t; size = N - 8; left = forever; priority = lowest_priority }

  -- n tasks from t on, each of which asks for the whole pool
  unfoldable askers : ℕ → ℕ → List Entry
  askers t zero = []
  askers t (suc n) = entry t ∷ askers (t + 1) n

  askers_leads : (x t n : ℕ) → x < t → leads K.rank (entry x) (askers t n) ≡ true
  unfolding leads askers rules
  askers_leads x t zero l = refl
  askers_leads x t (suc n) l = rw (ne_eqb t x (λ e. omega (arith, l, e))) (askers_leads x (t + 1) n (omega (arith, l)))

  askers_queued : (t n : ℕ) → 1 ≤ t → t + n ≤ most_tasks + 1 → queued K (askers t n) ≡ true
  unfolding queued askers rules
  askers_queued t zero l m = refl
  askers_queued t (suc n) l m =
      rw (le-leb 1 t l, le-leb t most_tasks (omega (arith, m)), le-leb 1 (N - 8) (omega (arith, least)), le-leb (N - 8) (N - 8) (omega arith), askers_leads t (t + 1) n (omega arith))
      (askers_queued (t + 1) n (omega arith) (omega (arith, m)))

  -- the last of them
  askers_place : (t n u : ℕ) → u ≡ t + n → (waits u (askers t (suc n)) ≡ true) × (place_in u (askers t (suc n)) ≡ suc n)
  unfolding waits place_in askers
  askers_place t zero u e = let z = eq-eqb t u (omega (arith, e)) in (rw z, rw z)
  askers_place t (suc n) u e =
      let z = ne_eqb t u (λ h. omega (arith, e, h)) in
      let ih = askers_place (t + 1) n u (omega (arith, e)) in
      (rw z ih.0, rw z (omega (arith, ih.1)))

  need-whole : need_of defaults (N - 8) ≡ N
  need-whole = omega (arith, four, least)

  askers_stuck : (bs : List Block) (t n : ℕ) → fits N bs ≡ false → head_stuck K B bs (askers t n) ≡ true
  unfolding head_stuck askers rules
  askers_stuck bs t zero f = refl
  askers_stuck bs t (suc n) f = rw need-whole (rw f)

  -- the whole pool goes to the head, and nothing is left for the others
  abbrev head_served : ℕ → ℕ → Served (List Block)
  head_served t n = record { woken = wakes K B (entry t) (block N 0 ∷ []) ∷ []; state = state (block N t ∷ []) (askers (t + 1) n) }

  serve-whole : (t n : ℕ) → 1 ≤ t → serve K B (block N 0 ∷ []) (askers t (suc n)) ≡ head_served t n
  unfolding serve askers rules fits granted carve
  serve-whole t n l =
      let f : fits N (block N t ∷ []) ≡ false = rw (ne_eqb t 0 (λ e. omega (arith, l, e))) in
      rw (need-whole, le-leb N N (omega arith), lt-leb (N + 12) N (omega arith))
      (rw (serve_stuck K B (block N t ∷ []) (askers (t + 1) n) (askers_stuck (block N t ∷ []) (t + 1) n f)))

  -- ---- the calls

  abbrev Shown : Stored → State (List Block) → Type 0
  Shown = P.Shown rules rules_laws rules-long K (rules_laws defaults N)

  -- the release of the live block at the place p, which leaves v: the only one, or the first
  module _ (t p : ℕ) (x : Stored) (s : State (List Block)) (g : Shown x s) (l : live_at p s.pool ≡ true)
      (v : Served (List Block)) (e : serve K B (freed p s.pool) s.queue ≡ v) where
    abbrev o : BlockOffset
    o = record { 0 = p + 8 }

    done : step K B (release o) s ≡ wake [] v
    unfolding tests act
    done =
        let d : p + 8 - 8 ≡ p = omega arith in
        let h = P.shown_sound rules rules_laws rules-long K (rules_laws defaults N) x s g in
        let live : is_live K B o s.pool ≡ true = and_i (leb 8 (p + 8)) _ (le-leb 8 (p + 8) (omega arith)) (rw d l) in
        step_done K B (release o) s (verdict-sound K B (release o) s h ∙ live-released K B (block_laws K) o s.pool (open_sound K B s h).pool live) ∙ rw d (rw e)

    told : (perform rules (release o) x).said ≡ says e_ok no_offset v.woken
    told = rw done at (P.next rules rules_laws rules-long K (rules_laws defaults N) (release o) x s g).said

    only : wake_code t v.woken ≡ some e_ok → ServedAt (perform rules) x t 1
    unfolding run after end_code releases
    only w = record { before = []; last = o; count = refl; waiting = refl; woken = rw told w }

    first : (n : ℕ) → wake_code t v.woken ≡ none → ((y : Stored) → Shown y v.state → ServedAt (perform rules) y t n) → ServedAt (perform rules) x t (suc n)
    unfolding run after end_code releases
    first n w more =
        let r = more (perform rules (release o) x).state (rw done at (P.next rules rules_laws rules-long K (rules_laws defaults N) (release o) x s g).shown) in
        record { before = release o ∷ r.before; last = r.last; count = rw told (omega (arith, r.count)); waiting = rw told (rw w r.waiting); woken = r.woken }

  -- the release that makes the whole pool free, and then one of each block granted
  second_phase : (n t u p : ℕ) (x : Stored) (bs : List Block) → 1 ≤ t → u ≡ t + n → Shown x (state bs (askers t (suc n))) → live_at p bs ≡ true
      → freed p bs ≡ block N 0 ∷ [] → ServedAt (perform rules) x u (suc n)
  unfolding starts_at freed join
  second_phase zero t u p x bs m e g l f =
      only u p x (state bs (askers t 1)) g l (head_served t 0) (rw f (serve-whole t 0 m)) (wake-head u (wakes K B (entry t) (block N 0 ∷ [])) [] (omega (arith, e)))
  second_phase (suc n) t u p x bs m e g l f =
      first u p x (state bs (askers t (suc (suc n)))) g l (head_served t (suc n)) (rw f (serve-whole t (suc n) m)) (suc n)
      (wake_other u (wakes K B (entry t) (block N 0 ∷ [])) (λ z. omega (arith, e, z)))
      (λ y h. second_phase n (t + 1) u 0 y (block N t ∷ []) (omega arith) (omega (arith, e)) h (rw (ne_eqb t 0 (λ z. omega (arith, m, z)))) refl)

  -- the releases of all live blocks, from the front on; the last of them makes the whole pool free
  first_phase : (n k m c : ℕ) (x : Stored) → N ≡ m + 12 * suc n → c ≡ n + suc k → Shown x (state (behind m (suc n)) (askers 1 (suc k))) → ServedAt (perform rules) x (1 + k) c
  unfolding fits
  first_phase zero k m c x e d g =
      let whole : freed m (behind m 1) ≡ block N 0 ∷ [] = behind-freed m 0 ∙ ap (λ (y : ℕ). block y 0 ∷ []) (omega (arith, e)) in
      subst (λ (y : ℕ). ServedAt (perform rules) x (1 + k) y) (omega (arith, d)) (second_phase k 1 (1 + k) m x (behind m 1) (omega arith) refl g (behind-live m 0) whole)
  first_phase (suc n) k m c x e d g =
      let bs : List Block = block (m + 12) 0 ∷ full (suc n) in
      let q = askers 1 (suc k) in
      let f : fits N bs ≡ false = rw (lt-leb N (m + 12) (omega (arith, e))) (full_is N n).3 in
      let b : behind (m + 12) (suc n) ≡ bs = rw (ne_eqb (m + 12) 0 (λ y. omega arith)) in
      subst (λ (y : ℕ). ServedAt (perform rules) x (1 + k) y) (omega (arith, d))
      (first (1 + k) m x (state (behind m (suc (suc n))) q) g (behind-live m (suc n)) (record { woken = []; state = state bs q })
      (rw (behind-freed m (suc n)) (serve_stuck K B bs q (askers_stuck bs 1 (suc k) f))) (n + suc k) (wake_none (1 + k))
      (λ y h. first_phase n k (m + 12) (n + suc k) y (omega (arith, e)) refl (rw b h)))

  -- ---- the state before them

  reached : (n k : ℕ) → N ≡ 12 * suc n → N ≤ longest_pool → suc k ≤ most_tasks → Reached (suc n) (suc k)
  unfolding rules view
  reached n k e most k-most =
      let bs = full (suc n) in
      let q = askers 1 (suc k) in
      let zeros : List ℕ = replicate N 0 in
      let p = stored (render bs zeros) (queue_of defaults q) in
      let b = full_is N (suc n) in
      let sums : total bs ≡ N = b.0 ∙ sym e in
      let order = askers_queued 1 (suc k) (omega arith) (omega (arith, k-most)) in
      let h = close_sound K B (state bs q)
      (record {
        valid = rw (eq-eqb (N % 4) 0 four, le-leb 12 N least, le-leb N longest_pool most);
        pool = close_blocks K bs (record { sums = sums; tiling = b.1 });
        order = order;
        stuck = askers_stuck bs 1 (suc k) b.3;
      }) in
      let z : length zeros ≡ N = length-replicate N 0 in
      let long : length p.bytes ≡ N = render-length bs zeros ∙ z in
      let live = queued-live K q order in
      let eb : blocks_of p.bytes ≡ bs = blocks-render most_tasks (omega arith) false bs zeros b.1 (sums ∙ sym z) (omega (arith, z, most)) in
      let eq : waiters p ≡ q = used-pad most_tasks q live (queued-length K q order) in
      let is : view p ≡ state bs q = λ i. state (eb i) (eq i) in
      let good : is_sound rules p ≡ true = rw long (P.close_stored K p (rw is h) (tidy-pad most_tasks q live)) in
      let place = askers_place 1 k (1 + k) refl in
      let bound : wait_bound p (1 + k) ≡ n + suc k = rw (eb, eq) (omega (arith, b.2, place.1)) in
      record {
        from = p;
        task = 1 + k;
        made = refl;
        good = good;
        count = rw eb b.2;
        waiting = rw eq place.0;
        place = rw eq place.1;
        served = first_phase n k 0 (wait_bound p (1 + k)) p (omega (arith, e)) bound (record { rules = ap (rules defaults) long; good = good; is = is });
      }

pub bound_reached : (live k : ℕ) → 1 ≤ live → 12 * live ≤ longest_pool → 1 ≤ k → k ≤ most_tasks → Reached live k
bound_reached zero k l m j z = absurd (omega (arith, l))
bound_reached (suc n) zero l m j z = absurd (omega (arith, j))
bound_reached (suc n) (suc k) l m j z = reached (12 * suc n) (omega arith) (omega arith) n k refl m z
