-- Laws of time: what a tick does place by place, and what a limit asks for. Assumes nothing.
use Prim.Native.Nat.{ℕ, zero, suc, ◌+◌, ◌-◌, ◌≤◌, ◌<◌}
use mathlib.Core.Path.{◌≡◌, refl, sym, ap, ◌∙◌}
use mathlib.Core.Bool.{Bool, true, false}
use mathlib.Core.List.{List, [], ◌∷◌}
use native.Mathlib.Omega.{arith}
use native.Mathlib.Numerals.{add-one}
use mir.Syntax.{w32}
use mir.Val.{Fits, SFits, of_z, to_z}
use mir.ValLaws.{to_z-of_z}
use lib.Dec.{T}
use lib.IntN.{ℤ, pos, negsuc, nat_abs}
use lib.ListN.{length, drop, get_or, set}
use lib.Seq.{sets}
use lib.Signed.{lt_z, non_neg}
use borrow.Author.Tests.{le-leb, eq-eqb, ne_eqb}
use Rattle.model.specs.declared.Entry.{Entry}
use Rattle.model.specs.declared.Woken.{Woken}
use Rattle.model.specs.Limits.{most_tasks, longest_limit, forever, e_tmout}
use Rattle.model.specs.Waiting.{with_left, aged, expired, remaining}
use Rattle.model.specs.Calls.{ok_limit, is_poll, left_of, leaves, leave}
use Rattle.model.specs.Places.{no_entry, no_woken, pad, used}
use Rattle.model.proofs.Tests.{by}
use Rattle.std.specs.Prelude.{Option, Some, None}
use Rattle.queue.specs.declared.Limit.{Limit}
use Rattle.queue.specs.declared.Limit.TheVariants.{Poll, Left}
use Rattle.queue.specs.Entries.{ticked_of, limit_of}
use Rattle.queue.proofs.Places.{sets-pad, used_go}

-- ---- an entry a tick older

module _ (e : Entry) where
  pub aged-forever : e.left ≡ forever → e ≡ aged e
  aged-forever h = ap (λ (n : ℕ). with_left n e) (h ∙ rw (eq-eqb e.left forever h))

  pub aged-limited : (e.left ≡ forever → ⊥) → with_left (e.left - 1) e ≡ aged e
  aged-limited u = rw (ne_eqb e.left forever u)

  pub aged_none : (e.left ≡ forever → ⊥) → e.left < 1 → e ≡ aged e
  aged_none u h = let k : e.left ≡ e.left - 1 = omega arith in ap (λ (n : ℕ). with_left n e) k ∙ aged-limited u

-- ---- a tick, place by place

-- Of the entries es the places before i are done: k of them stay, in `stay`, and n leave, in `woken`.
pub record Ticking (es stay : List Entry) (woken : List Woken) (k n i : ℕ) : Type 0 where
  pub stays : pad no_entry most_tasks (remaining (used es)) ≡ sets stay k (remaining (used (drop i es)))
  pub wakes : pad no_woken most_tasks (leave e_tmout (expired (used es))) ≡ sets woken n (leave e_tmout (expired (used (drop i es))))
  pub count : length (expired (used es)) ≡ n + length (expired (used (drop i es)))
  pub staying : k ≤ i
  pub leaving : n ≤ i

pub tick_start : (es stay : List Entry) (woken : List Woken) → stay ≡ pad no_entry most_tasks [] → woken ≡ pad no_woken most_tasks [] → Ticking es stay woken 0 0 0
tick_start es stay woken s w =
    record {
      stays = rw s (sym (sets-pad no_entry most_tasks (remaining (used es))));
      wakes = rw w (sym (sets-pad no_woken most_tasks (leave e_tmout (expired (used es)))));
      count = omega arith;
      staying = omega arith;
      leaving = omega arith;
    }

module _ (es stay : List Entry) (woken : List Woken) (k n i : ℕ) (o : Ticking es stay woken k n i) where
  pub tick_end : used (drop i es) ≡ [] → record { entries = stay; woken = woken; count = n } ≡ ticked_of es
  unfolding remaining expired leave
  tick_end h =
      let s : pad no_entry most_tasks (remaining (used es)) ≡ stay = o.stays ∙ rw h in
      let w : pad no_woken most_tasks (leave e_tmout (expired (used es))) ≡ woken = o.wakes ∙ rw h in
      let c : length (expired (used (drop i es))) ≡ 0 = rw h in
      let m : length (expired (used es)) ≡ n = omega (arith, o.count) in
      λ j. record { entries = sym s j; woken = sym w j; count = sym m j }

  module _ (u : (get_or es i no_entry).task ≡ 0 → ⊥) where
    abbrev x : Entry
    x = get_or es i no_entry

    abbrev q : List Entry
    q = used (drop (i + 1) es)

    pub tick-leave : x.left ≡ 1 → Ticking es stay (set woken n (leaves e_tmout x.task)) k (n + 1) (i + 1)
    unfolding remaining expired leave
    tick-leave h =
        let z = eq-eqb x.left 1 h in
        let r : remaining (used (drop i es)) ≡ remaining q = rw (used_go es i u, z) in
        let d : expired (used (drop i es)) ≡ x.task ∷ expired q = rw (used_go es i u, z) in
        record {
          stays = o.stays ∙ rw r;
          wakes = o.wakes ∙ rw (d, add-one n);
          count = omega (arith, o.count, ap length d);
          staying = omega (arith, o.staying);
          leaving = omega (arith, o.leaving);
        }

    pub tick_stay : (x.left ≡ 1 → ⊥) → Ticking es (set stay k (aged x)) woken (k + 1) n (i + 1)
    unfolding remaining expired
    tick_stay h =
        let z = ne_eqb x.left 1 h in
        let r : remaining (used (drop i es)) ≡ aged x ∷ remaining q = rw (used_go es i u, z) in
        let d : expired (used (drop i es)) ≡ expired q = rw (used_go es i u, z) in
        record {
          stays = o.stays ∙ rw (r, add-one k);
          wakes = o.wakes ∙ rw d;
          count = omega (arith, o.count, ap length d);
          staying = omega (arith, o.staying);
          leaving = omega (arith, o.leaving);
        }

-- ---- a signed limit, by the tests of its bits

-- a test of the number itself
module _ (n : ℤ) (s : SFits w32 n) where
  sign : (t : Bool) → lt_z (to_z w32 (of_z w32 n)) (pos 0) ≡ t → lt_z n (pos 0) ≡ t
  sign t e = rw (to_z-of_z w32 n s) at e

pub limit-forever : (n : ℤ) → SFits w32 n → of_z w32 n ≡ 4294967295 → Some (Left forever) ≡ limit_of n
limit-forever (pos m) s e = absurd (omega (arith, s.sfits, e))
limit-forever (negsuc zero) s e = refl
limit-forever (negsuc (suc m)) s e = absurd (omega (arith, s.sfits, e))

ticks : (n : ℤ) → SFits w32 n → (of_z w32 n ≡ 0 → ⊥) → lt_z n (pos 0) ≡ false → Some (Left (nat_abs n + 1)) ≡ limit_of n
ticks (pos zero) s u e = absurd (u refl)
ticks (pos (suc m)) s u e = rw (le-leb (suc m) longest_limit (omega (arith, s.sfits)), ne_eqb (suc m) 0 (λ z. omega arith))
ticks (negsuc m) s u e = absurd (let z : ◌≡◌ {A = ℕ} 0 1 = cc in omega arith)

pub limit-ticks : (n : ℤ) → SFits w32 n → (of_z w32 n ≡ 0 → ⊥) → lt_z (to_z w32 (of_z w32 n)) (pos 0) ≡ false → Some (Left (nat_abs (to_z w32 (of_z w32 n)) + 1)) ≡ limit_of n
limit-ticks n s u e = rw (to_z-of_z w32 n s) (ticks n s u (sign n s false e))

-- a limit that is not negative, and one more, fit an unsigned number
pub record Counted (n : ℤ) : Type 0 where
  pub cast : T (non_neg n) × Fits w32 (nat_abs n)
  pub more : Fits w32 (nat_abs n + 1)

counted : (n : ℤ) → SFits w32 n → lt_z n (pos 0) ≡ false → Counted n
counted (pos m) s e = record { cast = (tt, record { fits = omega (arith, s.sfits) }); more = record { fits = omega (arith, s.sfits) } }
counted (negsuc m) s e = absurd (let z : ◌≡◌ {A = ℕ} 0 1 = cc in omega arith)

pub limit_counted : (n : ℤ) → SFits w32 n → lt_z (to_z w32 (of_z w32 n)) (pos 0) ≡ false → Counted (to_z w32 (of_z w32 n))
limit_counted n s e = rw (to_z-of_z w32 n s) (counted n s (sign n s false e))

-- ---- what a limit asks for, in the model's words

module _ (l : ℤ) where
  -- what the answer says of the limit
  abbrev pub Asks : Option Limit → Type 0
  Asks None = ok_limit l ≡ false
  Asks (Some Poll) = (ok_limit l ≡ true) × (is_poll l ≡ true)
  Asks (Some (Left n)) = (ok_limit l ≡ true) × (is_poll l ≡ false) × (n ≡ left_of l)

  pub limit_asks : (r : Option Limit) → r ≡ limit_of l → Asks r
  limit_asks r e =
      rw e (by (ok_limit l) (λ h. rw h (by (is_poll l) (λ g. rw g (h, g)) (λ g. rw g (h, g, refl)))) (λ h. rw h h))
