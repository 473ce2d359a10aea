-- The tasks that a call wakes have numbers above 0 and fit into their places. Assumes nothing.
use Prim.Native.Nat.{ℕ, ◌≤◌}
use mathlib.Core.Path.{◌≡◌, refl, ◌∙◌}
use mathlib.Core.Bool.{true, false}
use mathlib.Core.List.{List, [], ◌∷◌, ◌++◌}
use mathlib.Core.Option.{Option, none, some}
use native.Mathlib.Omega.{arith}
use lib.Dec.{eqb}
use lib.IntN.{ℤ}
use lib.ListN.{length}
use borrow.Author.Tests.{eqb-true}
use Rattle.model.specs.declared.Entry.{Entry}
use Rattle.model.specs.declared.Woken.{Woken}
use Rattle.model.specs.Limits.{most_tasks, e_tmout}
use Rattle.model.specs.Waiting.{waits, remove, expires, expired, remaining}
use Rattle.model.specs.Rules.{Rules, rules}
use Rattle.model.specs.Calls.{Call, get, release, cancel, tick, inquire, Refusal, entry_of, leave, Store, State, blocks, fitting, given, serve, goes, tests, act}
use Rattle.model.specs.Pool.{Stored, view, is_sound, rules_of, perform}
use Rattle.model.proofs.Tests.{by, clash}
use Rattle.model.proofs.Places.{Live, queued-live}
use Rattle.model.proofs.Soundness.{passed_cancel, open_sound}
use Rattle.model.proofs.Pool.{open_stored, by_unsound, by_refused, by_done}
use Rattle.model.proofs.Theorems.{pool_woken_fit}

-- no woken task has the number 0
unfoldable pub Named : List Woken → Type 0
Named [] = Unit {0}
Named (w ∷ ws) = (w.task ≡ 0 → ⊥) × Named ws

pub named_append : (a b : List Woken) → Named a → Named b → Named (a ++ b)
unfolding Named
named_append [] b v w = w
named_append (x ∷ a) b v w = (v.0, named_append a b v.1 w)

-- ---- who leaves the queue

live-waits : (t : ℕ) (q : List Entry) → Live q → waits t q ≡ true → t ≡ 0 → ⊥
unfolding Live waits
live-waits t [] v w z = clash false w refl
live-waits t (e ∷ q) v w z =
    by (eqb e.task t)
    (λ h. v.0 (eqb-true e.task t h ∙ z))
    (λ h. live-waits t q v.1 (rw h at w) z)

live-remove : (t : ℕ) (q : List Entry) → Live q → Live (remove t q)
unfolding Live remove
live-remove t [] v = tt
live-remove t (e ∷ q) v = by (eqb e.task t) (λ h. rw h v.1) (λ h. rw h (v.0, live-remove t q v.1))

live-remaining : (q : List Entry) → Live q → Live (remaining q)
unfolding Live remaining
live-remaining [] v = tt
live-remaining (e ∷ q) v = by (expires e) (λ h. rw h (live-remaining q v.1)) (λ h. rw h (v.0, live-remaining q v.1))

expired_named : (c : ℤ) (q : List Entry) → Live q → Named (leave c (expired q))
unfolding Live Named expired leave
expired_named c [] v = tt
expired_named c (e ∷ q) v = by (expires e) (λ h. rw h (v.0, expired_named c q v.1)) (λ h. rw h (expired_named c q v.1))

-- ---- the calls

module _ (K : Rules) {P : Type 0} (E : Store P) where
  serve_named : (p : P) (q : List Entry) → Live q → Named (serve K E p q).woken
  unfolding Live Named serve
  serve_named p [] v = tt
  serve_named p (e ∷ q) v = by (fitting K E e p) (λ f. rw f (v.0, serve_named (given K E e p) q v.1)) (λ f. rw f tt)

  act_named : (c : Call) (s : State P) → Live s.queue → tests K E c s ≡ none → Named (act K E c s).said.woken
  unfolding Named act
  act_named (get r) s v e = by (goes K E (entry_of r) s) (λ g. rw g tt) (λ g. rw g tt)
  act_named (release o) s v e = serve_named _ s.queue v
  act_named (cancel t) s v e = (live-waits t s.queue v (passed_cancel K E t s e), serve_named s.pool (remove t s.queue) (live-remove t s.queue v))
  act_named tick s v e =
      named_append (leave e_tmout (expired s.queue)) (serve K E s.pool (remaining s.queue)).woken
      (expired_named e_tmout s.queue v)
      (serve_named s.pool (remaining s.queue) (live-remaining s.queue v))
  act_named inquire s v e = tt

-- in a sound state, by what its tests say
sound_named : (c : Call) (p : Stored) → is_sound rules p ≡ true → (v : Option Refusal) → tests (rules_of rules p) (blocks (rules_of rules p)) c (view p) ≡ v → Named (perform rules c p).said.woken
unfolding Named view
sound_named c p h (some k) e = rw (by_refused (rules_of rules p) c p k h e) tt
sound_named c p h none e =
    let K = rules_of rules p in
    let o = open_sound K (blocks K) (view p) (open_stored K p h).0 in
    rw (by_done K c p h e) (act_named K (blocks K) c (view p) (queued-live K (view p).queue o.order) e)

pub perform-woken : (c : Call) (p : Stored) → Named (perform rules c p).said.woken × (length (perform rules c p).said.woken ≤ most_tasks)
unfolding Named
perform-woken c p =
    by (is_sound rules p)
    (λ h. (sound_named c p h (tests (rules_of rules p) (blocks (rules_of rules p)) c (view p)) refl, pool_woken_fit c p h))
    (λ h. rw (by_unsound (rules_of rules p) c p h) (tt, omega arith))
