-- The tests of a call give the table of refusals, and nothing else refuses. Assumes nothing.
use Prim.Native.Nat.{◌%◌}
use mathlib.Core.Path.{◌≡◌, refl, sym}
use mathlib.Core.Bool.{Bool, true, false, not, ◌&&◌}
use mathlib.Core.List.{[]}
use mathlib.Core.Option.{Option, none, some}
use native.Mathlib.Omega.{arith}
use lib.Dec.{eqb}
use Rattle.model.specs.Limits.{e_sys, e_par, e_id, e_ctx, e_obj, e_tmout, out_of_range, misaligned, already_free, inside_block}
use Rattle.model.specs.Waiting.{waits}
use Rattle.model.specs.Rules.{Rules, ok_task}
use Rattle.model.specs.Calls.{BlockOffset, place_of, no_place, Request, Call, get, release, cancel, tick, inquire, Refusal, plain, because, deny, ok_limit, is_poll, entry_of, Store, State, state, goes, in_range, misplaced, tests, verdict, act}
use Rattle.model.specs.Refusals.{Refused, sys, get_id, cancel_id, get_par, release_range, release_alignment, release_free, release_inside, get_ctx, cancel_obj, get_tmout}
use Rattle.model.specs.Runs.{refuses, refused_by}
use Rattle.model.proofs.Tests.{by, clash, and_l, and_r, not_t, not_f}
use Rattle.model.proofs.Soundness.{no_some}

-- a refusal by one test, or past it by the others
denied : {X : Type 0} (b : Bool) (c k : Refusal) (rest : Option Refusal) → deny b c rest ≡ some k → (b ≡ true → c ≡ k → X) → (b ≡ false → rest ≡ some k → X) → X
denied true c k rest e f g = f refl (cc)
denied false c k rest e f g = g refl e

never : {X : Type 0} {k : Refusal} → none ≡ some k → X
never e = no_some (sym e)

module _ (K : Rules) {P : Type 0} (E : Store P) where
  abbrev asks : Request → Bool
  asks r = K.allowed (entry_of r) && ok_limit r.limit

  pub verdict-refused : (ok : Bool) (c : Call) (s : State P) (k : Refusal) → verdict K E ok c s ≡ some k → Refused K E ok s c k
  unfolding tests
  verdict-refused ok (get r) s k e =
      denied (not ok) (plain e_sys) k _ e (λ h q. rw (← q) (sys (not_t ok h)))
      (λ h e1. denied (not (ok_task K r.task)) (plain e_id) k _ e1 (λ a q. rw (← q) (get_id (not_f ok h) (not_t (ok_task K r.task) a)))
      (λ a e2. denied (not (asks r)) (plain e_par) k _ e2 (λ b q. rw (← q) (get_par (not_f ok h) (not_f (ok_task K r.task) a) (not_t (asks r) b)))
      (λ b e3. denied (waits r.task s.queue) (plain e_ctx) k _ e3 (λ w q. rw (← q) (get_ctx (not_f ok h) (not_f (ok_task K r.task) a) (not_f (asks r) b) w))
      (λ w e4. denied (is_poll r.limit && not (goes K E (entry_of r) s)) (plain e_tmout) k none e4
      (λ g q. rw (← q) (get_tmout (not_f ok h) (record { task = not_f (ok_task K r.task) a; size_limit = not_f (asks r) b; away = w })
      (and_l (is_poll r.limit) (not (goes K E (entry_of r) s)) g) (not_t (goes K E (entry_of r) s) (and_r (is_poll r.limit) (not (goes K E (entry_of r) s)) g))))
      (λ g e5. never e5)))))
  verdict-refused ok (release o) s k e =
      denied (not ok) (plain e_sys) k _ e (λ h q. rw (← q) (sys (not_t ok h)))
      (λ h e1. denied (not (in_range K o)) (because out_of_range no_place) k _ e1 (λ a q. rw (← q) (release_range (not_f ok h) (not_t (in_range K o) a)))
      (λ a e2. denied (not (eqb (o.0 % 4) 0)) (because misaligned no_place) k _ e2 (λ b q. rw (← q) (release_alignment (not_f ok h) (not_f (in_range K o) a) (not_t (eqb (o.0 % 4) 0) b)))
      (λ b e3. denied (E.idle (place_of o) s.pool) (because already_free (place_of o)) k _ e3 (λ f q. rw (← q) (release_free (not_f ok h) (not_f (in_range K o) a) (not_f (eqb (o.0 % 4) 0) b) f))
      (λ f e4. denied (not (E.live (place_of o) s.pool)) (because inside_block (E.holder o s.pool)) k none e4
      (λ l q. rw (← q) (release_inside (not_f ok h) (not_f (in_range K o) a) (not_f (eqb (o.0 % 4) 0) b) f (not_t (E.live (place_of o) s.pool) l)))
      (λ l e5. never e5)))))
  verdict-refused ok (cancel t) s k e =
      denied (not ok) (plain e_sys) k _ e (λ h q. rw (← q) (sys (not_t ok h)))
      (λ h e1. denied (not (ok_task K t)) (plain e_id) k _ e1 (λ a q. rw (← q) (cancel_id (not_f ok h) (not_t (ok_task K t) a)))
      (λ a e2. denied (not (waits t s.queue)) (plain e_obj) k none e2 (λ w q. rw (← q) (cancel_obj (not_f ok h) (not_f (ok_task K t) a) (not_t (waits t s.queue) w))) (λ w e3. never e3)))
  verdict-refused ok tick s k e = denied (not ok) (plain e_sys) k none e (λ h q. rw (← q) (sys (not_t ok h))) (λ h e1. never e1)
  verdict-refused ok inquire s k e = denied (not ok) (plain e_sys) k none e (λ h q. rw (← q) (sys (not_t ok h))) (λ h e1. never e1)

  pub refused-verdict : (ok : Bool) (c : Call) (s : State P) (k : Refusal) → Refused K E ok s c k → verdict K E ok c s ≡ some k
  unfolding tests
  refused-verdict ok c s k (sys h) = rw h
  refused-verdict ok (get r) s k (get_id h a) = rw (h, a)
  refused-verdict ok (cancel t) s k (cancel_id h a) = rw (h, a)
  refused-verdict ok (get r) s k (get_par h a b) = rw (h, a, b)
  refused-verdict ok (release o) s k (release_range h a) = rw (h, a)
  refused-verdict ok (release o) s k (release_alignment h a b) = rw (h, a, b)
  refused-verdict ok (release o) s k (release_free h a b f) = rw (h, a, b, f)
  refused-verdict ok (release o) s k (release_inside h a b f l) = rw (h, a, b, f, l)
  refused-verdict ok (get r) s k (get_ctx h a b w) = rw (h, a, b, w)
  refused-verdict ok (cancel t) s k (cancel_obj h a w) = rw (h, a, w)
  refused-verdict ok (get r) s k (get_tmout h f p g) = let a = f.task in let b = f.size_limit in let w = f.away in rw (h, a, b, w, p, g)

  -- what is told has a code of its own, and of a release in a sound state a reason
  pub refused-code : (ok : Bool) (c : Call) (s : State P) (x : Refusal) → Refused K E ok s c x → refuses x.code ≡ true
  unfolding refuses
  refused-code ok c s x (sys h) = refl
  refused-code ok (get r) s x (get_id h a) = refl
  refused-code ok (cancel t) s x (cancel_id h a) = refl
  refused-code ok (get r) s x (get_par h a b) = refl
  refused-code ok (release o) s x (release_range h a) = refl
  refused-code ok (release o) s x (release_alignment h a b) = refl
  refused-code ok (release o) s x (release_free h a b f) = refl
  refused-code ok (release o) s x (release_inside h a b f l) = refl
  refused-code ok (get r) s x (get_ctx h a b w) = refl
  refused-code ok (cancel t) s x (cancel_obj h a w) = refl
  refused-code ok (get r) s x (get_tmout h f p g) = refl

  pub record Because (x : Refusal) : Type 0 where
    pub is : x ≡ because x.reason x.place
    pub some-reason : x.reason ≡ 0 → ⊥

  refused-because : (o : BlockOffset) (s : State P) (x : Refusal) → Refused K E true s (release o) x → Because x
  refused-because o s x (sys h) = clash true refl h
  refused-because o s x (release_range h a) = record { is = refl; some-reason = λ z. omega (arith, z) }
  refused-because o s x (release_alignment h a b) = record { is = refl; some-reason = λ z. omega (arith, z) }
  refused-because o s x (release_free h a b f) = record { is = refl; some-reason = λ z. omega (arith, z) }
  refused-because o s x (release_inside h a b f l) = record { is = refl; some-reason = λ z. omega (arith, z) }

  pub misplaced-because : (o : BlockOffset) (p : P) (x : Refusal) → misplaced K E o p ≡ some x → Because x
  unfolding tests
  misplaced-because o p x e = refused-because o (state p []) x (verdict-refused true (release o) (state p []) x e)

  -- a call that no test refuses answers 0 or 1, without a reason
  pub done_code : (c : Call) (s : State P) → refuses (act K E c s).said.code ≡ false
  unfolding act refuses
  done_code (get r) s = by (goes K E (entry_of r) s) (λ g. rw g) (λ g. rw g)
  done_code (release o) s = refl
  done_code (cancel t) s = refl
  done_code tick s = refl
  done_code inquire s = refl

  pub act-code : (c : Call) (s : State P) → refused_by (act K E c s).said ≡ none
  act-code c s = rw (done_code c s)

  pub act_no_reason : (c : Call) (s : State P) → ((act K E c s).said.reason ≡ 0) × ((act K E c s).said.place ≡ no_place)
  unfolding act
  act_no_reason (get r) s = by (goes K E (entry_of r) s) (λ g. rw g (refl, refl)) (λ g. rw g (refl, refl))
  act_no_reason (release o) s = (refl, refl)
  act_no_reason (cancel t) s = (refl, refl)
  act_no_reason tick s = (refl, refl)
  act_no_reason inquire s = (refl, refl)
