-- A turn of the loop, and its end, over plain variables; each answer cites them at the step's calls.
use Rattle.std.proofs.Common.{Option, Some, None, ◌≡◌, ℕ, ◌+◌, ◌<◌, List, length, get_or, drop, set, refl, sym, ap, ◌∙◌, add-zero, arith, rules}
use Rattle.std.proofs.Math.ListN.{length-drop}
use Rattle.model.specs.declared.Answer.{Answer}
use Rattle.model.specs.declared.Attributes.{Attributes}
use Rattle.model.specs.declared.BlockOffset.{BlockOffset}
use Rattle.model.specs.declared.Entry.{Entry}
use Rattle.model.specs.declared.Woken.{Woken}
use Rattle.model.specs.Limits.{most_tasks, e_ok}
use Rattle.model.specs.Blocks.{Block, granted}
use Rattle.model.specs.Bytes.{blocks_of}
use Rattle.model.specs.Rules.{need_of}
use Rattle.model.specs.Calls.{offset_of, Served, no_offset, no_place}
use Rattle.model.specs.Places.{no_entry, pad, used}
use Rattle.model.proofs.Places.{tidy-is}
use Rattle.layout.specs.declared.Spot.{Spot}
use Rattle.layout.specs.Layout.{first_fit_of, changed, Grantable}
use Rattle.queue.proofs.Places.{used_stop, used_go, used_end, used-drop, used-length}
use Rattle.state.proofs.Inspecting.{place-small}
use Rattle.serving.proofs.Serves.{Loop, loop_starts, Still, loop_answer, loop_out, space, loop_long, loop_none, grantable, loop_on}
use Rattle.serving.proofs.serve.Goals as goal
use Rattle.serving.proofs.serve.Goals.{else-loop-e-test, then-loop-e-test+then-e-eq0, then-loop-e-test+else-e-eq0+then-most-need, then-loop-e-test+else-e-eq0+else-most-need+in_default, then-served-gt0, else-served-gt0}

abbrev this : List Entry → ℕ → Entry
this es i = get_or es i no_entry

abbrev behind : List Entry → ℕ → List Entry
behind es i = used (drop (i + 1) es)

module _ {a : Attributes} {x : List ℕ} {n most : ℕ} {w : List Woken} {k : ℕ} {v : Served (List Block)} {l : List ℕ} {w' : List Woken} {k' : ℕ} (es : List Entry) (i : ℕ)
    (s : Loop a x n most w k v l (used (drop i es)) w' k') (u : (this es i).task ≡ 0 → ⊥) (m : ℕ) (em : m ≡ need_of a (this es i).size) where
  -- a place is left for it in the woken list
  spare : k' < most_tasks
  spare = space s (this es i) (behind es i) (used_go es i u) m em

  long : most < m → Still s
  long = loop_long s (this es i) (behind es i) (used_go es i u) m em

  module _ (f : Option Spot) (ef : f ≡ first_fit_of m (blocks_of l)) where
    none : f ≡ None → Still s
    none e = loop_none s (this es i) (behind es i) (used_go es i u) m em (sym ef ∙ e)

    module _ (p : Spot) (e : f ≡ Some p) where
      fit : Grantable l p.place m
      fit = grantable s (this es i) (behind es i) (used_go es i u) m em p (sym ef ∙ e)

      on : (l' : List ℕ) → l' ≡ changed (granted m (this es i).task) l → (o : BlockOffset) → o ≡ offset_of p.place → (k'' : ℕ) → k'' ≡ k' + 1
          → Loop a x n most w k v l' (behind es i) (set w' k' (record { task = (this es i).task; code = e_ok; offset = o })) k''
      on l' el o eo k'' ek = loop_on s (this es i) (behind es i) (used_go es i u) m em p (sym ef ∙ e) l' el _ o eo refl k'' ek

pub loop-e-init : goal.loop-e-init
loop-e-init c =
    let a = c.args in
    (refl, omega arith, rw (add-zero a.before) (loop_starts a.attributes a.pool.now a.entries (used a.entries) a.woken a.before a.most (λ i. omega (arith, c.type_inv.pool i)) c.requires (search rules) refl))

pub first_fit-requires : goal.first_fit-requires
first_fit-requires c = c.loop-e.invariant.2.pool

pub grant_at-requires : goal.grant_at-requires
grant_at-requires c =
    fit c.args.entries c.loop-e.e-index c.loop-e.invariant.2 c.if-e-eq0.false c.need-need.result c.need-need.ensures c.first_fit.result c.first_fit.ensures c.in-Some.spot c.in-Some.is

pub offset_of-requires : goal.offset_of-requires
offset_of-requires c =
    place-small c.loop-e.pool _ _ (fit c.args.entries c.loop-e.e-index c.loop-e.invariant.2 c.if-e-eq0.false c.need-need.result c.need-need.ensures c.first_fit.result c.first_fit.ensures c.in-Some.spot c.in-Some.is)

pub overflow_add-woken : goal.overflow_add-woken
overflow_add-woken c = omega (arith, spare c.args.entries c.loop-e.e-index c.loop-e.invariant.2 c.if-e-eq0.false c.need-need.result c.need-need.ensures)

pub offset_bounds-woken-before : goal.offset_bounds-woken-before
offset_bounds-woken-before c = omega (arith, spare c.args.entries c.loop-e.e-index c.loop-e.invariant.2 c.if-e-eq0.false c.need-need.result c.need-need.ensures)

pub bounds-woken-before : goal.bounds-woken-before
bounds-woken-before c = spare c.args.entries c.loop-e.e-index c.loop-e.invariant.2 c.if-e-eq0.false c.need-need.result c.need-need.ensures

pub overflow_add-served : goal.overflow_add-served
overflow_add-served c = omega (arith, c.loop-e.invariant.0, c.loop-e-test.true)

pub loop-e-preserved : goal.loop-e-preserved
loop-e-preserved c =
    let es = c.args.entries in
    let x = c.loop-e in
    let d = used-drop x.e-index es x.invariant.1 in
    let z = used_go es x.e-index c.if-e-eq0.false in (
      omega (arith, x.invariant.0),
      omega (arith, x.invariant.1, length-drop x.e-index (used es), ap length (d ∙ z)),
      rw c.from-in-loop-e.ensures (on es x.e-index x.invariant.2 c.if-e-eq0.false c.need-need.result c.need-need.ensures c.first_fit.result c.first_fit.ensures c.in-Some.spot c.in-Some.is c.grant_at.new.s
          (c.grant_at.ensures ∙ ap (λ (i : ℕ). changed (granted c.need-need.result i) x.pool) c.from.ensures) c.offset_of.result c.offset_of.ensures (c.args.before + (x.served + 1)) (omega arith)),
    )

-- ---- after the loop

pub rest-left-requires : goal.rest-left-requires
rest-left-requires c =
    let n : length c.args.entries ≡ most_tasks = search rules in
    (c.requires.places, omega (arith, n, c.loop-e.invariant.0, c.loop-e.invariant.1, used-length c.args.entries))

pub returns : goal.returns
returns c =
    let es = c.args.entries in
    let x = c.loop-e in
    let v = x.invariant.2 in
    let n : length es ≡ most_tasks = search rules in
    let still : Still v = elim c.loop-e-test.branch [
      | else-loop-e-test w ↦ loop_out v (used_end es x.e-index n (omega (arith, n, w.loop-e-test.false)))
      | then-loop-e-test+then-e-eq0 w ↦ loop_out v (used_stop es x.e-index w.if-e-eq0.true)
      | then-loop-e-test+else-e-eq0+then-most-need w ↦ long es x.e-index v w.if-e-eq0.false w.need-need.result w.need-need.ensures w.if-most-need.true
      | then-loop-e-test+else-e-eq0+else-most-need+in_default w ↦ none es x.e-index v w.if-e-eq0.false w.need-need.result w.need-need.ensures w.first_fit.result w.first_fit.ensures w.in_default.is
    ] in
    let left : c.if-served-gt0.left ≡ pad no_entry most_tasks (used (drop x.e-index es)) = elim c.if-served-gt0.branch [
      | then-served-gt0 w ↦ w.left-is ∙ rw (w.rest-left.ensures, x.invariant.0, used-drop x.e-index es x.invariant.1)
      | else-served-gt0 w ↦ let z : x.e-index ≡ 0 = omega (arith, x.invariant.0, w.if-served-gt0.false) in w.left-is ∙ rw z (rw (← n) (tidy-is es c.requires.places))
    ] in
    loop_answer v still _ (c.answer.ensures ∙ ap {B = Answer} (λ (l : List Entry). record { code = e_ok; offset = no_offset; reason = 0; place = no_place; woken = x.woken; queue = record { attributes = c.args.attributes; entries = l } }) left)
