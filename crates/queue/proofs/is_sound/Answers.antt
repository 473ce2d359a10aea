-- proofs/is_sound/Answers.antt
use Rattle.std.proofs.Common.{◌≡◌, ◌<◌, ℕ, suc, true, length, get_or, refl, sym, ap, ◌∙◌, arith, rules, length-set}
use Rattle.model.specs.declared.Attributes.{Attributes}
use Rattle.model.specs.declared.Entry.{Entry}
use Rattle.model.specs.Limits.{most_tasks}
use Rattle.model.specs.Rules.{ok_entry, rank_by, rules as rules_of}
use Rattle.model.specs.Places.{no_entry}
use Rattle.queue.proofs.Places.{unused_stop, unused_go}
use Rattle.queue.proofs.Entries.{entry_number, test_starts, test_ended, test_bad, test_marked, test_low, test_go, test_end}
use Rattle.queue.proofs.is_sound.Goals as goal
use Rattle.queue.proofs.is_sound.Goals.{then-seen-task-via-then-seen-task, then-seen-task-via-else-seen-task+then-own-last}

pub loop-e-init : goal.loop-e-init
loop-e-init c = (λ a e o. test_starts a _ (suc most_tasks) _, refl)

pub returns-then-not-is_unused : goal.returns-then-not-is_unused
returns-then-not-is_unused c =
    let x = c.loop-e in
    let g = c.args in
    sym (x.invariant.0 g.attributes c.most_asked-most.ensures refl
    ∙ test_ended g.attributes g.n g.entries x.e-index x.seen x.last x.ended c.if-ended.true ∙ unused_stop g.entries x.e-index (sym c.is_unused.ensures ∙ c.if-not-is_unused.true))

pub loop-e-preserved-then-ended : goal.loop-e-preserved-then-ended
loop-e-preserved-then-ended c =
    let x = c.loop-e in
    let g = c.args in (
      λ a k j. x.invariant.0 a k j
          ∙ rw c.if-ended.true (test_ended a g.n g.entries x.e-index x.seen x.last x.ended c.if-ended.true ∙ unused_go g.entries x.e-index (sym c.is_unused.ensures ∙ c.if-not-is_unused.false)),
      x.invariant.1,
    )

pub returns-then-not-is_entry : goal.returns-then-not-is_entry
returns-then-not-is_entry c =
    let x = c.loop-e in
    let g = c.args in
    let k = c.most_asked-most.ensures in
    sym (x.invariant.0 g.attributes k refl
    ∙ test_bad g.attributes g.n g.entries x.e-index x.seen x.last x.ended c.if-ended.false (sym (c.is_entry.ensures g.attributes g.n k) ∙ c.if-not-is_entry.true))

-- an entry that may stand in the queue has a place among the marks
number : (a : Attributes) (n : ℕ) (e : Entry) → ok_entry (rules_of a n) e ≡ true → e.task < 33
number a n e h = omega (arith, entry_number a n e h)

pub bounds-seen-task : goal.bounds-seen-task
bounds-seen-task c =
    rw c.from-task.ensures (number c.args.attributes c.args.n _ (sym (c.is_entry.ensures c.args.attributes c.args.n c.most_asked-most.ensures) ∙ c.if-not-is_entry.false))

pub bounds-seen-task-in-loop-e : goal.bounds-seen-task-in-loop-e
bounds-seen-task-in-loop-e c =
    rw c.from-task.ensures (number c.args.attributes c.args.n _ (sym (c.is_entry.ensures c.args.attributes c.args.n c.most_asked-most.ensures) ∙ c.if-not-is_entry.false))

pub returns-then-seen-task : goal.returns-then-seen-task
returns-then-seen-task c =
    let x = c.loop-e in
    let g = c.args in
    let sound = x.invariant.0 g.attributes c.most_asked-most.ensures refl in
    elim c.then-seen-task.branch [
      | then-seen-task-via-then-seen-task w ↦
          sym (sound ∙ test_marked g.attributes g.n g.entries x.e-index x.seen x.last x.ended c.if-ended.false (rw c.from-task.ensures at w.if-seen-task.true))
      | then-seen-task-via-else-seen-task+then-own-last w ↦
          sym (sound ∙ test_low g.attributes g.n g.entries x.e-index x.seen x.last x.ended c.if-ended.false (rw c.rank-own.ensures at w.if-own-last.true))
    ]

pub loop-e-preserved : goal.loop-e-preserved
loop-e-preserved c =
    let x = c.loop-e in
    let n = c.args.n in
    let l = c.args.entries in
    let e = get_or l x.e-index no_entry in (
      λ a k j. let ok : ok_entry (rules_of a n) e ≡ true = sym (c.is_entry.ensures a n k) ∙ c.if-not-is_entry.false in
          let own : _ ≡ rank_by a.order e = c.rank-own.ensures ∙ ap (λ (d : ℕ). rank_by d e) j in
          x.invariant.0 a k j
          ∙ simp (c.if-ended.false, own, c.from-task.ensures) (test_go a n l x.e-index x.seen x.last x.ended c.if-ended.false ok (rw c.from-task.ensures at c.if-seen-task.false) (rw own at c.if-own-last.false) (omega (arith, x.invariant.1, entry_number a n e ok))),
      length-set x.seen _ true ∙ x.invariant.1,
    )

pub returns : goal.returns
returns c =
    let x = c.loop-e in
    let g = c.args in
    let h : length g.entries ≡ most_tasks = search rules in
    sym (x.invariant.0 g.attributes c.most_asked-most.ensures refl ∙ test_end g.attributes g.n g.entries x.e-index x.seen x.last x.ended h c.loop-e-test.false)
