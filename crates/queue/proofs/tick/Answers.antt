-- proofs/tick/Answers.antt
use Rattle.std.proofs.Common.{◌≡◌, length, rules}
use Rattle.model.specs.Limits.{most_tasks}
use Rattle.queue.proofs.Places.{used_stop, used_end}
use Rattle.queue.proofs.Time.{tick_start, tick_end, tick-leave, tick_stay}
use Rattle.queue.proofs.tick.Goals as goal
use Rattle.queue.proofs.tick.Goals.{then-e-eq-LAST_LEFT, else-e-eq-LAST_LEFT}

pub loop-e-init : goal.loop-e-init
loop-e-init c = tick_start _ _ _ c.empty-stay.ensures c.nobody-woken.ensures

pub loop-e-preserved : goal.loop-e-preserved
loop-e-preserved c =
    let x = c.loop-e in
    elim c.if-e-eq-LAST_LEFT.branch [
      | then-e-eq-LAST_LEFT w ↦ rw (w.stay-is, w.woken-is, w.staying-is, w.count-is, w.from.ensures) (tick-leave _ _ _ _ _ _ x.invariant c.if-e-eq0.false w.if-e-eq-LAST_LEFT.true)
      | else-e-eq-LAST_LEFT w ↦ rw (w.stay-is, w.woken-is, w.staying-is, w.count-is, w.age.ensures) (tick_stay _ _ _ _ _ _ x.invariant c.if-e-eq0.false w.if-e-eq-LAST_LEFT.false)
    ]

pub returns-after-loop-e : goal.returns-after-loop-e
returns-after-loop-e c =
    let h : length c.args.entries ≡ most_tasks = search rules in
    tick_end _ _ _ _ _ _ c.loop-e.invariant (used_end c.args.entries c.loop-e.e-index h c.loop-e-test.false)

pub returns-then-e-eq0 : goal.returns-then-e-eq0
returns-then-e-eq0 c = tick_end _ _ _ _ _ _ c.loop-e.invariant (used_stop c.args.entries c.loop-e.e-index c.if-e-eq0.true)
