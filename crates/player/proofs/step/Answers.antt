-- `step` meets its contract: the call, the line of its answer, and those of the woken tasks.
use Rattle.std.proofs.Common.{rules, ◌<◌, get_or, arith, w32, FitsSigned}
use mir.ValLaws.{to_z-of_z}
use Rattle.model.specs.Places.{no_woken}
use Rattle.output.proofs.Wrote.{wrote-length}
use Rattle.transcript.proofs.Theorems.{length-answer, length-woken}
use Rattle.player.proofs.Stepping.{writing_starts, writing_more, stepped}
use Rattle.player.proofs.step.Goals as goal
use Rattle.player.proofs.step.Goals.{else-loop-woken-test, then-loop-woken-test+then-woken-eq0}

pub loop-woken-init : goal.loop-woken-init
loop-woken-init c = writing_starts _ _

pub woken_line-requires : goal.woken_line-requires
woken_line-requires c =
    let answer = c.call-answer.result in
    let fits : FitsSigned w32 answer.code = record { sfits = search rules } in
    let small : answer.offset.0 < 18446744073709551616 = search rules in
    let line = rw (to_z-of_z w32 answer.code fits) at c.answer_line.ensures in
    let so_far = c.loop-woken.invariant in
    omega (
      arith,
      c.loop-woken-test.true,
      so_far.short,
      wrote-length so_far.puts.wrote,
      line.wrote.place,
      length-answer answer.offset.0 small answer.code fits,
      wrote-length line.wrote,
      c.requires,
    )

pub loop-woken-preserved : goal.loop-woken-preserved
loop-woken-preserved c =
    let w = get_or c.call-answer.result.woken c.loop-woken.woken-index no_woken in
    let fits : FitsSigned w32 w.code = record { sfits = search rules } in
    let small : w.offset.0 < 18446744073709551616 = search rules in
    let named : w.task < 4294967296 = search rules in
    writing_more c.loop-woken.invariant c.loop-woken-test.true c.if-woken-eq0.false fits c.woken_line.ensures (length-woken w.offset.0 small w.code fits w.task named)

pub returns : goal.returns
returns c =
    let answer = c.call-answer.result in
    let fits : FitsSigned w32 answer.code = record { sfits = search rules } in
    let small : answer.offset.0 < 18446744073709551616 = search rules in
    let line = rw (to_z-of_z w32 answer.code fits) at c.answer_line.ensures in
    stepped answer c.call-answer.ensures line (length-answer answer.offset.0 small answer.code fits) c.loop-woken.invariant
    (λ h. elim c.loop-woken-test.branch [ else-loop-woken-test w ↦ absurd (omega arith) | then-loop-woken-test+then-woken-eq0 w ↦ w.if-woken-eq0.true ])
