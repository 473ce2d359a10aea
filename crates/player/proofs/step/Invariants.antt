-- `step`'s loop: the lines of the woken tasks passed stand behind that of the answer.
use Rattle.player.proofs.Stepping.{Writing}
use Rattle.player.proofs.step.Given as goal

abbrev pub invariant-loop-woken : goal.invariant-loop-woken
invariant-loop-woken l = Writing l.initial.out l.woken-items l.out l.woken-index
