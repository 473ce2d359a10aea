-- proofs/tick/Invariants.antt
use Rattle.queue.proofs.Time.{Ticking}
use Rattle.queue.proofs.tick.Given as goal

abbrev pub invariant-loop-e : goal.invariant-loop-e
invariant-loop-e l = Ticking l.fn.entries l.stay l.woken l.staying l.count l.e-index
