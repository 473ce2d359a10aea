-- proofs/is_sound/Invariants.antt
-- What is tested so far leaves the rest to decide. The loop knows of the attributes only the greatest request and the order.
use Rattle.std.proofs.Common.{◌≡◌, suc, length, drop}
use Rattle.model.specs.declared.Attributes.{Attributes}
use Rattle.model.specs.Limits.{most_tasks}
use Rattle.model.specs.Rules.{most_asked}
use Rattle.queue.specs.Entries.{sound_queue}
use Rattle.queue.proofs.Entries.{test_from}
use Rattle.queue.proofs.is_sound.Given as goal

abbrev pub invariant-loop-e : goal.invariant-loop-e
invariant-loop-e l =
    ((a : Attributes) → l.most ≡ most_asked a l.n → l.order ≡ a.order → sound_queue a l.n l.fn.entries ≡ test_from a l.n l.seen l.last l.ended (drop l.e-index l.fn.entries))
    × (length l.seen ≡ suc most_tasks)
