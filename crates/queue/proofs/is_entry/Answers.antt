-- proofs/is_entry/Answers.antt
use Rattle.std.proofs.Common.{◌≡◌, true, false, sym, ◌∙◌}
use Rattle.std.specs.Prelude.{◌&&◌}
use Rattle.model.specs.Rules.{ok_task, ok_size, ok_priority, rules}
use Rattle.queue.proofs.is_entry.Goals as goal
use Rattle.queue.proofs.is_entry.Goals.{then-is_task, else-is_task}

pub returns-then-is_allowed : goal.returns-then-is_allowed
unfolding rules
returns-then-is_allowed c a n h =
    elim c.if-is_task.branch [
      | then-is_task w ↦ let t : ok_task (rules a n) c.args.e.task ≡ true = rw c.from.ensures at (sym (c.is_task.ensures a n) ∙ w.if-is_task.true) in
          let s : ok_size c.args.most c.args.e.size && ok_priority c.args.e.priority ≡ true = cc in
          rw (t, ← h, s) c.is_left.ensures
      | else-is_task w ↦ absurd (cc)
    ]

pub returns-else-is_allowed : goal.returns-else-is_allowed
unfolding rules
returns-else-is_allowed c a n h =
    elim c.if-is_task.branch [
      | then-is_task w ↦ let t : ok_task (rules a n) c.args.e.task ≡ true = rw c.from.ensures at (sym (c.is_task.ensures a n) ∙ w.if-is_task.true) in
          let s : ok_size c.args.most c.args.e.size && ok_priority c.args.e.priority ≡ false = cc in
          rw (t, ← h, s) c.if-is_allowed.false
      | else-is_task w ↦ let t : ok_task (rules a n) c.args.e.task ≡ false = rw c.from.ensures at (sym (c.is_task.ensures a n) ∙ w.if-is_task.false) in rw t c.if-is_allowed.false
    ]
