-- Each answer cites a lemma of `Judging` at the step's calls.
use Rattle.std.proofs.Common.{◌≡◌, Some, sym, ◌∙◌, arith}
use Rattle.std.proofs.lemmas.Int.{to_z-of_z}
use Rattle.model.specs.Places.{entries_of}
use Rattle.queue.specs.Entries.{limit_of}
use Rattle.request.proofs.Judging.{size-refused, waiter-refused, none-refused, found_waits}
use Rattle.request.proofs.judge.Goals as goal

pub returns-then-not-is_allowed : goal.returns-then-not-is_allowed
returns-then-not-is_allowed c =
    let a = c.args in
    size-refused a.queue.attributes a.n a.task a.size a.limit a.priority (entries_of a.queue) (sym (c.is_task.ensures a.queue.attributes a.n) ∙ c.if-not-is_task.false) (sym c.is_allowed.ensures ∙ c.if-not-is_allowed.true)

pub returns-then-is_some : goal.returns-then-is_some
returns-then-is_some c =
    let a = c.args in
    let d : limit_of a.limit ≡ Some c.in_ok-wait.wait = grind (arith, to_z-of_z) in
    waiter-refused a.queue.attributes a.n a.task a.size a.limit a.priority (entries_of a.queue) (sym (c.is_task.ensures a.queue.attributes a.n) ∙ c.if-not-is_task.false) (sym c.is_allowed.ensures ∙ c.if-not-is_allowed.false)
    c.in_ok-wait.wait d (sym (found_waits a.task (entries_of a.queue) c.find.result c.is_some.result c.find.ensures c.is_some.ensures) ∙ c.if-is_some.true)

pub returns : goal.returns
returns c =
    let a = c.args in
    let d : limit_of a.limit ≡ Some c.in_ok-wait.wait = grind (arith, to_z-of_z) in
    none-refused a.queue.attributes a.n a.task a.size a.limit a.priority (entries_of a.queue) (sym (c.is_task.ensures a.queue.attributes a.n) ∙ c.if-not-is_task.false) (sym c.is_allowed.ensures ∙ c.if-not-is_allowed.false)
    c.in_ok-wait.wait d (sym (found_waits a.task (entries_of a.queue) c.find.result c.is_some.result c.find.ensures c.is_some.ensures) ∙ c.if-is_some.false)
