-- proofs/join/Answers.antt
use Rattle.std.proofs.Common.{◌≡◌, length, sym, ◌∙◌, arith, rules}
use Rattle.std.specs.List.{position}
use Rattle.model.specs.Limits.{most_tasks}
use Rattle.queue.proofs.Places.{make_room}
use Rattle.queue.proofs.Joining.{joins, joined_at, joined_nowhere}
use Rattle.queue.proofs.join.Goals as goal

pub returns-in-Some : goal.returns-in-Some
returns-in-Some c =
    let g = c.args in
    let n : length g.entries ≡ most_tasks = search rules in
    let e : c.place_for.result ≡ position (joins g.order g.e) g.entries = rw c.rank.ensures at c.place_for.ensures in
    let j = joined_at g.order g.e g.entries c.in-Some.place c.requires.0 (sym c.in-Some.is ∙ e) in
    rw c.copy_within.ensures.after (make_room g.entries c.in-Some.place 31 g.e (omega (arith, j.0)) (omega arith) ∙ sym j.1 ∙ rw n)

pub returns-in_default : goal.returns-in_default
returns-in_default c =
    let g = c.args in
    let n : length g.entries ≡ most_tasks = search rules in
    let e : c.place_for.result ≡ position (joins g.order g.e) g.entries = rw c.rank.ensures at c.place_for.ensures in
    sym (rw n at (joined_nowhere g.order g.e g.entries c.requires.0 (sym c.in_default.is ∙ e)))
