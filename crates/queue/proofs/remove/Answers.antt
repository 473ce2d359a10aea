-- proofs/remove/Answers.antt
use Rattle.std.proofs.Common.{◌≡◌, length, ap, ◌∙◌, arith, rules}
use Rattle.model.specs.Limits.{most_tasks}
use Rattle.model.specs.Places.{no_entry, pad}
use Rattle.queue.proofs.Places.{used-length, remove_places}
use Rattle.queue.proofs.remove.Goals as goal

pub cut-requires : goal.cut-requires
cut-requires c = let h : length c.args.entries ≡ most_tasks = search rules in (c.requires.0, omega (arith, c.requires.1, used-length c.args.entries))

pub returns : goal.returns
returns c = c.cut.ensures ∙ ap (pad no_entry most_tasks) (remove_places c.args.place c.args.entries (omega (arith, c.requires.1)))
