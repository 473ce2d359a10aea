-- proofs/empty/Answers.antt
use Rattle.std.proofs.Common.{◌≡◌, rules}
use Rattle.model.specs.Limits.{most_tasks}
use Rattle.model.specs.Places.{no_entry}
use Rattle.queue.proofs.Places.{pad-nil}
use Rattle.queue.proofs.empty.Goals as goal

pub returns : goal.returns
returns c = let e : c.default.result ≡ no_entry = search rules in rw e (pad-nil no_entry most_tasks)
