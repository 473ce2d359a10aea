-- proofs/find/Answers.antt
use Rattle.std.proofs.Common.{rules, tests, ◌∙◌}
use Rattle.std.proofs.lemmas.Iterator.{YieldsList-from_slice}
use Rattle.std.proofs.lemmas.Iterator.Search.{position_from_yields_List, YieldsList-from_take_while}
use mathlib.Core.Bool.{not}
use lib.Dec.{eqb}
use Rattle.model.specs.declared.Entry.{Entry}
use Rattle.queue.proofs.Entries.{found_place}
use Rattle.queue.proofs.find.Goals as goal

pub returns : goal.returns
returns c =
    position_from_yields_List (λ (e : Entry). eqb e.task c.args.task) _ _ c.position.result c.position.ensures.ran
    (YieldsList-from_take_while _ (λ (e : Entry). not (eqb e.task 0)) (YieldsList-from_slice c.args.entries cc) c.take_while.ensures.closure c.take_while.ensures.done (λ x b q k. search (rules, tests)))
    (λ x b q k. search (rules, tests))
    ∙ found_place c.args.task c.args.entries
