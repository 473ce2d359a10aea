-- `span_length` meets its contract: the bytes taken are of the class.
use Rattle.std.proofs.Common.{◌∙◌, rules, tests}
use Rattle.std.proofs.lemmas.Iterator.{YieldsList-from_slice}
use Rattle.std.proofs.lemmas.Iterator.Consumers.{count_from_yields_List, YieldsList-at}
use Rattle.std.proofs.lemmas.Iterator.Search.{YieldsList-from_take_while}
use Rattle.std.proofs.lemmas.List.Folds.{length-prefix_len}
use Rattle.text.specs.Words.{belongs}
use Rattle.text.proofs.Spans.{prefix_len-span}
use Rattle.text.proofs.words.span_length.Goals as goal

pub returns : goal.returns
returns c =
    count_from_yields_List c.take_while.result _ c.count.ensures.ran
    (YieldsList-from_take_while _ (belongs c.args.class) (YieldsList-at c.take_while.ensures.source (YieldsList-from_slice c.args.s.now cc)) c.take_while.ensures.closure c.take_while.ensures.done (λ x b q k. search (rules, tests)))
    ∙ length-prefix_len (belongs c.args.class) c.args.s.now
    ∙ prefix_len-span c.args.class c.args.s.now
