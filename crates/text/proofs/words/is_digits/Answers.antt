-- `is_digits` meets its contract: every byte is a digit.
use Rattle.std.proofs.Common.{◌∙◌, rules, tests}
use Rattle.std.proofs.lemmas.Iterator.{YieldsList-from_slice}
use Rattle.std.proofs.lemmas.Iterator.Search.{all_from_yields_List}
use Rattle.text.specs.declared.words.Class.TheVariants.{Digit}
use Rattle.text.specs.Words.{belongs}
use Rattle.text.proofs.Numerals.{list_digits}
use Rattle.text.proofs.words.is_digits.Goals as goal

pub returns : goal.returns
returns c =
    all_from_yields_List (belongs Digit) _ _ _ c.all.ensures.ran (YieldsList-from_slice c.args.word.now cc) (λ x b q k. search (rules, tests))
    ∙ list_digits c.args.word.now
