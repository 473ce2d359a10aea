-- `is_same` meets its contract: the words are compared byte by byte.
use Rattle.std.proofs.Common.{◌∙◌}
use Rattle.text.proofs.Sameness.{same_pointwise}
use Rattle.text.proofs.words.is_same.Goals as goal

pub returns : goal.returns
returns c = c.eq.ensures ∙ same_pointwise _ _
