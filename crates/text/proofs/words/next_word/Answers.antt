-- `next_word` meets its contract: behind the blanks stands a word, or nothing.
use Rattle.text.proofs.Pieces.{word_none, word_some}
use Rattle.text.proofs.words.next_word.Goals as goal

pub returns-then-s-start : goal.returns-then-s-start
returns-then-s-start c = word_none _ _ _ c.span_end-start.ensures c.if-s-start.true

pub returns : goal.returns
returns c = word_some _ _ _ c.span_end-start.ensures c.if-s-start.false _ c.span_end-end.ensures
