-- What the steps through a line answer.
use Rattle.std.specs.Prelude.{ℕ, Bool, true, false, Result, Ok, Err, List, drop}
use Rattle.text.specs.Words.{words_in}
use Rattle.log_text.specs.declared.Why.{Why}
use Rattle.log_text.specs.declared.Line.{Line}
use Rattle.log_text.specs.declared.Line.TheVariants as line
use Rattle.log_text.specs.Reading as reading
use Rattle.log_line.specs.declared.Argument.{Argument}

abbrev pub is_call : Result Line Why → Bool
is_call (Ok line.Blank) = false
is_call (Ok (line.Pool n order)) = false
is_call (Ok (line.Call r)) = true
is_call (Err why) = false

-- what a slot took from a text, by the place after it
abbrev pub seen : List ℕ → Result Argument Why → reading.Taken
seen s (Ok argument) = Ok (argument.value, words_in (drop argument.next s))
seen s (Err why) = Err why
