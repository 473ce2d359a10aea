-- What the program writes for a text: the log, or one line that says why there is none.
use Rattle.std.specs.Prelude.{ℕ, List, [], ◌++◌, Result, Ok, Err}
use Rattle.output.specs.Fill.{response}
use Rattle.text.specs.Ascii.{ascii}
use Rattle.text.specs.Decimal.{around}
use Rattle.log_text.specs.declared.Why.{Why}
use Rattle.log_text.specs.Reasons.{why_text}
use Rattle.log_text.specs.Printing.{longest_log}
use Rattle.log_text.specs.Reading.{parse}
use Rattle.log_parser.specs.declared.ParseError.{ParseError}
use Rattle.log_parser.specs.declared.ParseError.TheVariants.{Refused, TooLong, NoRoom}
use Rattle.log_parser.specs.Parser.{as_log}

abbrev pub refused_line : ℕ → Why → List ℕ
refused_line k why = around (ascii "line ") k (ascii ": " ++ why_text why)

abbrev pub too_long_line : List ℕ
too_long_line = ascii "text too long\n"

-- the line of a refusal; the other answers have none
abbrev pub refusal_line : Result ℕ ParseError → List ℕ
refusal_line (Ok n) = []
refusal_line (Err (Refused k why)) = refused_line k why
refusal_line (Err TooLong) = too_long_line
refusal_line (Err NoRoom) = []

-- in a buffer that holds any log; nothing in a shorter one
abbrev pub response_for : List ℕ → List ℕ → List ℕ
response_for text buf = response longest_log refusal_line (as_log (parse text)) buf
