-- What the program writes for a log: its text, or one line that says why there is none.
use Rattle.std.specs.Prelude.{ℕ, List, [], Result, Ok, Err}
use Rattle.output.specs.Fill.{response}
use Rattle.transcript.specs.Lines.{bad_line, too_long_line}
use Rattle.log_text.specs.declared.Why.TheVariants.{TooManyRecords}
use Rattle.log_text.specs.Reasons.{why_text}
use Rattle.log_text.specs.Printing.{print}
use Rattle.log_printer.specs.declared.PrintError.{PrintError}
use Rattle.log_printer.specs.declared.PrintError.TheVariants.{Bad, TooMany, TooLong, NoRoom}
use Rattle.log_printer.specs.Printer.{as_text}

-- the line of a refusal; the other answers have none
abbrev pub refusal_line : Result ℕ PrintError → List ℕ
refusal_line (Ok n) = []
refusal_line (Err (Bad at)) = bad_line at
refusal_line (Err TooMany) = why_text TooManyRecords
refusal_line (Err TooLong) = too_long_line
refusal_line (Err NoRoom) = []

-- the most bytes of a text that is printed: 4,097 lines of at most 63
abbrev pub longest_printed : ℕ
longest_printed = 258111

-- in a buffer that holds any text; nothing in a shorter one
abbrev pub response_for : List ℕ → List ℕ → List ℕ
response_for log buf = response longest_printed refusal_line (as_text (print log)) buf
