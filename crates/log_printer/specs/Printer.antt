-- What the printer answers, and what it leaves in the buffer.
use Rattle.std.specs.Prelude.{ℕ, List, Result, Ok, Err}
use Rattle.output.specs.Fill.{Outcome, Content, Content·bytes, Content·refused, fill}
use Rattle.log_text.specs.Printing.{Printed, print, Printed·text, Printed·bad, Printed·tooMany, Printed·tooLong}
use Rattle.log_printer.specs.declared.PrintError.{PrintError}
use Rattle.log_printer.specs.declared.PrintError.TheVariants.{Bad, TooMany, TooLong, NoRoom}

-- the text, or the refusal
abbrev pub as_text : Printed → Content (Result ℕ PrintError)
as_text (Printed·text text) = Content·bytes text
as_text (Printed·bad at) = Content·refused (Err (Bad at))
as_text Printed·tooMany = Content·refused (Err TooMany)
as_text Printed·tooLong = Content·refused (Err TooLong)

abbrev pub printed : Printed → List ℕ → Outcome (Result ℕ PrintError)
printed p buf = fill Ok (Err NoRoom) (as_text p) buf

abbrev pub print_log : List ℕ → List ℕ → Outcome (Result ℕ PrintError)
print_log log buf = printed (print log) buf
