-- What the printer's steps answer: the contracts of the functions below `print_log`.
use Rattle.std.specs.Prelude.{ℕ, ◌+◌, ◌≤◌, ◌≡◌, Bool, true, List, length, Result, Ok}
use Rattle.output.specs.declared.Output.{Output}
use Rattle.output.specs.Puts.{Room}
use Rattle.output.specs.Fill.{answer_of, is_bytes, bytes_in}
use Rattle.log_text.specs.Printing.{Printed, print_records}
use Rattle.log_printer.specs.declared.PrintError.{PrintError}
use Rattle.log_printer.specs.Printer.{as_text}

-- m bytes and those of the text, if there is one
abbrev pub measured : ℕ → Printed → Result ℕ PrintError
measured m p = answer_of (λ k. Ok (m + k)) (as_text p)

abbrev pub is_text : Printed → Bool
is_text p = is_bytes (as_text p)

-- the text, none where there is a refusal
abbrev pub text_in : Printed → List ℕ
text_in p = bytes_in (as_text p)

-- the records from a place of the log on have a text, and the output has room for it
pub record RoomFor (log : List ℕ) (place : ℕ) (out : Output) : Type 0 where
  pub inside : place ≤ length log
  pub whole : is_text (print_records place 0 0 log) ≡ true
  pub fits : Room (length (text_in (print_records place 0 0 log))) out
