-- What the parser answers, and what it leaves in the buffer.
use Rattle.std.specs.Prelude.{ℕ, List, Result, Ok, Err}
use Rattle.output.specs.Fill.{Outcome, Content, Content·bytes, Content·refused, fill}
use Rattle.call_log.specs.Log.{bytes_of}
use Rattle.log_text.specs.Reading.{Parsed, parse, Parsed·log, Parsed·refused, Parsed·tooLong}
use Rattle.log_parser.specs.declared.ParseError.{ParseError}
use Rattle.log_parser.specs.declared.ParseError.TheVariants.{Refused, TooLong, NoRoom}

-- the bytes of the log, or the refusal
abbrev pub as_log : Parsed → Content (Result ℕ ParseError)
as_log (Parsed·log l) = Content·bytes (bytes_of l)
as_log (Parsed·refused k why) = Content·refused (Err (Refused k why))
as_log Parsed·tooLong = Content·refused (Err TooLong)

abbrev pub parsed : Parsed → List ℕ → Outcome (Result ℕ ParseError)
parsed p buf = fill Ok (Err NoRoom) (as_log p) buf

abbrev pub parse_text : List ℕ → List ℕ → Outcome (Result ℕ ParseError)
parse_text text buf = parsed (parse text) buf
