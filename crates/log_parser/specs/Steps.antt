-- What the parser's steps answer: the contracts of the functions below `parse_text`.
use Rattle.std.specs.Prelude.{ℕ, ◌≡◌, List, [], length, Result, Ok}
use Rattle.output.specs.declared.Output.{Output}
use Rattle.output.specs.Puts.{Room}
use Rattle.output.specs.Fill.{answer_of}
use Rattle.call_log.specs.Record.{encode_record}
use Rattle.call_log.specs.Log.{start_bytes, Log, bytes_of}
use Rattle.log_text.specs.declared.Line.{Line}
use Rattle.log_text.specs.declared.Line.TheVariants.{Blank, Pool, Call}
use Rattle.log_text.specs.Reading.{Parsed, Parsed·log}
use Rattle.log_parser.specs.declared.ParseError.{ParseError}
use Rattle.log_parser.specs.Parser.{as_log}

-- what a line adds to the log
abbrev pub line_bytes : Line → List ℕ
line_bytes Blank = []
line_bytes (Pool n order) = start_bytes n order
line_bytes (Call r) = encode_record r

abbrev pub call_count : Line → ℕ
call_count Blank = 0
call_count (Pool n order) = 0
call_count (Call r) = 1

-- the length of the log, or the refusal
abbrev pub measured : Parsed → Result ℕ ParseError
measured p = answer_of Ok (as_log p)

-- there is a log, and the output, which is empty, has room for it
pub record RoomFor (p : Parsed) (out : Output) : Type 0 where
  pub log : Log
  pub same : p ≡ Parsed·log log
  pub empty : out.end ≡ 0
  pub fits : Room (length (bytes_of log)) out
