-- The theorems of the response to a text. Assumes nothing.
use Prim.Native.Nat.{ℕ}
use mathlib.Core.Path.{◌≡◌, refl}
use mathlib.Core.List.{List, ◌∷◌}
use mathlib.Core.Option.{none, some}
use Rattle.numbers.specs.Number.{decode}
use Rattle.call_log.specs.Fields.{read_fields}
use Rattle.call_log.specs.Record.{record_of}
use Rattle.call_log.specs.Log.{start_of, records_of, Log, bytes_of, read_log}
use Rattle.log_text.specs.declared.Why.{Why}
use Rattle.log_text.specs.Reading.{Parsed·log, parse}
use Rattle.log_text.proofs.Theorems.{parse_printable, printable_read}
use Rattle.log_parser.specs.Response.{refused_line, too_long_line}

-- no log begins with 'li' or 'te'
line_no_log : (s : List ℕ) → read_log (108 ∷ 105 ∷ s) ≡ none
unfolding decode read_fields record_of start_of records_of read_log
line_no_log s = refl

text_no_log : (s : List ℕ) → read_log (116 ∷ 101 ∷ s) ≡ none
unfolding decode read_fields record_of start_of records_of read_log
text_no_log s = refl

-- so a refusal is never taken for a log
pub refused_no_log : (k : ℕ) (why : Why) → read_log (refused_line k why) ≡ none
refused_no_log k why = line_no_log _

pub long_no_log : read_log too_long_line ≡ none
long_no_log = text_no_log _

-- and a log that is written is read as the text says
pub response_read : (text : List ℕ) (l : Log) → parse text ≡ Parsed·log l → read_log (bytes_of l) ≡ some l
response_read text l e = printable_read l (parse_printable text l e)
