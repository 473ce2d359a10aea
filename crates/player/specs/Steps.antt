-- What a step of a log does: the state and the text that the call of one record leaves.
use Rattle.std.specs.Prelude.{ℕ, ◌+◌, ◌*◌, ◌≤◌, ◌≡◌, List, [], Some, None, Ok, Err}
use Rattle.model.specs.declared.Queue.{Queue}
use Rattle.model.specs.Limits.{most_tasks}
use Rattle.model.specs.Rules.{rules}
use Rattle.model.specs.Calls.{Reply}
use Rattle.model.specs.Pool.{Stored, stored, perform}
use Rattle.output.specs.declared.Output.{Output}
use Rattle.output.specs.Puts.{Puts}
use Rattle.call_log.specs.declared.Record.{Record}
use Rattle.call_log.specs.Record.{Read}
use Rattle.transcript.specs.Lines.{end_line, bad_line, longest_answer, longest_line}
use Rattle.transcript.specs.Transcript.{call_of, answer_text}

-- the reply to the call of a record
abbrev pub reply_to : Record → List ℕ → Queue → Reply Stored
reply_to r l q = perform rules (call_of r) (stored l q)

-- the line behind the records, where no record stands at the place `at` of the log
abbrev pub last_text : Read → (at count : ℕ) → List ℕ
last_text (Ok None) at count = end_line count
last_text (Err e) at count = bad_line at
last_text (Ok (Some t)) at count = []

-- the most bytes of the text of a step: the line of the answer and a line for each task
abbrev pub longest_step : ℕ
longest_step = longest_answer + most_tasks * longest_line

-- A step from the pool l and the queue q, its text written to `out`: the pool and queue that it leaves are those of the reply, and the text is that of
-- what the reply tells.
pub record Stepped (l : List ℕ) (q : Queue) (r : Record) (out : Output) (l' : List ℕ) (out' : Output) (q' : Queue) : Type 0 where
  pub state : stored l' q' ≡ (reply_to r l q).state
  pub text : Puts out (answer_text (reply_to r l q).said) out'
  pub short : out'.end ≤ out.end + longest_step
