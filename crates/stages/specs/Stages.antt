-- What is gathered of the text of a log, and what is left.
use Rattle.std.specs.Prelude.{ℕ, ◌<◌, ◌≤◌, ◌≡◌, List, [], ◌++◌, length, take, drop, replicate, Option, Some, None, IfSome}
use Rattle.model.specs.declared.Attributes.{Attributes}
use Rattle.model.specs.Pool.{stored}
use Rattle.output.specs.declared.Output.{Output}
use Rattle.output.specs.Puts.{Puts}
use Rattle.call_log.specs.Log.{start, start_of}
use Rattle.transcript.specs.Lines.{longest_line}
use Rattle.transcript.specs.Transcript.{longest_log, records_text, transcript_of}
use Rattle.stages.specs.declared.Rest.{Rest}

-- the bytes of the buffer for text
abbrev pub text_space : ℕ
text_space = 65536

-- the text that is left of a log, with the pool l
abbrev pub pending : List ℕ → List ℕ → Option Rest → List ℕ
pending log l None = []
pending log l (Some r) = records_text 0 r.at r.count (stored l r.queue) (drop r.at log)

-- what is left of a log: no more records than bytes were taken before it
pub record Staged (log : List ℕ) (r : Rest) : Type 0 where
  pub place : r.at ≤ length log
  pub few : r.count ≤ r.at

-- an output for text, in which nothing is gathered
pub record Empty (out : Output) : Type 0 where
  pub space : length out.buffer.now ≡ text_space
  pub start : out.end ≡ 0

-- a stage from which records are taken: at most a line is gathered
pub record Ready (log : List ℕ) (out : Output) (r : Rest) : Type 0 where
  pub short_log : length log ≤ longest_log
  pub space : length out.buffer.now ≡ text_space
  pub stage : Staged log r
  pub line : out.end ≤ longest_line

-- the text of the log, on a pool with the attributes that the queue keeps, is what is gathered, and then what is left
abbrev pub Begun : List ℕ → List ℕ → Output → Rest → Type 0
Begun log l out r = transcript_of r.queue.attributes log ≡ take out.end out.buffer.now ++ pending log l (Some r)

-- the pool's length and order as the log has them, the place behind them, and a pool of zeros
pub record Lent (log : List ℕ) (out : Output) (place : ℕ) (a : Attributes) (l : List ℕ) : Type 0 where
  pub short_log : length log ≤ longest_log
  pub empty : Empty out
  pub first : start_of log ≡ start (length l) a.order place
  pub zeros : l ≡ replicate (length l) 0

-- From what is left of a log, r, to what is left behind a stage, s: the text that was left is what was written, and then what is left now. A stage takes
-- a record, and its text lies within the buffer.
pub record Played (log : List ℕ) (r : Rest) (l : List ℕ) (out : Output) (l' : List ℕ) (out' : Output) (s : Option Rest) : Type 0 where
  pub written : List ℕ
  pub text : Puts out written out'
  pub rest : pending log l (Some r) ≡ written ++ pending log l' s
  pub within : out'.end ≤ text_space
  pub stage : IfSome s (Staged log)
  pub further : IfSome s (λ r'. r.at < r'.at)
