-- The whole text of a log: what a program writes that makes the calls of the log on a pool of zeros with given attributes and the order that the log says.
use Rattle.std.specs.Prelude.{ℕ, zero, suc, ◌+◌, ◌-◌, List, [], ◌∷◌, ◌++◌, true, false, leb, length, replicate, Option, Some, None, Ok, Err}
use Rattle.model.specs.declared.Attributes.{Attributes}
use Rattle.model.specs.declared.Woken.{Woken}
use Rattle.model.specs.Limits.{lowest_priority}
use Rattle.model.specs.Rules.{rules}
use Rattle.model.specs.Calls.{Call, get, poll, release, cancel, tick, Said, Reply}
use Rattle.model.specs.Runs.{Turn}
use Rattle.model.specs.Pool.{Stored, perform, create}
use Rattle.call_log.specs.declared.Record.{Record}
use Rattle.call_log.specs.declared.Record.TheVariants.{Get, Poll, Release, Cancel, Tick, PriorityGet, PriorityPoll}
use Rattle.call_log.specs.declared.Start.{Start}
use Rattle.call_log.specs.Record.{record_of}
use Rattle.call_log.specs.Log.{start_of}
use Rattle.transcript.specs.Lines.{pool_line, answer_line, woken_line, end_line, bad_line, refused_line, too_long_line}

-- the most bytes of a log
abbrev pub longest_log : ℕ
longest_log = 65536

-- the call that a record stands for; a get or poll without a priority has the lowest
abbrev pub call_of : Record → Call
call_of (Get task size limit) = get (record { task = task; size = size; limit = limit; priority = lowest_priority })
call_of (Poll task size) = poll task size lowest_priority
call_of (PriorityGet task size limit priority) = get (record { task = task; size = size; limit = limit; priority = priority })
call_of (PriorityPoll task size priority) = poll task size priority
call_of (Release offset) = release (record { 0 = offset })
call_of (Cancel task) = cancel task
call_of Tick = tick

-- a line for each woken task
unfoldable pub woken_text : List Woken → List ℕ
woken_text [] = []
woken_text (w ∷ ws) = woken_line w.task w.code w.offset.0 ++ woken_text ws

-- the line of an answer, and under it those of the woken tasks
unfoldable pub answer_text : Said → List ℕ
answer_text a = answer_line a.code a.offset.0 ++ woken_text a.woken

-- The text of the rest of a log, from the place `at` on: its first `skip` bytes are passed over, `count` records were taken before, and p is the pool.
unfoldable pub records_text : (skip at count : ℕ) → Stored → List ℕ → List ℕ
records_text skip at count p [] = end_line count
records_text (suc n) at count p (b ∷ s) = records_text n (at + 1) count p s
records_text zero at count p (b ∷ s) =
    elim (record_of (b ∷ s)) [
      | Ok (Some t) ↦
          answer_text (perform rules (call_of t.record) p).said
          ++ records_text (t.size - 1) (at + 1) (count + 1) (perform rules (call_of t.record) p).state s
      | Ok None ↦ end_line count
      | Err e ↦ bad_line at
    ]

-- the pool that is created of n zeros
abbrev pub fresh_pool : Attributes → ℕ → Reply Stored
fresh_pool a n = create rules a (replicate n 0)

-- the attributes with another order
abbrev pub with_order : ℕ → Attributes → Attributes
with_order o a = record { kinds = a.kinds; greatest = a.greatest; order = o }

-- the text after the pool's length and order have been read. Create refuses where the length or the attributes are not valid.
unfoldable pub pool_text : Attributes → Option Start → List ℕ → List ℕ
pool_text a None log = bad_line 0
pool_text a (Some s) log =
    elim (rules (with_order s.order a) s.length).valid [
      | true ↦ pool_line s.length ++ records_text s.size 0 0 (fresh_pool (with_order s.order a) s.length).state log
      | false ↦ refused_line
    ]

-- the text that is written for a log on a pool with the attributes a but for the order, which the log says
unfoldable pub transcript_of : Attributes → List ℕ → List ℕ
transcript_of a log = elim (leb (length log) longest_log) [ true ↦ pool_text a (start_of log) log | false ↦ too_long_line ]

-- ---- runs

-- the calls of records
unfoldable pub calls_of : List Record → List Call
calls_of [] = []
calls_of (r ∷ rs) = call_of r ∷ calls_of rs

-- the text of a run
unfoldable pub turns_text : List Turn → List ℕ
turns_text [] = []
turns_text (x ∷ xs) = answer_text x.said ++ turns_text xs
