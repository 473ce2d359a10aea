-- What the functions of the queue answer, over its entries.
use Rattle.std.specs.Prelude.{ℕ, suc, Bool, cond, ◌&&◌, List, [], ◌∷◌, ◌++◌, eqb, ℤ, length, take, drop, Option, Some, None}
use Rattle.queue.specs.declared.Ticked.{Ticked}
use Rattle.queue.specs.declared.Limit.{Limit}
use Rattle.queue.specs.declared.Limit.TheVariants.{Poll, Left}
use Rattle.model.specs.declared.Attributes.{Attributes}
use Rattle.model.specs.declared.Entry.{Entry}
use Rattle.model.specs.Limits.{most_tasks, e_tmout}
use Rattle.model.specs.Waiting.{waits, expired, remaining}
use Rattle.model.specs.Rules.{queued, rules}
use Rattle.model.specs.Calls.{ok_limit, is_poll, left_of, leave}
use Rattle.model.specs.Places.{no_entry, pad, used, tidy, woken_of}

-- the places of a sound queue over a pool of n bytes with the attributes a
abbrev pub sound_queue : Attributes → ℕ → List Entry → Bool
sound_queue a n es = queued (rules a n) (used es) && tidy es

-- ---- who waits

-- the place of the first entry of the task t, counted from 0
unfoldable pub place : ℕ → List Entry → ℕ
place t [] = 0
place t (e ∷ q) = cond (eqb e.task t) 0 (suc (place t q))

-- the place of the task's entry, if it waits
abbrev pub found : ℕ → List Entry → Option ℕ
found t q = cond (waits t q) (Some (place t q)) None

-- ---- who joins and who leaves

-- the entries without the one at place i
abbrev pub without : ℕ → List Entry → List Entry
without i q = take i q ++ drop (suc i) q

-- ---- time

-- what a tick leaves of the queue, whom it wakes, and how many those are
abbrev pub ticked_of : List Entry → Ticked
ticked_of es =
    record {
      entries = pad no_entry most_tasks (remaining (used es));
      woken = woken_of (leave e_tmout (expired (used es)));
      count = length (expired (used es));
    }

-- what a time limit asks for
abbrev pub limit_of : ℤ → Option Limit
limit_of l = cond (ok_limit l) (Some (cond (is_poll l) Poll (Left (left_of l)))) None
