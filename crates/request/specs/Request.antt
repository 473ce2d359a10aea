-- What the tests of a request answer, and a request that none of them refuses.
use Rattle.std.specs.Prelude.{ℕ, ◌≡◌, Bool, true, false, not, cond, ◌&&◌, ◌||◌, List, [], get_or, ltb, eqb, ℤ, Option, None, Result, Ok, Err}
use Rattle.std.proofs.Math.Option as maybe
use Rattle.model.specs.declared.Entry.{Entry}
use Rattle.model.specs.declared.Queue.{Queue}
use Rattle.model.specs.declared.Answer.{Answer}
use Rattle.model.specs.declared.errors.CallError.{CallError}
use Rattle.model.specs.declared.errors.CallError.TheVariants.{UnknownTask, Parameter, AlreadyWaiting}
use Rattle.model.specs.Limits.{waiting, e_tmout}
use Rattle.model.specs.Bytes.{blocks_of}
use Rattle.model.specs.Waiting.{waits, insert}
use Rattle.model.specs.Rules.{Rules, ok_task, need_of, rank_by, rules}
use Rattle.model.specs.Calls.{no_offset, no_place, Request, Reply, plain, decide, deny, ok_limit, is_poll, left_of, entry_of, blocks, goes, grants, joins}
use Rattle.model.specs.Places.{no_entry, entries_of, queue_of, woken_of}
use Rattle.model.specs.Pool.{Stored, stored, view, settled, rules_of, is_sound}
use Rattle.layout.specs.declared.Target.TheVariants as target
use Rattle.layout.specs.declared.Spot.{Spot}
use Rattle.layout.specs.Layout.{seek, sought}
use Rattle.queue.specs.declared.Limit.{Limit}
use Rattle.queue.specs.declared.Limit.TheVariants.{Poll, Left}
use Rattle.state.specs.State.{rules_in, refusal}

abbrev pub request : ℕ → ℕ → ℤ → ℕ → Request
request t n l k = record { task = t; size = n; limit = l; priority = k }

abbrev pub entry : ℕ → ℕ → ℕ → ℕ → Entry
entry t n l k = record { task = t; size = n; left = l; priority = k }

-- the tests of a request but for the last, which refuses a poll
abbrev pub asked : Rules → Request → List Entry → maybe.Option CallError
asked K r q =
    deny (not (ok_task K r.task)) UnknownTask
    (deny (not (K.allowed (entry_of r) && ok_limit r.limit)) Parameter
    (deny (waits r.task q) AlreadyWaiting maybe.none))

abbrev pub judged : maybe.Option CallError → ℤ → Result Limit CallError
judged (maybe.some e) l = Err e
judged maybe.none l = Ok (cond (is_poll l) Poll (Left (left_of l)))

-- a request goes before the head, or there is none
abbrev pub unblocked : ℕ → List Entry → Entry → Bool
unblocked order es e = eqb (get_or es 0 no_entry).task 0 || ltb (rank_by order e) (rank_by order (get_or es 0 no_entry))

-- the run that a request may have: none where it does not go before the head
abbrev pub run_for : ℕ → List Entry → Entry → Option Spot → Option Spot
run_for order es e f = cond (unblocked order es e) f None

-- the answer to a request that is not granted at once
abbrev pub held : Queue → Entry → Bool → Answer
held q e poll =
    cond poll (refusal (plain e_tmout) q)
    (record { code = waiting; offset = no_offset; reason = 0; place = no_place; woken = woken_of []; queue = queue_of q.attributes (insert (rank_by q.attributes.order) e (entries_of q)) })

-- the reply to a request that no test but the last refuses
abbrev pub admitted : Stored → Entry → Bool → Reply Stored
admitted p e poll =
    decide p
    (deny (poll && not (goes (rules_of rules p) (blocks (rules_of rules p)) e (view p))) (plain e_tmout) maybe.none)
    (settled p (cond (goes (rules_of rules p) (blocks (rules_of rules p)) e (view p)) (grants (rules_of rules p) (blocks (rules_of rules p)) e (view p)) (joins (rules_of rules p) (blocks (rules_of rules p)) e (view p))))

-- a sound state, an entry that may be asked for, and what the survey found for its need
pub record Fair (l : List ℕ) (q : Queue) (e : Entry) (f : Option Spot) : Type 0 where
  pub state : is_sound rules (stored l q) ≡ true
  pub task : ok_task (rules_in l q) e.task ≡ true
  pub size : (rules_in l q).allowed e ≡ true
  pub away : waits e.task (entries_of q) ≡ false
  pub run : f ≡ seek (sought (target.Run (need_of q.attributes e.size))) 0 0 (blocks_of l)
