-- The calls on a state as its caller keeps it, the pool's bytes and the queue's places: what the public functions promise.
use Rattle.std.specs.Prelude.{ℕ, ◌+◌, ◌-◌, ◌<◌, ◌≡◌, Bool, not, ◌&&◌, List, [], ◌∷◌, length, get_or}
use Rattle.std.proofs.Math.Option.{none}
pub use Rattle.model.specs.declared.Answer.{Answer}
pub use Rattle.model.specs.declared.Totals.{Totals}
use Rattle.model.specs.Limits.{most_tasks, without_kinds, fifo_order, priority_order, e_ok, e_par}
use Rattle.model.specs.Blocks.{Block, block, live_count}
use Rattle.model.specs.Bytes.{blocks_of, render, erase}
use Rattle.model.specs.Waiting.{Entry, place_in}
use Rattle.model.specs.Rules.{Rules, Attributes, rules}
use Rattle.model.specs.Calls.{Call, inquire, no_offset, Said, Reply, State, state, says, plain, decide, deny, blocks, sound, verdict, act}
use Rattle.model.specs.Places.{Queue, tidy, entries_of, queue_of, woken_of}

pub record Stored : Type 0 where
  pub bytes : List ℕ
  pub queue : Queue

abbrev pub stored : List ℕ → Queue → Stored
stored l q = record { bytes = l; queue = q }

-- the attributes of a pool without choices, and of the queue that a refused create hands out
abbrev pub defaults : Attributes
defaults = record { kinds = without_kinds; greatest = 0; order = fifo_order }

-- what the types of the code say of a state: bytes are below 256, and the queue has its places
pub record Typed (p : Stored) : Type 0 where
  pub byte : (i : ℕ) → get_or p.bytes i 0 < 256
  pub places : length p.queue.entries ≡ most_tasks

-- the pools of either order
abbrev pub Fifo : Stored → Type 0
Fifo p = p.queue.attributes.order ≡ fifo_order

abbrev pub ByPriority : Stored → Type 0
ByPriority p = p.queue.attributes.order ≡ priority_order

-- the block list and the entries
unfoldable pub view : Stored → State (List Block)
view p = state (blocks_of p.bytes) (entries_of p.queue)

abbrev pub waiters : Stored → List Entry
waiters p = entries_of p.queue

-- With L live blocks and the task t at place k of the queue: L + k - 1, the successful releases within which its wait ends.
abbrev pub wait_bound : Stored → ℕ → ℕ
wait_bound p t = live_count (blocks_of p.bytes) + place_in t (waiters p) - 1

-- After a call, headers of the old block list are erased and those of the new one written: new headers stand in their places, swallowed ones are
-- zero, every other byte is kept.
abbrev pub settled : Stored → Reply (State (List Block)) → Reply Stored
settled p r = record { said = r.said; state = stored (render r.state.pool (erase (blocks_of p.bytes) p.bytes)) (queue_of p.queue.attributes r.state.queue) }

module _ (K : Rules) where
  unfoldable pub sound_by : Stored → Bool
  sound_by p = sound K (blocks K) (view p) && tidy p.queue.entries

  unfoldable pub perform_by : Call → Stored → Reply Stored
  perform_by c p = decide p (verdict K (blocks K) (sound_by p) c (view p)) (settled p (act K (blocks K) c (view p)))

-- the rules come from what the queue keeps and the pool's length
module _ (R : Attributes → ℕ → Rules) where
  abbrev pub rules_of : Stored → Rules
  rules_of p = R p.queue.attributes (length p.bytes)

  abbrev pub is_sound : Stored → Bool
  is_sound p = sound_by (rules_of p) p

  -- any call but create
  abbrev pub perform : Call → Stored → Reply Stored
  perform c p = perform_by (rules_of p) c p

  -- create: one free run of all bytes at 0, every other byte kept, and an empty queue that keeps the attributes; zeros where it is refused
  unfoldable pub create : Attributes → List ℕ → Reply Stored
  create a l =
      decide (stored l (queue_of defaults []))
      (deny (not (R a (length l)).valid) (plain e_par) none)
      (record { said = says e_ok no_offset []; state = stored (render (block (length l) 0 ∷ []) l) (queue_of a []) })

-- ---- what the public functions answer, with the bytes that they leave

pub record Result : Type 0 where
  pub answer : Answer
  pub bytes : List ℕ

abbrev pub result_of : Answer → List ℕ → Result
result_of a l = record { answer = a; bytes = l }

abbrev pub answered : Reply Stored → Result
answered r =
    result_of
    (record { code = r.said.code; offset = r.said.offset; reason = r.said.reason; place = r.said.place; woken = woken_of r.said.woken; queue = r.state.queue })
    r.state.bytes

abbrev pub created : Attributes → List ℕ → Result
created a l = answered (create rules a l)

abbrev pub called : Call → List ℕ → Queue → Result
called c l q = answered (perform rules c (stored l q))

abbrev pub totals : Said → Totals
totals a = record { code = a.code; sum = a.sum; greatest = a.greatest; head = a.head }

abbrev pub inquired : List ℕ → Queue → Totals
inquired l q = totals (perform rules inquire (stored l q)).said
