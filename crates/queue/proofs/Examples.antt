-- Time limits at their bounds, a sound queue and each kind of damage to it, by computation. Assumes nothing.
use Prim.Native.Nat.{ℕ}
use mathlib.Core.Path.{◌≡◌, refl}
use mathlib.Core.Bool.{Bool, true, false}
use mathlib.Core.List.{List, [], ◌∷◌, map}
use lib.IntN.{pos}
use Rattle.model.specs.declared.Entry.{Entry}
use Rattle.model.specs.Limits.{most_tasks, lowest_priority, forever, minus}
use Rattle.model.specs.Waiting.{leads}
use Rattle.model.specs.Rules.{queued, rules}
use Rattle.model.specs.Places.{no_entry, pad, used, all_unused, tidy}
use Rattle.model.specs.Pool.{defaults}
use Rattle.std.specs.Prelude.{Some, None}
use Rattle.queue.specs.declared.Limit.TheVariants.{Poll, Left}
use Rattle.queue.specs.Entries.{sound_queue, limit_of}

pub limits : map limit_of (minus 2 ∷ minus 1 ∷ pos 0 ∷ pos 1 ∷ pos 2147483647 ∷ []) ≡ (None ∷ Some (Left forever) ∷ Some Poll ∷ Some (Left 2) ∷ Some (Left 2147483648) ∷ [])
limits = refl

abbrev entry : ℕ → ℕ → ℕ → Entry
entry t n l = record { task = t; size = n; left = l; priority = lowest_priority }

-- the queue of a pool of 64 bytes
abbrev sound64 : List Entry → Bool
sound64 es = sound_queue defaults 64 (pad no_entry most_tasks es)

-- the empty queue, and one with each bound
pub sound_queues : map sound64 ([] ∷ (entry 1 1 1 ∷ entry 32 56 2147483648 ∷ entry 7 20 forever ∷ []) ∷ []) ≡ (true ∷ true ∷ [])
unfolding leads queued rules pad used all_unused tidy
sound_queues = refl

-- a task above 32, one that stands twice; a size of 0, one above N - 8; no time left, one too long; numbers in an unused place, an entry behind one
abbrev damaged : List (List Entry)
damaged =
    (entry 33 20 1 ∷ [])
    ∷ (entry 7 20 1 ∷ entry 8 20 1 ∷ entry 7 4 2 ∷ [])
    ∷ (entry 7 0 1 ∷ [])
    ∷ (entry 7 57 1 ∷ [])
    ∷ (entry 7 20 0 ∷ [])
    ∷ (entry 7 20 2147483649 ∷ [])
    ∷ (entry 7 20 1 ∷ entry 0 0 1 ∷ [])
    ∷ (entry 0 0 0 ∷ entry 7 20 1 ∷ [])
    ∷ []

pub damaged_queues : map sound64 damaged ≡ map (λ es. false) damaged
unfolding leads queued rules pad used all_unused tidy
damaged_queues = refl
