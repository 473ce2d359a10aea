-- The places of the queue and of the woken list, unused ones all zeros.
use Rattle.std.specs.Prelude.{ℕ, zero, suc, Bool, true, cond, ◌&&◌, List, [], ◌∷◌, eqb, pos}
pub use Rattle.model.specs.declared.Queue.{Queue}
use Rattle.model.specs.Limits.{most_tasks}
use Rattle.model.specs.Waiting.{Entry}
use Rattle.model.specs.Rules.{Attributes}
use Rattle.model.specs.Calls.{Woken, no_offset}

abbrev pub no_entry : Entry
no_entry = record { task = 0; size = 0; left = 0; priority = 0 }

abbrev pub no_woken : Woken
no_woken = record { task = 0; code = pos 0; offset = no_offset }

-- the list in n places, d in the unused ones behind it
unfoldable pub pad : {A : Type 0} → A → ℕ → List A → List A
pad d zero xs = []
pad d (suc n) [] = d ∷ pad d n []
pad d (suc n) (x ∷ xs) = x ∷ pad d n xs

-- the entries: those before the first place with task 0
unfoldable pub used : List Entry → List Entry
used [] = []
used (e ∷ r) = cond (eqb e.task 0) [] (e ∷ used r)

abbrev pub is_unused : Entry → Bool
is_unused e = eqb e.task 0 && (eqb e.size 0 && (eqb e.left 0 && eqb e.priority 0))

unfoldable pub all_unused : List Entry → Bool
all_unused [] = true
all_unused (e ∷ r) = is_unused e && all_unused r

-- places past the last entry are all zeros
unfoldable pub tidy : List Entry → Bool
tidy [] = true
tidy (e ∷ r) = cond (eqb e.task 0) (all_unused (e ∷ r)) (tidy r)

abbrev pub entries_of : Queue → List Entry
entries_of q = used q.entries

abbrev pub queue_of : Attributes → List Entry → Queue
queue_of a es = record { attributes = a; entries = pad no_entry most_tasks es }

abbrev pub woken_of : List Woken → List Woken
woken_of ws = pad no_woken most_tasks ws
