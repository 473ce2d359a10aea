-- The waiting queue as the list of its entries: who waits, who joins, who leaves, and a tick.
use Rattle.std.specs.Prelude.{ℕ, ◌+◌, ◌-◌, Bool, true, false, not, cond, ◌&&◌, ◌||◌, List, [], ◌∷◌, leb, eqb}
use Rattle.std.proofs.Math.Option.{Option, none, some}
use Rattle.model.specs.Limits.{longest_left, forever}
pub use Rattle.model.specs.declared.Entry.{Entry}

-- the task t waits
unfoldable pub waits : ℕ → List Entry → Bool
waits t [] = false
waits t (e ∷ q) = eqb e.task t || waits t q

-- the entry of the task t, if it waits
unfoldable pub entry_in : ℕ → List Entry → Option Entry
entry_in t [] = none
entry_in t (e ∷ q) = cond (eqb e.task t) (some e) (entry_in t q)

-- the place in the queue of the task t, if it waits; the head's is 1
unfoldable pub place_in : ℕ → List Entry → ℕ
place_in t [] = 0
place_in t (e ∷ q) = cond (eqb e.task t) 1 (1 + place_in t q)

-- the queue without the entry of the task t
unfoldable pub remove : ℕ → List Entry → List Entry
remove t [] = []
remove t (e ∷ q) = cond (eqb e.task t) q (e ∷ remove t q)

unfoldable pub head_task : List Entry → ℕ
head_task [] = 0
head_task (e ∷ q) = e.task

-- ---- the order: a lower rank is served first, equal ranks by who asked first

module _ (rank : Entry → ℕ) where
  -- a newcomer stands behind those of lower or equal rank
  unfoldable pub insert : Entry → List Entry → List Entry
  insert e [] = e ∷ []
  insert e (x ∷ q) = cond (leb (rank x) (rank e)) (x ∷ insert e q) (e ∷ x ∷ q)

  -- somebody of lower or equal rank waits, who is served before a newcomer of rank r
  unfoldable pub blocked : ℕ → List Entry → Bool
  blocked r [] = false
  blocked r (x ∷ q) = leb (rank x) r || blocked r q

  -- x stands before each of the others: another task, and no higher rank
  unfoldable pub leads : Entry → List Entry → Bool
  leads x [] = true
  leads x (y ∷ q) = (not (eqb y.task x.task) && leb (rank x) (rank y)) && leads x q

-- ---- time

-- a time left that may stand in an entry: forever, or 1 to the greatest
abbrev pub ok_left : ℕ → Bool
ok_left l = leb 1 l && (leb l longest_left || eqb l forever)

-- the entry with another time left
abbrev pub with_left : ℕ → Entry → Entry
with_left l e = record { task = e.task; size = e.size; left = l; priority = e.priority }

-- a tick ends the wait
abbrev pub expires : Entry → Bool
expires e = eqb e.left 1

-- a tick takes one from a limited wait
abbrev pub aged : Entry → Entry
aged e = with_left (cond (eqb e.left forever) forever (e.left - 1)) e

-- the tasks whose wait a tick ends, in queue order
unfoldable pub expired : List Entry → List ℕ
expired [] = []
expired (e ∷ q) = cond (expires e) (e.task ∷ expired q) (expired q)

-- the entries that stay, each a tick older
unfoldable pub remaining : List Entry → List Entry
remaining [] = []
remaining (e ∷ q) = cond (expires e) (remaining q) (aged e ∷ remaining q)
