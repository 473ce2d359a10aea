-- What may vary from pool to pool, what is asked of it, and the pools that create makes.
use Rattle.std.specs.Prelude.{ℕ, ◌+◌, ◌-◌, ◌*◌, ◌/◌, ◌%◌, ◌≤◌, ◌<◌, ◌≡◌, Bool, true, cond, ◌&&◌, ◌||◌, List, [], ◌∷◌, leb, eqb}
use Rattle.model.specs.Limits.{most_tasks, longest_pool, lowest_priority, without_kinds, with_kinds, fifo_order, priority_order}
use Rattle.model.specs.Sizes.{kind_for, ok_greatest}
use Rattle.model.specs.Waiting.{Entry, leads, ok_left, with_left}
pub use Rattle.model.specs.declared.Attributes.{Attributes}

-- `valid`: create takes such a pool. `long`: its length. `tasks`: the greatest task number. `allowed`: what an entry may ask (the tests that answer -17,
-- but for the limit). `need`: the size of the block for a size asked. `rank`: the order of the queue, lower first.
pub record Rules : Type 0 where
  pub valid : Bool
  pub long : ℕ
  pub tasks : ℕ
  pub allowed : Entry → Bool
  pub need : ℕ → ℕ
  pub rank : Entry → ℕ

-- what the theorems ask of the rules
pub record Laws (K : Rules) : Type 0 where
  pub long_mod : K.valid ≡ true → K.long % 4 ≡ 0
  pub long_least : K.valid ≡ true → 12 ≤ K.long
  pub long_most : K.valid ≡ true → K.long < 4294967296
  pub tasks_most : K.tasks ≤ most_tasks
  pub need_mod : (e : Entry) → K.allowed e ≡ true → K.need e.size % 4 ≡ 0
  pub need_least : (e : Entry) → K.allowed e ≡ true → 12 ≤ K.need e.size
  pub need_most : K.valid ≡ true → (e : Entry) → K.allowed e ≡ true → K.need e.size ≤ K.long
  pub allowed_left : (l : ℕ) (e : Entry) → K.allowed (with_left l e) ≡ K.allowed e
  pub rank_left : (l : ℕ) (e : Entry) → K.rank (with_left l e) ≡ K.rank e

module _ (K : Rules) where
  abbrev pub ok_task : ℕ → Bool
  ok_task t = leb 1 t && leb t K.tasks

  abbrev pub ok_entry : Entry → Bool
  ok_entry e = ok_task e.task && (K.allowed e && ok_left e.left)

  -- a sound list of entries: at most one for each task, in order
  unfoldable pub queued : List Entry → Bool
  queued [] = true
  queued (x ∷ q) = ok_entry x && (leads K.rank x q && queued q)

-- ---- the pools that create makes

-- lengths are 12 to the greatest, multiples of 4
abbrev pub ok_long : ℕ → Bool
ok_long n = eqb (n % 4) 0 && (leb 12 n && leb n longest_pool)

abbrev pub is_without_kinds : Attributes → Bool
is_without_kinds a = eqb a.kinds without_kinds

-- without kinds no greatest request, with kinds one that the pool has room for, and no other choice
abbrev pub ok_kinds : Attributes → ℕ → Bool
ok_kinds a n = cond (is_without_kinds a) (eqb a.greatest 0) (eqb a.kinds with_kinds && ok_greatest a.greatest n)

-- FIFO or priority
abbrev pub ok_order : ℕ → Bool
ok_order o = eqb o fifo_order || eqb o priority_order

-- what create takes besides a length
abbrev pub ok_attributes : Attributes → ℕ → Bool
ok_attributes a n = ok_order a.order && ok_kinds a n

-- the greatest size that may be asked: N - 8, with kinds the greatest request
abbrev pub most_asked : Attributes → ℕ → ℕ
most_asked a n = cond (is_without_kinds a) (n - 8) a.greatest

-- sizes asked are 1 to this
abbrev pub ok_size : ℕ → ℕ → Bool
ok_size most size = leb 1 size && leb size most

-- priorities are 1 to the lowest, in either order
abbrev pub ok_priority : ℕ → Bool
ok_priority p = leb 1 p && leb p lowest_priority

-- the rank of an entry: its priority where the order is by priority; else all are of one rank, so that who asked first is served first
abbrev pub rank_by : ℕ → Entry → ℕ
rank_by order e = cond (eqb order priority_order) e.priority 0

-- rounded up to a multiple of 4, with kinds to the smallest in use that holds the size
abbrev pub rounded : Attributes → ℕ → ℕ
rounded a size = cond (is_without_kinds a) ((size + 3) / 4 * 4) (kind_for a.greatest size)

-- *Need*: the size rounded, plus 8
abbrev pub need_of : Attributes → ℕ → ℕ
need_of a size = rounded a size + 8

-- the rules of a pool of n bytes made with the attributes a
unfoldable pub rules : Attributes → ℕ → Rules
rules a n =
    record {
      valid = ok_long n && ok_attributes a n;
      long = n;
      tasks = most_tasks;
      allowed = λ e. ok_size (most_asked a n) e.size && ok_priority e.priority;
      need = need_of a;
      rank = rank_by a.order;
    }
