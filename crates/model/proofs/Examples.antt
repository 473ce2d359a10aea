-- Demand 3, timeouts, the wait bound and the order at work on the states of the table. Assumes nothing.
use Prim.Native.Nat.{ℕ, zero, suc, ◌≤◌}
use mathlib.Core.Path.{◌≡◌, refl}
use mathlib.Core.Bool.{true}
use mathlib.Core.List.{List, [], ◌∷◌}
use mathlib.Core.Option.{none}
use native.Mathlib.Omega.{arith}
use lib.Dec.{ltb}
use lib.IntN.{pos}
use borrow.Author.Tests.{ltb-true}
use Rattle.model.specs.Limits.{minus}
use Rattle.model.specs.Rules.{rules}
use Rattle.model.specs.Calls.{Request, Call, get}
use Rattle.model.specs.Runs.{after, run, end_code, Spared, releases, NoneBetter, Absent, Others, Ranked}
use Rattle.model.specs.Demands.{NoTrace, undo, Undone, Timeout, StaysBehind, EndsWithin}
use Rattle.model.specs.Pool.{Typed, waiters, perform}
use Rattle.model.proofs.Table.{below, state_c, state_e, asks, ask, ask_for, state-limited, two_ticks, met, state-kinds, with_size, kinds_hold, by_priority_c, waits_3, priorities_hold}
use Rattle.model.proofs.Tests.{and_l, and_r}
use Rattle.model.proofs.Bytes.{Bytes}
use Rattle.model.proofs.Fates.{spared_none}
use Rattle.model.proofs.Theorems.{fifo_cancel_no_trace, pool_cancel_no_trace, pool_release_undoes, pool_timeout, pool_never_passed, fifo_wait_bound, pool_wait_bound}

below_bytes : (l : List ℕ) → below l ≡ true → Bytes l
unfolding below
below_bytes [] h i = omega arith
below_bytes (x ∷ l) h zero = ltb-true x 256 (and_l (ltb x 256) (below l) h)
below_bytes (x ∷ l) h (suc i) = below_bytes l (and_r (ltb x 256) (below l) h) i

-- task 4 would be granted, task 5 would wait, task 40 is out of range
abbrev others : List Request
others = ask 4 4 ∷ ask 5 4 ∷ ask 40 4 ∷ []

typed_c : Typed state_c
typed_c = record { byte = below_bytes state_c.bytes met.bytes_c; places = met.places_c }

never_zero : minus 1 ≡ pos 0 → ⊥
never_zero e = let z : ◌≡◌ {A = ℕ} 0 1 = cc in omega arith

others_3 : Others 3 others
unfolding Others Absent
others_3 = (
  λ e. omega (arith, e),
  never_zero,
  (λ e. omega (arith, e), (λ e. omega (arith, e), tt)),
  (
    λ e. omega (arith, e),
    never_zero,
    (λ e. omega (arith, e), tt),
    (λ e. omega (arith, e), never_zero, tt, tt),
  ),
)

pub no_trace_c : NoTrace (perform rules) state_c (ask 3 12) others
no_trace_c = fifo_cancel_no_trace state_c (ask 3 12) others met.fifo_c met.sound_c typed_c met.told others_3

pub undone_c : Undone state_c (undo (perform rules) state_c (ask 3 4))
undone_c = pool_release_undoes state_c (ask 3 4) met.sound_c typed_c met.granted

-- in a pool with kinds: task 4 would wait too, and task 5 asks for more than the greatest request
abbrev others_kinds : List Request
others_kinds = ask 4 12 ∷ ask 5 21 ∷ []

typed_kinds : Typed state-kinds
typed_kinds = record { byte = below_bytes state-kinds.bytes kinds_hold.bytes; places = kinds_hold.places }

pub no_trace_kinds : NoTrace (perform rules) state-kinds (ask 3 20) others_kinds
unfolding Others Absent
no_trace_kinds =
    fifo_cancel_no_trace state-kinds (ask 3 20) others_kinds refl kinds_hold.good typed_kinds kinds_hold.told
    (λ e. omega (arith, e), never_zero, (λ e. omega (arith, e), tt), (λ e. omega (arith, e), never_zero, tt, tt))

-- ---- timeouts

-- task 3 waits with a limit of 2, and two ticks follow with other calls between
pub timeout_c : Timeout (perform rules) waiters state-limited 3 2 two_ticks
timeout_c = pool_timeout state_c (ask_for 3 12 2) 2 two_ticks met.sound_c refl met.told-limited (spared_none 3 (run (perform rules) state-limited two_ticks) met.spared)

-- the greatest limit, in every run
pub longest_c : (cs : List Call) → Spared 3 (run (perform rules) (perform rules (get (ask_for 3 12 2147483647)) state_c).state cs)
    → Timeout (perform rules) waiters (perform rules (get (ask_for 3 12 2147483647)) state_c).state 3 2147483647 cs
longest_c cs = pool_timeout state_c (ask_for 3 12 2147483647) 2147483647 cs met.sound_c refl met.told-longest

-- ---- the wait bound

-- after e, the wait of task 4 ends at the latest in the third successful release of any run
pub bound_e : (cs : List Call) → 3 ≤ releases (run (perform rules) state_e cs) → EndsWithin (perform rules) state_e 4 3 cs
bound_e cs = rw met.bound_e at (fifo_wait_bound state_e 4 cs met.fifo_e met.sound_e met.waits_e)

-- in the pool with kinds, that of task 3 at the latest in the second
pub bound_kinds : (cs : List Call) → 2 ≤ releases (run (perform rules) (with_size 20) cs) → EndsWithin (perform rules) (with_size 20) 3 2 cs
bound_kinds cs = rw kinds_hold.bound at (fifo_wait_bound (with_size 20) 3 cs refl kinds_hold.good_20 kinds_hold.waits_3)

-- ---- the order by priority

-- task 3 asks with priority 9, and so do task 4, which would be granted, and task 5, which would wait
abbrev others_equal : List Request
others_equal = asks 9 4 4 ∷ asks 9 5 12 ∷ []

typed_priority : Typed (by_priority_c [])
typed_priority = record { byte = below_bytes (by_priority_c []).bytes priorities_hold.bytes; places = priorities_hold.places }

typed_waits_3 : Typed (by_priority_c waits_3)
typed_waits_3 = record { byte = below_bytes (by_priority_c waits_3).bytes priorities_hold.bytes; places = priorities_hold.places_3 }

pub no_trace_priority : NoTrace (perform rules) (by_priority_c []) (asks 9 3 12) others_equal
unfolding Others Absent Ranked
no_trace_priority =
    pool_cancel_no_trace (by_priority_c []) (asks 9 3 12) others_equal priorities_hold.good typed_priority priorities_hold.told
    (λ e. omega (arith, e), never_zero, (λ e. omega (arith, e), tt), (λ e. omega (arith, e), never_zero, tt, tt))
    (refl, (refl, tt))

-- a block got past task 3 and released at once: it still waits, and nobody is woken
pub undone_priority : Undone (by_priority_c waits_3) (undo (perform rules) (by_priority_c waits_3) (asks 1 4 4))
undone_priority = pool_release_undoes (by_priority_c waits_3) (asks 1 4 4) priorities_hold.good_3 typed_waits_3 priorities_hold.passes_3

-- task 3 asked with priority 9: as long as it waits, in every run, task 4 with priority 9 stays behind it
pub behind-priority : (cs ds : List Call) → end_code 3 (run (perform rules) (perform rules (get (asks 9 3 12)) (by_priority_c [])).state cs) ≡ none
    → StaysBehind (perform rules) (after (perform rules) (perform rules (get (asks 9 3 12)) (by_priority_c [])).state cs) 3 (asks 9 4 4) ds
behind-priority cs ds e = pool_never_passed (by_priority_c []) (asks 9 3 12) cs (asks 9 4 4) ds priorities_hold.good priorities_hold.told e (omega arith)

-- its wait ends at the latest in the second successful release of any run in which nobody of better priority asks
pub bound_priority : (cs : List Call) → NoneBetter 3 9 (run (perform rules) (by_priority_c waits_3) cs) → 2 ≤ releases (run (perform rules) (by_priority_c waits_3) cs)
    → EndsWithin (perform rules) (by_priority_c waits_3) 3 2 cs
bound_priority cs b = rw priorities_hold.bound_3 at (pool_wait_bound (by_priority_c waits_3) 3 _ cs priorities_hold.good_3 priorities_hold.here_3 b)
