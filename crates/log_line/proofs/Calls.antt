-- Laws of the calls and the order that arguments say. Assumes nothing.
use Prim.Native.Nat.{ℕ, zero, suc, ◌-◌}
use mathlib.Core.Path.{◌≡◌, refl}
use native.Mathlib.Omega.{arith}
use lib.IntN.{ℤ}
use Rattle.model.specs.Limits.{priority_order}
use Rattle.call_log.specs.declared.Record.TheVariants.{PriorityGet, PriorityPoll}
use Rattle.log_text.specs.Reading.{get_with, poll_with, order_with}

-- an option that is there
pub order-some : (n : ℕ) → (n ≡ 0 → ⊥) → priority_order ≡ order_with n
order-some zero h = absurd (h refl)
order-some (suc n) h = refl

pub poll-some : (task size p : ℕ) → (p ≡ 0 → ⊥) → PriorityPoll task size (p - 1) ≡ poll_with task size p
poll-some task size zero h = absurd (h refl)
poll-some task size (suc p) h = let e : suc p - 1 ≡ p = omega arith in rw e

pub get-some : (task size : ℕ) (limit : ℤ) (p : ℕ) → (p ≡ 0 → ⊥) → PriorityGet task size limit (p - 1) ≡ get_with task size limit p
get-some task size limit zero h = absurd (h refl)
get-some task size limit (suc p) h = let e : suc p - 1 ≡ p = omega arith in rw e
