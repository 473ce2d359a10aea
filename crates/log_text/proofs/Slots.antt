-- Laws of the slots of a line. Assumes nothing.
use Prim.Native.Nat.{ℕ, zero, suc, ◌≤◌}
use mathlib.Core.Path.{◌≡◌, refl}
use mathlib.Core.List.{[], ◌∷◌}
use native.Mathlib.Omega.{arith}
use lib.ListN.{length, get_or}
use Rattle.log_text.specs.declared.Keyword.{Keyword}
use Rattle.log_text.specs.declared.Keyword.TheVariants.{Pool, Get, Poll, Release, Cancel, Tick, Unknown}
use Rattle.log_text.specs.declared.Slot.TheVariants.{Number}
use Rattle.log_text.specs.Form.{form}

-- a line has at most four slots
pub form-few : (k : Keyword) → length (form k) ≤ 4
form-few Pool = omega arith
form-few Get = omega arith
form-few Poll = omega arith
form-few Release = omega arith
form-few Cancel = omega arith
form-few Tick = omega arith
form-few Unknown = omega arith

-- a list of one number, and numbers in front
pub slot_one : (i : ℕ) → Number ≡ get_or (Number ∷ []) i Number
slot_one zero = refl
slot_one (suc i) = refl

pub slot_order : (i : ℕ) → (i ≡ 1 → ⊥) → Number ≡ get_or (form Pool) i Number
slot_order zero h = refl
slot_order (suc zero) h = absurd (h refl)
slot_order (suc (suc i)) h = refl

pub slot_poll : (i : ℕ) → (i ≡ 2 → ⊥) → Number ≡ get_or (form Poll) i Number
slot_poll zero h = refl
slot_poll (suc zero) h = refl
slot_poll (suc (suc zero)) h = absurd (h refl)
slot_poll (suc (suc (suc i))) h = refl

pub slot_get : (i : ℕ) → (i ≡ 2 → ⊥) → (i ≡ 3 → ⊥) → Number ≡ get_or (form Get) i Number
slot_get zero h k = refl
slot_get (suc zero) h k = refl
slot_get (suc (suc zero)) h k = absurd (h refl)
slot_get (suc (suc (suc zero))) h k = absurd (k refl)
slot_get (suc (suc (suc (suc i)))) h k = refl
