-- Laws of a text in front of another. Assumes nothing.
use Prim.Native.Nat.{ℕ, ◌+◌}
use mathlib.Core.Path.{◌≡◌, refl}
use mathlib.Core.Bool.{true}
use mathlib.Core.List.{List, ◌++◌}
use native.Mathlib.Omega.{arith}
use native.Mathlib.Nat.{add_assoc}
use lib.ListN.{length, length-append}
use Rattle.log_text.specs.Printing.{Printed, Printed·text, Printed·bad, Printed·tooMany, Printed·tooLong, in_front}
use Rattle.log_printer.specs.Steps.{measured, is_text, text_in}

module _ (s : List ℕ) where
  pub measured_front : (m : ℕ) (x : Printed) → measured m (in_front s x) ≡ measured (m + length s) x
  measured_front m (Printed·text t) = rw (length-append s t, add_assoc m (length s) (length t))
  measured_front m (Printed·bad at) = refl
  measured_front m Printed·tooMany = refl
  measured_front m Printed·tooLong = refl

  pub text_front : (x : Printed) → is_text (in_front s x) ≡ true → (is_text x ≡ true) × (text_in (in_front s x) ≡ s ++ text_in x)
  text_front (Printed·text t) h = (refl, refl)
  text_front (Printed·bad at) h = let z : ◌≡◌ {A = ℕ} 0 1 = cc in absurd (omega arith)
  text_front Printed·tooMany h = let z : ◌≡◌ {A = ℕ} 0 1 = cc in absurd (omega arith)
  text_front Printed·tooLong h = let z : ◌≡◌ {A = ℕ} 0 1 = cc in absurd (omega arith)
