-- What `respond` leaves, by the answer of `print_log`. Assumes nothing.
use Prim.Native.Nat.{ℕ, ◌<◌, ◌≤◌}
use mathlib.Core.Path.{◌≡◌, refl, ap}
use mathlib.Core.Bool.{Bool, true, false}
use mathlib.Core.List.{List}
use native.Mathlib.Omega.{arith}
use lib.ListN.{length}
use Rattle.std.specs.Prelude.{Result, Ok, Err}
use Rattle.output.specs.Wrote.{Wrote}
use Rattle.output.specs.Fill.{outcome, Content·bytes, Content·refused, Responded}
use Rattle.output.proofs.Fill.{response-short, Told, responded_done, responded_refused}
use Rattle.log_text.specs.Printing.{Printed, Printed·text, Printed·bad, Printed·tooMany, Printed·tooLong, print}
use Rattle.log_text.proofs.Reading.{text-most}
use Rattle.log_text.proofs.Theorems.{print_read}
use Rattle.log_printer.specs.declared.PrintError.{PrintError}
use Rattle.log_printer.specs.declared.PrintError.TheVariants.{Bad, TooMany, TooLong, NoRoom}
use Rattle.log_printer.specs.Printer.{as_text, print_log}
use Rattle.log_printer.specs.Response.{refusal_line, longest_printed, response_for}

-- no text is too long
printed-most : (log text : List ℕ) → print log ≡ Printed·text text → length text ≤ longest_printed
printed-most log text e = let p = print_read log text e in omega (arith, ap length p.whole, text-most p.source p.fits, p.fits.few)

-- the log is refused
abbrev refuses : Result ℕ PrintError → Bool
refuses (Ok n) = false
refuses (Err (Bad at)) = true
refuses (Err TooMany) = true
refuses (Err TooLong) = true
refuses (Err NoRoom) = false

told : (log : List ℕ) → Told Ok refuses longest_printed (as_text (print log))
told log = record { stored = λ n. refl; refused = refused (print log); most = most (print log) refl }
  where
    refused : (p : Printed) (a : Result ℕ PrintError) → as_text p ≡ Content·refused a → refuses a ≡ true
    refused (Printed·text t) a e = let z : ◌≡◌ {A = ℕ} 0 1 = cc in absurd (omega arith)
    refused (Printed·bad at) a e = let same : Err (Bad at) ≡ a = cc in rw (← same)
    refused Printed·tooMany a e = let same : Err TooMany ≡ a = cc in rw (← same)
    refused Printed·tooLong a e = let same : Err TooLong ≡ a = cc in rw (← same)

    most : (p : Printed) → print log ≡ p → (s : List ℕ) → as_text p ≡ Content·bytes s → length s ≤ longest_printed
    most (Printed·text t) q s e = let same : t ≡ s = cc in rw (← same) (printed-most log t q)
    most (Printed·bad at) q s e = let z : ◌≡◌ {A = ℕ} 0 1 = cc in absurd (omega arith)
    most Printed·tooMany q s e = let z : ◌≡◌ {A = ℕ} 0 1 = cc in absurd (omega arith)
    most Printed·tooLong q s e = let z : ◌≡◌ {A = ℕ} 0 1 = cc in absurd (omega arith)

-- a buffer that is too short for some
pub response-small : (log buf : List ℕ) → length buf < longest_printed → Responded (response_for log buf) buf buf 0
response-small log buf h = response-short longest_printed refusal_line (as_text (print log)) buf h

module _ (log buf : List ℕ) (room : longest_printed ≤ length buf) (after : List ℕ) where
  pub response-text : (n : ℕ) → outcome (Ok n) after ≡ print_log log buf → Responded (response_for log buf) buf after n
  response-text n e =
      let d = responded_done (told log) (Err NoRoom) refusal_line buf room (Ok n) after refl e in
      let size = d.1 in
      let same : n ≡ d.0 = cc in
      rw same d.2

  module _ {last : List ℕ} {end : ℕ} where
    pub response-refused : (a : Result ℕ PrintError) → refuses a ≡ true → outcome a after ≡ print_log log buf → Wrote after 0 (refusal_line a) last end
        → length (refusal_line a) ≤ longest_printed → Responded (response_for log buf) buf last end
    response-refused a k e w h = responded_refused (told log) (Err NoRoom) refusal_line buf room a after k e w h

    pub response_none : outcome (Err NoRoom) after ≡ print_log log buf → Responded (response_for log buf) buf last end
    response_none e = let d = responded_done (told log) (Err NoRoom) refusal_line buf room (Err NoRoom) after refl e in let size = d.1 in let z : ◌≡◌ {A = ℕ} 0 1 = cc in absurd (omega arith)

    pub response-error : (a : PrintError) → outcome (Err a) after ≡ print_log log buf → Wrote after 0 (refusal_line (Err a)) last end → end ≤ 64 → Responded (response_for log buf) buf last end
    response-error (Bad at) e w h = response-refused (Err (Bad at)) refl e w (omega (arith, w.place, h))
    response-error TooMany e w h = response-refused (Err TooMany) refl e w (omega (arith, w.place, h))
    response-error TooLong e w h = response-refused (Err TooLong) refl e w (omega (arith, w.place, h))
    response-error NoRoom e w h = response_none e
