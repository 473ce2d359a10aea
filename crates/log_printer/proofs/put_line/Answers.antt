-- `put_line` meets its contract: the slots one after another, then the newline.
use Rattle.std.proofs.Common.{refl, rules, arith, length, ℕ, List, [], ◌∷◌, ◌≡◌, ◌+◌, ◌≤◌, ◌++◌, take, drop, get_or, length-append}
use Rattle.output.proofs.Puts.{puts-append, puts_room, puts-whole, putting_start, putting_room, putting_next, putting_end}
use Rattle.log_text.specs.declared.Keyword.{Keyword}
use Rattle.log_text.specs.declared.Slot.{Slot}
use Rattle.log_text.specs.Form.{form}
use Rattle.output.specs.declared.Output.{Output}
use Rattle.output.specs.Puts.{Room}
use Rattle.text.specs.Ascii.{ascii}
use Rattle.log_text.specs.Form.{keyword_text}
use Rattle.log_text.specs.declared.Parts.{Parts}
use Rattle.log_text.specs.Printing.{slots_words, spaced, parts_text}
use Rattle.log_text.proofs.Slots.{form-few}
use Rattle.log_printer.proofs.Lines.{left_from, line_first, line_step, line-last}
use Rattle.log_printer.proofs.put_line.Goals as goal

-- the slot of a turn, or none
next : (k : Keyword) (vs : List ℕ) (i : ℕ) (ss : List Slot) → ss ≡ form k → length vs ≡ 4
    → left_from k vs i ≡ spaced (slots_words (take 1 (drop i ss)) (get_or vs i 0 ∷ [])) ++ left_from k vs (i + 1)
next k vs i ss e four = rw e (line_step k vs i four)

-- room for the first word, and for what stands behind it
fits : (p : Parts) (out : Output) → Room (length (parts_text p)) out → Room (length (keyword_text p.keyword) + length (left_from p.keyword p.arguments 0)) out
fits p out h =
    let whole : out.end + length (keyword_text p.keyword ++ left_from p.keyword p.arguments 0) ≤ length out.buffer.now = rw (← line_first p.keyword p.arguments) h in
    omega (arith, whole, length-append (keyword_text p.keyword) (left_from p.keyword p.arguments 0))

pub put_keyword-requires : goal.put_keyword-requires
put_keyword-requires c = omega (arith, fits c.args.parts c.args.out.now c.requires)

pub loop-i-init : goal.loop-i-init
loop-i-init c = putting_start _ _ (puts_room _ c.put_keyword.ensures (fits c.args.parts c.args.out.now c.requires))

pub put_slot_at-requires : goal.put_slot_at-requires
put_slot_at-requires c = putting_room c.loop-i.invariant _ _ (next _ _ _ _ c.form-form.ensures (search rules))

pub loop-i-preserved : goal.loop-i-preserved
loop-i-preserved c = putting_next c.loop-i.invariant _ (next _ _ _ _ c.form-form.ensures (search rules)) c.put_slot_at.ensures

pub put_byte-requires : goal.put_byte-requires
put_byte-requires c =
    let parts = c.args.parts in
    let last = line-last parts.keyword parts.arguments c.loop-i.i (omega (arith, form-few parts.keyword)) in
    putting_room c.loop-i.invariant (ascii "\n") [] last

pub returns : goal.returns
returns c =
    let parts = c.args.parts in
    let last = line-last parts.keyword parts.arguments c.loop-i.i (omega (arith, form-few parts.keyword)) in
    let written = puts-append c.put_keyword.ensures (putting_end (putting_next c.loop-i.invariant [] last c.put_byte.ensures) refl) in
    rw (line_first parts.keyword parts.arguments)
    record { same_reference = search rules; wrote = puts-whole written (record { bytes = refl; place = refl }) (search rules) }
