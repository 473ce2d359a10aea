-- `put_keyword` meets its contract: byte after byte of the word.
use native.Mathlib.Numerals.{add-one}
use Rattle.std.proofs.Common.{◌≡◌, ℕ, List, [], ◌∷◌, ◌+◌, ◌<◌, ◌++◌, length, drop, get_or, drop-cons, drop_of_length-le}
use Rattle.output.specs.declared.Output.{Output}
use Rattle.output.specs.Puts.{Room}
use Rattle.output.proofs.Puts.{Putting, putting_start, putting_room, putting_next, putting_end}
use Rattle.log_printer.proofs.put_keyword.Goals as goal

-- the byte of a turn, and those behind it
next : (l : List ℕ) (i : ℕ) → i < length l → drop i l ≡ (get_or l i 0 ∷ []) ++ drop (i + 1) l
next l i h = rw (add-one i) (drop-cons l i 0 h)

room : {start out : Output} {bytes : List ℕ} (l : List ℕ) (i : ℕ) → Putting start bytes out (drop i l) → i < length l → Room 1 out
room l i w h = putting_room w (get_or l i 0 ∷ []) (drop (i + 1) l) (next l i h)

pub loop-byte-init : goal.loop-byte-init
loop-byte-init c = rw c.text-byte-items.ensures (putting_start _ _ c.requires)

pub put_byte-requires : goal.put_byte-requires
put_byte-requires c = room _ c.loop-byte.byte-index c.loop-byte.invariant c.loop-byte-test.true

pub loop-byte-preserved : goal.loop-byte-preserved
loop-byte-preserved c = putting_next c.loop-byte.invariant _ (next _ c.loop-byte.byte-index c.loop-byte-test.true) c.put_byte.ensures

pub returns : goal.returns
returns c = putting_end c.loop-byte.invariant (drop_of_length-le _ c.loop-byte-test.false)
