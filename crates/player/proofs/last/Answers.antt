-- `last` meets its contract, a case for each answer of the reader.
use Rattle.std.proofs.Common.{◌≡◌, Ok, None, arith}
use Rattle.call_log.specs.Record.{Read}
use Rattle.transcript.proofs.Theorems.{length_end, length_bad}
use Rattle.player.proofs.Stepping.{line-within}
use Rattle.player.proofs.last.Goals as goal

pub returns-in-Ok-None : goal.returns-in-Ok-None
returns-in-Ok-None c =
    let taken : ◌≡◌ {A = Read} c.args.read (Ok c.in-Ok-None.field-0) = c.in-Ok-None.is in
    let clean : c.in-Ok-None.field-0 ≡ None = rw c.in-Ok-None.is at c.in-Ok-None.field-0-is in
    rw (taken, clean) (line-within c.end_line.ensures (length_end c.args.count (omega (arith, c.ranges.count))))

pub returns-in-Err : goal.returns-in-Err
returns-in-Err c = rw c.in-Err.is (line-within c.bad_line.ensures (length_bad c.args.place (omega (arith, c.ranges.place))))
