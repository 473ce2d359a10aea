-- `woken_line` meets its contract: the task, then the line of an answer.
use Rattle.std.proofs.Common.{arith, w32, length-append}
use mir.ValLaws.{to_z-of_z}
use Rattle.output.proofs.Puts.{puts-append, puts_room}
use Rattle.text.proofs.Decimal.{length_half}
use Rattle.transcript.proofs.woken_line.Goals as goal

pub answer_line-requires : goal.answer_line-requires
answer_line-requires c =
    puts_room _ c.put_around.ensures (simp length-append (omega (arith, length_half c.args.task c.ranges.task.fits, c.requires)))

pub returns : goal.returns
returns c =
    let answer = rw (to_z-of_z w32 _ c.ranges.code) at c.answer_line.ensures in
    puts-append c.put_around.ensures answer
