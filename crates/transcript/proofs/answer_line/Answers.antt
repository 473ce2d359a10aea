-- `answer_line` meets its contract: the code, then the offset.
use Rattle.std.proofs.Common.{arith, w32}
use mir.ValLaws.{to_z-of_z}
use Rattle.output.proofs.Puts.{puts-append, puts_room}
use Rattle.transcript.proofs.Sign.{signed-length}
use Rattle.transcript.proofs.answer_line.Goals as goal

pub put_around-requires : goal.put_around-requires
put_around-requires c =
    let code = rw (to_z-of_z w32 _ c.ranges.code) at c.put_signed.ensures in
    puts_room _ code (omega (arith, signed-length _ c.ranges.code, c.requires))

pub returns : goal.returns
returns c =
    let code = rw (to_z-of_z w32 _ c.ranges.code) at c.put_signed.ensures in
    puts-append code c.put_around.ensures
