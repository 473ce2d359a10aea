-- `stages::replay` is safe: a line lies within the text. Assumes nothing.
use Rattle.std.proofs.Common.{ap, arith, length}
use Rattle.output.proofs.Wrote.{wrote-length}
use Rattle.stages.proofs.replay.Goals as goal

pub flush-requires : goal.flush-requires
flush-requires c =
    let line = c.too_long_line.ensures.wrote in
    omega (arith, wrote-length line, line.place, ap length c.new-out.ensures.empty.bytes, c.new-out.ensures.empty.place)
