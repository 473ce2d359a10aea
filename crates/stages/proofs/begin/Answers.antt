-- `stages::begin` is safe: the start lies within the log, and the pool within its buffer. Assumes nothing.
use Rattle.std.proofs.Common.{arith, sym}
use Rattle.model.specs.declared.Attributes.{Attributes}
use Rattle.output.proofs.Wrote.{wrote-length}
use Rattle.transcript.proofs.Theorems.{length_bad}
use Rattle.stages.proofs.Beginning.{lent}
use Rattle.stages.proofs.begin.Goals as goal

pub flush-requires : goal.flush-requires
flush-requires c =
    let line = c.bad_line.ensures.wrote in
    omega (arith, wrote-length line, line.place, length_bad 0 (omega arith), c.requires.1.space, c.requires.1.start)

pub run-requires : goal.run-requires
run-requires c =
    let start = c.in-Some.start in
    let own : Attributes = record { kinds = c.args.attributes.kinds; greatest = c.args.attributes.greatest; order = start.order } in
    lent {m = 65536} own start.length c.requires.0 c.requires.1 (sym c.in-Some.ensures) (omega arith)
