-- The line of a bad record has at most 46 bytes.
use Rattle.std.proofs.Common.{arith, length, ◌≤◌}
use Rattle.transcript.specs.Lines.{bad_line}
use Rattle.transcript.proofs.Theorems.{length_bad}
use Rattle.log_printer.proofs.response.refusal_line.Goals as goal

pub returns-in-Bad : goal.returns-in-Bad
returns-in-Bad c =
    let most : length (bad_line c.in-Bad.place) ≤ 46 = length_bad c.in-Bad.place (omega arith) in
    (rw c.in-Bad.is c.bad_line.ensures, omega (arith, c.bad_line.ensures.wrote.place))
