-- `respond` meets its contract, by what the printer answers.
use Rattle.std.proofs.Common.{arith, rules}
use Rattle.output.proofs.Puts.{holds_room, puts-whole}
use Rattle.log_printer.proofs.Responding.{response-text, response-error}
use Rattle.log_printer.proofs.response.respond.Goals as goal

pub returns-in-Ok : goal.returns-in-Ok
returns-in-Ok c = response-text _ _ c.if-buf-lt-LONGEST_PRINTED.false _ _ c.in-Ok.ensures

pub refusal_line-requires : goal.refusal_line-requires
refusal_line-requires c = holds_room _ c.new-out.ensures.empty (omega (arith, c.if-buf-lt-LONGEST_PRINTED.false))

pub returns-in-Err : goal.returns-in-Err
returns-in-Err c =
    let line = c.refusal_line.ensures in
    response-error _ _ c.if-buf-lt-LONGEST_PRINTED.false _ _ c.in-Err.ensures (puts-whole line.0 c.new-out.ensures.empty (search rules))
    (omega (arith, line.1, c.new-out.ensures.empty.place))
