-- A line that is refused, the loop's `Measuring`, and the answer behind the last line.
use Rattle.std.proofs.Common.{◌≡◌, ◌∙◌, sym, Ok, Err, rules, arith}
use Rattle.log_parser.specs.declared.ParseError.TheVariants.{Refused}
use Rattle.log_parser.proofs.Measuring.{mapped-err, measuring_most, measuring_line, measuring_refused, measuring_next, measuring_none, measuring_log}
use Rattle.log_parser.proofs.measure.Goals as goal

pub returns-in_err-said : goal.returns-in_err-said
returns-in_err-said c =
    let why = mapped-err c.line_after-read.result _ c.map_err.ensures.cases c.in_err-said.was in
    let e : c.from_residual.result ≡ Err (Refused c.loop-line.number why.0) = search rules in
    rw e (measuring_refused c.loop-line.invariant c.in-Some.ensures.steps (sym why.1 ∙ c.line_after-read.ensures))

pub line_length-length-requires : goal.line_length-length-requires
line_length-length-requires c =
    let read : c.line_after-read.result ≡ Ok c.in_ok-said.said = search rules in
    measuring_line c.loop-line.invariant c.in-Some.ensures.steps (sym read ∙ c.line_after-read.ensures)

pub overflow_add-length : goal.overflow_add-length
overflow_add-length c =
    let read : c.line_after-read.result ≡ Ok c.in_ok-said.said = search rules in
    let line = measuring_line c.loop-line.invariant c.in-Some.ensures.steps (sym read ∙ c.line_after-read.ensures) in
    omega (arith, measuring_most c.loop-line.invariant, c.line_length-length.ensures)

pub overflow_add-number : goal.overflow_add-number
overflow_add-number c = omega (arith, measuring_most c.loop-line.invariant)

pub loop-line-preserved : goal.loop-line-preserved
loop-line-preserved c =
    let read : c.line_after-read.result ≡ Ok c.in_ok-said.said = search rules in
    measuring_next c.loop-line.invariant c.in-Some.ensures.steps (sym read ∙ c.line_after-read.ensures) c.line_length-length.ensures c.call_count-count.ensures

pub returns-then-length-eq0 : goal.returns-then-length-eq0
returns-then-length-eq0 c = measuring_none c.loop-line.invariant c.in-None.ensures.steps.0 c.if-length-eq0.true

pub returns : goal.returns
returns c = measuring_log c.loop-line.invariant c.in-None.ensures.steps.0 c.if-length-eq0.false
