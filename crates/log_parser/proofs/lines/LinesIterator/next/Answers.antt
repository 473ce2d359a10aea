-- No line, or the first and what is left behind its newline.
use Rattle.std.proofs.Common.{arith, ◌≡◌, length}
use Rattle.std.proofs.lemmas.Bool.Decides.{nat_tests}
use Rattle.log_parser.proofs.Splitting.{lines_none, first-inside, lines_split}
use Rattle.log_parser.proofs.lines.LinesIterator.next.Goals as goal

pub returns-then-is_empty-clause-steps : goal.returns-then-is_empty-clause-steps
returns-then-is_empty-clause-steps c =
    let none : length c.args.self.now.rest.now ≡ 0 = grind (arith, nat_tests) in
    let e = lines_none c.args.self.now.rest.now none in (e, e)

pub split_at-requires : goal.split_at-requires
split_at-requires c = first-inside c.args.self.now.rest.now (λ none. grind (arith, nat_tests)) c.span_end-end.ensures

pub returns-clause-steps : goal.returns-clause-steps
returns-clause-steps c =
    lines_split c.args.self.now.rest.now (λ none. grind (arith, nat_tests)) c.span_end-end.ensures
    c.split_at.ensures.front c.split_at.ensures.back c.min.ensures

pub returns-clause-goes : goal.returns-clause-goes
returns-clause-goes c = record { on = λ h. (tt, tt, rw (returns-clause-steps c) (omega arith)); keeps = tt; rests = λ h. tt }
