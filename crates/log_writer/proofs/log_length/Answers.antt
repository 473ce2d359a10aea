use Rattle.std.proofs.Common.{sym, ◌∙◌}
use Rattle.log_writer.proofs.Writing.{refused_irregular, measuring_start, measuring_refused, measuring_next, measuring_end}
use Rattle.log_writer.proofs.log_length.Goals as goal

pub returns-then-not-are_regular : goal.returns-then-not-are_regular
returns-then-not-are_regular c = refused_irregular _ _ _ (sym c.are_regular.ensures ∙ c.if-not-are_regular.true)

pub loop-i-init : goal.loop-i-init
loop-i-init c = measuring_start _ _ _ _ (sym c.are_regular.ensures ∙ c.if-not-are_regular.false) c.start_length-length.ensures

pub returns-then-not-is_given : goal.returns-then-not-is_given
returns-then-not-is_given c =
    measuring_refused c.loop-i.invariant c.loop-i-test.true c.row_at-row.ensures (sym c.is_given.ensures ∙ c.if-not-is_given.true)

pub loop-i-preserved : goal.loop-i-preserved
loop-i-preserved c =
    measuring_next c.loop-i.invariant c.loop-i-test.true c.row_at-row.ensures (sym c.is_given.ensures ∙ c.if-not-is_given.false) _ c.length-length.ensures

pub returns : goal.returns
returns c = measuring_end c.loop-i.invariant c.loop-i-test.false
