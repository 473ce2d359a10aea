-- The loop's `Storing`, and that all is written behind the last line.
use Rattle.std.proofs.Common.{◌∙◌, sym}
use Rattle.log_parser.proofs.Storing.{storing_ok, storing_room, storing_next, storing_done}
use Rattle.log_parser.proofs.write_lines.Goals as goal

pub unwrap-said-requires : goal.unwrap-said-requires
unwrap-said-requires c = storing_ok c.requires c.loop-line.invariant c.in-Some.ensures.steps c.read_line.ensures

pub write_line-requires : goal.write_line-requires
write_line-requires c =
    storing_room c.requires c.loop-line.invariant c.in-Some.ensures.steps (sym c.unwrap-said.ensures ∙ c.read_line.ensures)

pub loop-line-preserved : goal.loop-line-preserved
loop-line-preserved c =
    storing_next c.requires c.loop-line.invariant c.in-Some.ensures.steps (sym c.unwrap-said.ensures ∙ c.read_line.ensures) c.write_line.ensures

pub returns : goal.returns
returns c = storing_done c.requires c.loop-line.invariant c.in-None.ensures.steps.0
