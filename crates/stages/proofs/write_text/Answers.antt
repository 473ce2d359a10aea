-- `stages::write_text` is safe: each stage keeps the buffer. Assumes nothing.
use Rattle.std.proofs.Common.{◌∙◌}
use Rattle.output.proofs.Wrote.{wrote-length}
use Rattle.stages.proofs.write_text.Goals as goal

pub loop-left-init : goal.loop-left-init
loop-left-init c =
    let played = c.play-left.ensures in
    record {
      short_log = c.requires.0.short_log;
      space = wrote-length played.text.wrote ∙ c.requires.0.space;
      within = played.within;
      stage = played.stage;
    }

pub loop-left-preserved : goal.loop-left-preserved
loop-left-preserved c =
    let played = c.play-left-in-loop-left.ensures in
    record {
      short_log = c.requires.0.short_log;
      space = wrote-length played.text.wrote ∙ c.loop-left.invariant.space;
      within = played.within;
      stage = played.stage;
    }
