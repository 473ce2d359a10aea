-- `stages::run` is safe: the line `pool N` leaves room for a step. Assumes nothing.
use Rattle.std.proofs.Common.{length, arith, ◌∙◌, rules}
use Rattle.output.proofs.Wrote.{wrote-length}
use Rattle.call_log.proofs.Starts as starts
use Rattle.transcript.proofs.Theorems.{length-pool}
use Rattle.stages.proofs.Beginning.{begun}
use Rattle.stages.proofs.run.Goals as goal

pub write_text-requires : goal.write_text-requires
write_text-requires c =
    let line = c.pool_line.ensures in
    let short = length-pool (length c.create-made.new.pool) (search rules) in
    let within = (starts.begun c.args.log.now _ _ c.args.start c.requires.first).inside in (
      record {
        short_log = c.requires.short_log;
        space = wrote-length line.wrote ∙ c.requires.empty.space;
        stage = record { place = within; few = omega arith };
        line = omega (arith, line.wrote.place, short, c.requires.empty.start);
      },
      begun c.args.attributes c.args.pool.now c.create-made.new.pool c.create-made.result c.requires c.create-made.ensures c.if-made-ne0.false c.create-made.auto.pool line short,
    )
