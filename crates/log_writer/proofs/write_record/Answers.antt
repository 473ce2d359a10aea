use Rattle.log_writer.proofs.Rows.{row-record}
use Rattle.log_writer.proofs.write_record.Goals as goal

pub write-requires : goal.write-requires
write-requires c = rw (row-record _ c.args.item c.from.ensures) c.requires

pub returns : goal.returns
returns c = rw (row-record _ c.args.item c.from.ensures) at c.write.ensures
