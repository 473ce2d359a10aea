use native.Mathlib.Nat.{sub-zero}
use lib.ListN.{length}
use Rattle.output.proofs.Puts.{putting_start, putting_room, putting_next, putting_end}
use Rattle.call_log.specs.Fields.{encode_fields}
use Rattle.log_writer.specs.Steps.{numbers_of}
use Rattle.log_writer.proofs.Writing.{rows_next, rows_past}
use Rattle.log_writer.proofs.write_rows.Goals as goal

pub loop-i-init : goal.loop-i-init
loop-i-init c = rw (sub-zero (length c.args.columns.kinds.now)) (putting_start _ _ c.requires.room)

pub write-requires : goal.write-requires
write-requires c =
    putting_room c.loop-i.invariant (encode_fields (numbers_of c.row_at.result)) _ (rows_next _ _ _ c.row_at.ensures c.loop-i-test.true)

pub loop-i-preserved : goal.loop-i-preserved
loop-i-preserved c = putting_next c.loop-i.invariant _ (rows_next _ _ _ c.row_at.ensures c.loop-i-test.true) c.write.ensures

pub returns : goal.returns
returns c = putting_end c.loop-i.invariant (rows_past _ _ _ c.loop-i-test.false)
