use Rattle.output.proofs.Puts.{putting_start, putting_fitted, putting_end}
use Rattle.call_log.proofs.Fields.{encode_next, encode_past}
use Rattle.log_writer.proofs.write_numbers.Goals as goal

pub loop-value-init : goal.loop-value-init
loop-value-init c = putting_start _ _ c.requires

pub loop-value-preserved : goal.loop-value-preserved
loop-value-preserved c =
    putting_fitted c.loop-value.invariant _ _ (encode_next _ c.loop-value.value-index c.loop-value-test.true) c.write_number.ensures

pub returns : goal.returns
returns c = putting_end c.loop-value.invariant (encode_past _ _ c.loop-value-test.false)
