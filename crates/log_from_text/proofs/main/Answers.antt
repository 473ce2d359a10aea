-- The text has the length that is lent.
use Rattle.std.proofs.Common.{ℕ, sym}
use Rattle.std.proofs.Math.ListN.{length-replicate}
use Rattle.log_from_text.proofs.main.Goals as goal

pub slice_bounds-convert-end : goal.slice_bounds-convert-end
slice_bounds-convert-end c = sym (length-replicate {0} {A = ℕ} 1048577 0)
