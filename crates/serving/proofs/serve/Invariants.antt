-- So many of the entries are served: the bytes, the woken list and the entries that are left lead to what all of them lead to.
use Rattle.std.proofs.Common.{◌≡◌, length, ◌+◌, ◌≤◌, drop}
use Rattle.model.specs.Places.{used}
use Rattle.model.specs.Bytes.{blocks_of, erase}
use Rattle.model.specs.Rules.{rules}
use Rattle.model.specs.Calls as calls
use Rattle.serving.proofs.Serves.{Loop}
use Rattle.serving.proofs.serve.Given as goal

abbrev pub invariant-loop-e : goal.invariant-loop-e
invariant-loop-e l =
    let K = rules l.attributes (length l.fn.pool) in
    (l.served ≡ l.e-index) × (l.e-index ≤ length (used l.e-items)) × Loop l.attributes (erase (blocks_of l.fn.pool) l.fn.pool) (length l.fn.pool) l.most l.fn.woken l.before (calls.serve K (calls.blocks K) (blocks_of l.fn.pool) (used l.e-items)) l.pool (used (drop l.e-index l.e-items)) l.woken (l.before + l.served)
