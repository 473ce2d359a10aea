use Rattle.std.proofs.Common.{◌-◌, ◌≡◌, ◌≤◌}
use Rattle.layout.specs.Layout.{walk_at}
use Rattle.layout.proofs.walk.walk_from.Given as goal

-- the walk from here on stops as the walk from the start does
abbrev pub invariant-loop-seen : goal.invariant-loop-seen
invariant-loop-seen l = record { small : l.seen.sum ≤ l.seen.at; same : walk_at l.need l.byte l.s l.fn.seen ≡ walk_at l.need l.byte l.s l.seen }

abbrev pub decreases-loop-seen : goal.decreases-loop-seen
decreases-loop-seen l = l.n - l.seen.at
