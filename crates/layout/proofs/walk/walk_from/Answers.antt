-- The walk from the loop's state on stops as the walk from the start does.
use Rattle.std.proofs.Common.{ℕ, ◌+◌, ◌≡◌, ◌≤◌, true, arith, length, sym, ap, ◌∙◌}
use Rattle.model.specs.Blocks.{block}
use Rattle.layout.specs.declared.Seen.{Seen}
use Rattle.layout.specs.Layout.{may_stand}
use Rattle.layout.proofs.Walking.{open_block, open_stands, close_stands, unfit, walk_stop, walk_bad, walk_here, walk-pass, pass-at, pass-sum}
use Rattle.layout.proofs.walk.walk_from.Goals as goal

-- a header that may stand is of 12 bytes or more
least : (n : ℕ) (v : Seen) (size owner : ℕ) → v.at + 12 ≤ n → true ≡ may_stand v (block size owner) → 12 ≤ size
least n v size owner h m =
    let b = block size owner in (open_block b (open_stands n v b (close_stands n v b h (sym m))).fit).least

pub loop-seen-smaller : goal.loop-seen-smaller
loop-seen-smaller c =
    let v = c.loop-seen.seen in
    let g = least (length c.args.s.now) v c.read_header-header.result.size c.read_header-header.result.owner (omega arith) c.if-not-may_stand.ensures in
    let e = ap (λ (w : Seen). w.at) c.passed-seen.ensures ∙ pass-at v c.read_header-header.result.size c.read_header-header.result.owner in
    omega (arith, g, e)

pub loop-seen-preserved : goal.loop-seen-preserved
loop-seen-preserved c =
    let s = c.args.s.now in
    let v = c.loop-seen.seen in
    let h = c.read_header-header.result in
    let r = c.read_header-header.ensures in
    let k = close_stands (length s) v (block h.size h.owner) (omega arith) (sym c.if-not-may_stand.ensures) in
    rw c.passed-seen.ensures (record {
      small = pass-sum v h.size h.owner c.loop-seen.invariant.small;
      same = c.loop-seen.invariant.same ∙ walk-pass _ _ s v h.size h.owner (omega arith) r.size.is r.owner.is k (sym c.if-is_wanted.ensures);
    })

pub returns-then-not-may_stand : goal.returns-then-not-may_stand
returns-then-not-may_stand c =
    let s = c.args.s.now in
    let v = c.loop-seen.seen in
    let h = c.read_header-header.result in
    let r = c.read_header-header.ensures in
    sym (c.loop-seen.invariant.same ∙ walk_bad _ _ s v h.size h.owner (omega arith) r.size.is r.owner.is (unfit (length s) v (block h.size h.owner) (sym c.if-not-may_stand.ensures)))

pub returns-then-is_wanted : goal.returns-then-is_wanted
returns-then-is_wanted c =
    let s = c.args.s.now in
    let v = c.loop-seen.seen in
    let h = c.read_header-header.result in
    let r = c.read_header-header.ensures in
    let k = close_stands (length s) v (block h.size h.owner) (omega arith) (sym c.if-not-may_stand.ensures) in
    sym (c.loop-seen.invariant.same ∙ walk_here _ _ s v h.size h.owner (omega arith) r.size.is r.owner.is k (sym c.if-is_wanted.ensures))

pub returns-then-last-seen : goal.returns-then-last-seen
returns-then-last-seen c = c.then_some.ensures ∙ sym (c.loop-seen.invariant.same ∙ walk_stop _ _ c.args.s.now c.loop-seen.seen c.if-last-seen.true c.requires.0)
