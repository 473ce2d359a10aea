-- `pool::reason::check_offset` meets its contract: the block that holds the offset decides.
use Rattle.std.proofs.Common.{◌≡◌, ◌+◌, arith, sym, ap, ◌∙◌}
use borrow.Author.Tests.{eqb-true, eqb-false}
use Rattle.model.proofs.Tests.{not_t, not_f}
use Rattle.model.specs.declared.BlockOffset.{BlockOffset}
use Rattle.layout.proofs.Sound.{open_pool}
use Rattle.pool.proofs.Changing.{reason-room, reason_uneven, reason-inside, reason-free, reason-live}
use Rattle.pool.proofs.reason.check_offset.Goals as goal

pub returns-then-is_uneven : goal.returns-then-is_uneven
returns-then-is_uneven c =
    sym (reason_uneven c.args.pool.now c.args.offset c.requires.0 c.args.spot c.requires.1 (omega arith) c.if-is_uneven.true)

pub offset_of-requires : goal.offset_of-requires
offset_of-requires c =
    omega (arith, reason-room c.args.pool.now c.args.offset c.requires.0 c.args.spot c.requires.1 (omega arith), (open_pool c.args.pool.now c.requires.0).long.most)

pub returns-then-ne : goal.returns-then-ne
returns-then-ne c =
    let own : c.offset_of.result.0 ≡ c.args.spot.place.0 + 8 = ap (λ (o : BlockOffset). o.0) c.offset_of.ensures in
    sym (reason-inside c.args.pool.now c.args.offset c.requires.0 c.args.spot c.requires.1 (omega arith) c.if-is_uneven.false (λ e. eqb-false _ _ (not_t _ (sym c.ne.ensures ∙ c.if-ne.true)) (e ∙ sym own)))

pub read_header-requires : goal.read_header-requires
read_header-requires c = omega (arith, reason-room c.args.pool.now c.args.offset c.requires.0 c.args.spot c.requires.1 (omega arith))

pub returns-then-read_header-eq0 : goal.returns-then-read_header-eq0
returns-then-read_header-eq0 c =
    let own : c.offset_of.result.0 ≡ c.args.spot.place.0 + 8 = ap (λ (o : BlockOffset). o.0) c.offset_of.ensures in
    sym (reason-free c.args.pool.now c.args.offset c.requires.0 c.args.spot c.requires.1 (omega arith) c.if-is_uneven.false (eqb-true _ _ (not_f _ (sym c.ne.ensures ∙ c.if-ne.false)) ∙ own)
    c.read_header.result.owner c.read_header.ensures.owner.is c.if-read_header-eq0.true)

pub returns : goal.returns
returns c =
    let own : c.offset_of.result.0 ≡ c.args.spot.place.0 + 8 = ap (λ (o : BlockOffset). o.0) c.offset_of.ensures in
    sym (reason-live c.args.pool.now c.args.offset c.requires.0 c.args.spot c.requires.1 (omega arith) c.if-is_uneven.false (eqb-true _ _ (not_f _ (sym c.ne.ensures ∙ c.if-ne.false)) ∙ own)
    c.read_header.result.owner c.read_header.ensures.owner.is c.if-read_header-eq0.false)
