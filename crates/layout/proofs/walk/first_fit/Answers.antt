-- Where the walk stops is the first run that fits.
use Rattle.std.proofs.Common.{ℕ, ◌≡◌, true, arith, List, ap, sym, ◌∙◌, Option, Some, None}
use Rattle.model.specs.Limits.{longest_pool}
use Rattle.model.specs.Bytes.{blocks_of}
use Rattle.layout.specs.declared.Target.TheVariants.{Run}
use Rattle.layout.specs.declared.Seen.{Seen}
use Rattle.layout.specs.declared.Stop.{Stop}
use Rattle.layout.specs.Layout.{first_fit_of, sound_pool, walk_at}
use Rattle.layout.proofs.Sound.{open_pool}
use Rattle.layout.proofs.Surveying.{found_by, unseen, unseen_is, walk-sought}
use Rattle.layout.proofs.walk.first_fit.Goals as goal

-- what is found is told by where the walk stopped
finds : (s : List ℕ) (need : ℕ) (v : Seen) (x y : Option Stop) → sound_pool s ≡ true → v ≡ unseen → x ≡ walk_at need longest_pool s v → x ≡ y → found_by y ≡ first_fit_of need (blocks_of s)
finds s need v x y k e h d =
    let w : x ≡ walk_at need longest_pool s unseen = h ∙ rw e in
    ap found_by (sym d ∙ w) ∙ walk-sought s (open_pool s k).long (Run need) k

pub walk_from-requires : goal.walk_from-requires
walk_from-requires c =
    let k = (open_pool c.args.s.now c.requires).long in
    (k.least, k.most, rw (unseen_is _ c.default.ensures) (omega arith))

pub returns-in_err-here : goal.returns-in_err-here
returns-in_err-here c = c.from_residual.ensures ∙ finds c.args.s.now c.args.need c.default.result _ None c.requires (unseen_is _ c.default.ensures) c.walk_from.ensures c.in_err-here.was

pub returns-in_default : goal.returns-in_default
returns-in_default c = finds c.args.s.now c.args.need c.default.result _ _ c.requires (unseen_is _ c.default.ensures) c.walk_from.ensures (c.in_ok-here.was ∙ ap Some c.in_default.is)

pub returns : goal.returns
returns c = ap Some c.spot_of.ensures ∙ finds c.args.s.now c.args.need c.default.result _ _ c.requires (unseen_is _ c.default.ensures) c.walk_from.ensures (c.in_ok-here.was ∙ ap Some c.in-Here.is)
