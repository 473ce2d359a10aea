-- The two calls of the walk tell what the bytes are found to be.
use Rattle.std.proofs.Common.{ℕ, ◌≡◌, arith, length, List, sym, ap, ◌∙◌, Option, Some, None}
use Rattle.model.specs.Bytes.{blocks_of}
use Rattle.layout.specs.declared.Target.{Target}
use Rattle.layout.specs.declared.Seen.{Seen}
use Rattle.layout.specs.declared.Stop.{Stop}
use Rattle.layout.specs.declared.Stop.TheVariants.{Here, End}
use Rattle.layout.specs.Layout.{walk_at, need_of, byte_of}
use Rattle.layout.proofs.Sound.{Length}
use Rattle.layout.proofs.Surveying.{unseen, unseen_is, survey_stop, survey_on, stop_sum, refused_length}
use Rattle.layout.proofs.walk.survey.Goals as goal

-- the first call, in terms of the target
begun : (s : List ℕ) (t : Target) (need byte : ℕ) (v : Seen) (x y : Option Stop) → need ≡ need_of t → byte ≡ byte_of t → v ≡ unseen → x ≡ walk_at need byte s v → x ≡ y → walk_at (need_of t) (byte_of t) s unseen ≡ y
begun s t need byte v x y e f g h k = sym (h ∙ rw (e, f, g)) ∙ k

pub returns-then-n-ne0 : goal.returns-then-n-ne0
returns-then-n-ne0 c = sym (refused_length c.args.target c.args.s.now c.then-n-ne0.either)

pub returns-in_err-seen : goal.returns-in_err-seen
returns-in_err-seen c =
    let s = c.args.s.now in
    let k : Length s = record { by_four = c.if-n-ne0.false; least = c.if-n-lt12.false; most = c.if-n-gt-LONGEST_POOL.false } in
    let b = begun s c.args.target c.need_of.result c.byte_of.result c.default.result _ None c.need_of.ensures c.byte_of.ensures (unseen_is _ c.default.ensures) c.walk_from.ensures c.in_err-seen.was in
    c.from_residual.ensures ∙ sym (survey_stop s k c.args.target None b)

pub walk_from-requires-in-Here : goal.walk_from-requires-in-Here
walk_from-requires-in-Here c =
    let s = c.args.s.now in
    let b = begun s c.args.target c.need_of.result c.byte_of.result c.default.result _ (Some (Here c.in-Here.here)) c.need_of.ensures c.byte_of.ensures (unseen_is _ c.default.ensures) c.walk_from.ensures (c.in_ok-seen.was ∙ ap Some c.in-Here.is) in
    (c.if-n-lt12.false, c.if-n-gt-LONGEST_POOL.false, stop_sum _ _ (length s) c.in-Here.here (blocks_of s) unseen (omega arith) b)

pub returns-in-End : goal.returns-in-End
returns-in-End c =
    let s = c.args.s.now in
    let k : Length s = record { by_four = c.if-n-ne0.false; least = c.if-n-lt12.false; most = c.if-n-gt-LONGEST_POOL.false } in
    let b = begun s c.args.target c.need_of.result c.byte_of.result c.default.result _ (Some (End c.in-End.seen)) c.need_of.ensures c.byte_of.ensures (unseen_is _ c.default.ensures) c.walk_from.ensures (c.in_ok-seen.was ∙ ap Some c.in-End.is) in
    sym (survey_stop s k c.args.target (Some (End c.in-End.seen)) b)

pub returns-in-End-2 : goal.returns-in-End-2
returns-in-End-2 c =
    let s = c.args.s.now in
    let k : Length s = record { by_four = c.if-n-ne0.false; least = c.if-n-lt12.false; most = c.if-n-gt-LONGEST_POOL.false } in
    let b = begun s c.args.target c.need_of.result c.byte_of.result c.default.result _ (Some (Here c.in-Here.here)) c.need_of.ensures c.byte_of.ensures (unseen_is _ c.default.ensures) c.walk_from.ensures (c.in_ok-seen.was ∙ ap Some c.in-Here.is) in
    let d : walk_at _ _ s c.in-Here.here ≡ Some (End c.in-End-2.seen) = sym c.walk_from-in-Here.ensures ∙ c.in_ok-seen-in-Here.was ∙ ap Some c.in-End-2.is in
    rw c.spot_of.ensures (sym (survey_on s k c.args.target c.in-Here.here (Some (End c.in-End-2.seen)) b d))

pub returns-in_default : goal.returns-in_default
returns-in_default c =
    let s = c.args.s.now in
    let k : Length s = record { by_four = c.if-n-ne0.false; least = c.if-n-lt12.false; most = c.if-n-gt-LONGEST_POOL.false } in
    let b = begun s c.args.target c.need_of.result c.byte_of.result c.default.result _ (Some (Here c.in-Here.here)) c.need_of.ensures c.byte_of.ensures (unseen_is _ c.default.ensures) c.walk_from.ensures (c.in_ok-seen.was ∙ ap Some c.in-Here.is) in
    let d : walk_at _ _ s c.in-Here.here ≡ Some (Here c.in_default.field-0) = sym c.walk_from-in-Here.ensures ∙ c.in_ok-seen-in-Here.was ∙ ap Some c.in_default.is in
    sym (survey_on s k c.args.target c.in-Here.here (Some (Here c.in_default.field-0)) b d)

pub returns-in_err-seen-in-Here : goal.returns-in_err-seen-in-Here
returns-in_err-seen-in-Here c =
    let s = c.args.s.now in
    let k : Length s = record { by_four = c.if-n-ne0.false; least = c.if-n-lt12.false; most = c.if-n-gt-LONGEST_POOL.false } in
    let b = begun s c.args.target c.need_of.result c.byte_of.result c.default.result _ (Some (Here c.in-Here.here)) c.need_of.ensures c.byte_of.ensures (unseen_is _ c.default.ensures) c.walk_from.ensures (c.in_ok-seen.was ∙ ap Some c.in-Here.is) in
    c.from_residual-in_err-seen-in-Here.ensures ∙ sym (survey_on s k c.args.target c.in-Here.here None b (sym c.walk_from-in-Here.ensures ∙ c.in_err-seen-in-Here.was))
