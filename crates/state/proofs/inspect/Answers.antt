-- What was found so far is told over plain variables; each answer cites it at the step's call.
use Rattle.std.proofs.Common.{◌≡◌, Some, sym, ◌∙◌, arith}
use Rattle.layout.specs.Layout.{survey_of}
use Rattle.layout.proofs.Sound.{open_pool}
use Rattle.state.proofs.Inspecting.{attributes_bad, queue_bad, head_none, head_fit, head-waits, survey-greatest, greatest-least, pool-good}
use Rattle.state.proofs.inspect.Goals as goal

pub returns-then-not-are_valid : goal.returns-then-not-are_valid
returns-then-not-are_valid c =
    let a = c.args in
    attributes_bad a.target a.pool.now a.queue (sym c.are_valid.ensures ∙ c.if-not-are_valid.true)

pub returns-then-not-is_sound : goal.returns-then-not-is_sound
returns-then-not-is_sound c =
    let a = c.args in
    queue_bad a.target a.pool.now a.queue (sym c.are_valid.ensures ∙ c.if-not-are_valid.false) (sym c.is_sound.ensures ∙ c.if-not-is_sound.true)

pub returns-then-head-eq0 : goal.returns-then-head-eq0
returns-then-head-eq0 c =
    let a = c.args in
    let f : survey_of a.target a.pool.now ≡ Some c.in_ok-seen.seen = grind arith in
    head_none a.target a.pool.now a.queue c.in_ok-seen.seen f (sym c.are_valid.ensures ∙ c.if-not-are_valid.false) (sym c.is_sound.ensures ∙ c.if-not-is_sound.false) c.if-head-eq0.true

pub overflow_add-seen : goal.overflow_add-seen
overflow_add-seen c =
    let a = c.args in
    let f : survey_of a.target a.pool.now ≡ Some c.in_ok-seen.seen = grind arith in
    let p = pool-good a.target a.pool.now a.queue c.in_ok-seen.seen f in
    omega (arith, survey-greatest a.target a.pool.now c.in_ok-seen.seen f, greatest-least a.pool.now p, (open_pool a.pool.now p).long.most)

pub returns-then-need-seen : goal.returns-then-need-seen
returns-then-need-seen c =
    let a = c.args in
    let f : survey_of a.target a.pool.now ≡ Some c.in_ok-seen.seen = grind arith in
    head_fit a.target a.pool.now a.queue c.in_ok-seen.seen f (sym c.are_valid.ensures ∙ c.if-not-are_valid.false) (sym c.is_sound.ensures ∙ c.if-not-is_sound.false) c.if-head-eq0.false
    (omega (arith, c.if-need-seen.true, c.need.ensures))

pub returns : goal.returns
returns c =
    let a = c.args in
    let f : survey_of a.target a.pool.now ≡ Some c.in_ok-seen.seen = grind arith in
    head-waits a.target a.pool.now a.queue c.in_ok-seen.seen f (sym c.are_valid.ensures ∙ c.if-not-are_valid.false) (sym c.is_sound.ensures ∙ c.if-not-is_sound.false) c.if-head-eq0.false
    (omega (arith, c.if-need-seen.false, c.need.ensures))
