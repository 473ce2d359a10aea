-- Each answer cites a lemma of `Judging` at the request and the run that was found.
use Rattle.std.proofs.Common.{◌≡◌, length, sym, ◌∙◌, arith, rules}
use Rattle.model.specs.Limits.{most_tasks}
use Rattle.model.specs.Blocks.{granted}
use Rattle.layout.specs.Layout.{changed}
use Rattle.state.proofs.Inspecting.{length_of_map, place-small}
use Rattle.request.proofs.Judging.{fair_held, admit_held, admit_grantable, admit_granted}
use Rattle.request.proofs.admit.Goals as goal

pub hold-requires : goal.hold-requires
hold-requires c = let a = c.args in fair_held a.pool.now a.queue a.e a.found c.requires

pub returns-in_default : goal.returns-in_default
returns-in_default c =
    let a = c.args in
    let n : length a.queue.entries ≡ most_tasks = search (rules, length_of_map) in
    admit_held a.pool.now a.queue a.e a.found c.requires c.hold.result a.poll n (λ i. omega (arith, c.type_inv.pool i)) (sym c.run_for-run.ensures ∙ c.in_default.is) c.hold.ensures

pub grant_at-requires : goal.grant_at-requires
grant_at-requires c =
    let a = c.args in
    rw c.need-need.ensures (admit_grantable a.pool.now a.queue a.e a.found c.requires c.in-Some.spot (sym c.run_for-run.ensures ∙ c.in-Some.is))

pub offset_of-requires : goal.offset_of-requires
offset_of-requires c =
    let a = c.args in
    omega (arith, place-small a.pool.now c.in-Some.spot.place _ (admit_grantable a.pool.now a.queue a.e a.found c.requires c.in-Some.spot (sym c.run_for-run.ensures ∙ c.in-Some.is)))

pub returns : goal.returns
returns c =
    let a = c.args in
    let n : length a.queue.entries ≡ most_tasks = search (rules, length_of_map) in
    rw c.answer.ensures (admit_granted a.pool.now a.queue a.e a.found c.requires c.in-Some.spot (sym c.run_for-run.ensures ∙ c.in-Some.is) c.offset_of.result c.nobody.result c.grant_at.new.s a.poll n
    c.offset_of.ensures c.nobody.ensures (c.grant_at.ensures ∙ (λ i. changed (granted (c.need-need.ensures i) (c.from.ensures i)) a.pool.now)))
