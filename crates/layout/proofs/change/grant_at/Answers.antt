-- It writes the headers by which the two block lists differ.
use Rattle.std.proofs.Common.{ℕ, ◌+◌, ◌-◌, rules, arith, ap, ◌∙◌}
use Rattle.model.specs.Blocks.{block}
use Rattle.model.specs.Bytes.{header}
use Rattle.layout.specs.Layout.{put}
use Rattle.layout.proofs.Granting.{granting}
use Rattle.layout.proofs.change.grant_at.Goals as goal

pub read_u32-size-requires : goal.read_u32-size-requires
read_u32-size-requires c =
    let g = granting c.args.s.now c.args.place c.args.need (search rules) c.requires in omega (arith, g.within, g.enough, c.requires.least)

pub overflow_sub-rest : goal.overflow_sub-rest
overflow_sub-rest c =
    let g = granting c.args.s.now c.args.place c.args.need (search rules) c.requires in omega (arith, g.enough, c.read_u32-size.ensures.is ∙ g.read)

pub write_header-requires : goal.write_header-requires
write_header-requires c =
    let g = granting c.args.s.now c.args.place c.args.need (search rules) c.requires in omega (arith, g.within, g.enough, c.requires.least)

pub write_header-requires-then-rest-ge-LEAST_REST : goal.write_header-requires-then-rest-ge-LEAST_REST
write_header-requires-then-rest-ge-LEAST_REST c =
    let g = granting c.args.s.now c.args.place c.args.need (search rules) c.requires in
    omega (arith, g.within, g.enough, c.read_u32-size.ensures.is ∙ g.read, c.if-rest-ge-LEAST_REST.true)

pub write_header-requires-else-rest-ge-LEAST_REST : goal.write_header-requires-else-rest-ge-LEAST_REST
write_header-requires-else-rest-ge-LEAST_REST c =
    let g = granting c.args.s.now c.args.place c.args.need (search rules) c.requires in omega (arith, g.within, g.enough, c.requires.least)

pub returns-then-rest-ge-LEAST_REST : goal.returns-then-rest-ge-LEAST_REST
returns-then-rest-ge-LEAST_REST c =
    let a = c.args in
    let g = granting c.args.s.now c.args.place c.args.need (search rules) c.requires in
    let e = c.read_u32-size.ensures.is ∙ g.read in
    c.write_header-then-rest-ge-LEAST_REST.ensures
    ∙ ap (put (a.place.0 + a.need) (header (block (c.read_u32-size.result - a.need) 0))) c.write_header.ensures
    ∙ ap (λ (k : ℕ). put (a.place.0 + a.need) (header (block (k - a.need) 0)) (put a.place.0 (header (block a.need a.task)) a.s.now)) e
    ∙ g.two a.task (omega (arith, c.if-rest-ge-LEAST_REST.true, e))

pub returns-else-rest-ge-LEAST_REST : goal.returns-else-rest-ge-LEAST_REST
returns-else-rest-ge-LEAST_REST c =
    let a = c.args in
    let g = granting c.args.s.now c.args.place c.args.need (search rules) c.requires in
    let e = c.read_u32-size.ensures.is ∙ g.read in
    c.write_header-else-rest-ge-LEAST_REST.ensures ∙ ap (λ (k : ℕ). put a.place.0 (header (block k a.task)) a.s.now) e ∙ g.whole a.task (omega (arith, c.if-rest-ge-LEAST_REST.false, e))
