-- proofs/cut/Answers.antt
use Rattle.std.proofs.Common.{◌≡◌, ◌-◌, length, take, drop, replicate, length-take, length-drop, ◌∙◌, arith, rules}
use Rattle.model.specs.declared.Entry.{Entry}
use Rattle.model.specs.Limits.{most_tasks}
use Rattle.model.specs.Places.{no_entry}
use Rattle.queue.proofs.Places.{cut_places, cut_entries}
use Rattle.queue.proofs.cut.Goals as goal

pub returns : goal.returns
returns c =
    let g = c.args in
    let n : length g.entries ≡ most_tasks = search rules in
    let e : c.default.result ≡ no_entry = search rules in
    let k : length (take (32 - (32 - g.count)) (drop (32 - g.count) c.copy_within.new.self)) ≡ g.count = omega (arith, length-take {A = Entry}, length-drop {A = Entry}, c.copy_within.ensures.len) in
    let z : c.fill.new.self ≡ replicate g.count no_entry = c.fill.ensures.after (λ y k. search rules) ∙ rw (k, e) in
    rw c.copy_within.ensures.after (cut_places no_entry most_tasks g.place g.count g.entries c.fill.new.self n c.requires.1 z) ∙ cut_entries g.place g.count g.entries c.requires.0 (omega arith) ∙ rw n
