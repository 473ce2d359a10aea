-- One header over the joined blocks, zeros over the others.
use Rattle.std.proofs.Common.{ℕ, ◌≡◌, ◌+◌, ◌-◌, ◌||◌, List, rules, arith, leb, sym, ap, ◌∙◌}
use Rattle.model.specs.Blocks.{block, fits, freed}
use Rattle.model.specs.Bytes.{u32_at, blocks_of, header}
use Rattle.layout.specs.Layout.{put, changed, Swallowed, swallow_of, swallowed}
use Rattle.layout.proofs.Releasing.{Releasing, releasing}
use Rattle.layout.proofs.change.release_at.Goals as goal
use Rattle.layout.proofs.change.release_at.Goals.{then-first-at, else-first-at}

-- what is known of the block behind
told : (l : List ℕ) (p y size behind : ℕ) (bytes : List ℕ) (g : Releasing l p y) → size ≡ u32_at l p → swallowed behind bytes ≡ swallow_of (p + size) l → swallowed behind bytes ≡ swallowed g.behind g.bytes
told l p y size behind bytes g e h = h ∙ ap (λ (k : ℕ). swallow_of (p + k) l) (e ∙ g.read) ∙ g.swallow

-- the size of the run that is now free
whole : (l : List ℕ) (p y size behind : ℕ) (bytes : List ℕ) (g : Releasing l p y) → size ≡ u32_at l p → swallowed behind bytes ≡ swallowed g.behind g.bytes → p - y + size + behind ≡ p - y + g.size + g.behind
whole l p y size behind bytes g e t = λ i. p - y + (e ∙ g.read) i + ap (λ (x : Swallowed). x.size) t i

pub read_u32-size-requires : goal.read_u32-size-requires
read_u32-size-requires c = let g = releasing c.args.s.now c.args.spot (search rules) c.requires in omega (arith, g.within, g.least)

pub swallow-behind-requires : goal.swallow-behind-requires
swallow-behind-requires c =
    let g = releasing c.args.s.now c.args.spot (search rules) c.requires in
    let e = c.read_u32-size.ensures.is ∙ g.read in
    λ h. let r = g.room (omega (arith, e)) in omega (arith, e)

pub overflow_sub-total : goal.overflow_sub-total
overflow_sub-total c = let g = releasing c.args.s.now c.args.spot (search rules) c.requires in omega (arith, g.below)

pub write_header-requires : goal.write_header-requires
write_header-requires c = let g = releasing c.args.s.now c.args.spot (search rules) c.requires in omega (arith, g.within, g.least)

pub write_header-requires-2 : goal.write_header-requires-2
write_header-requires-2 c = let g = releasing c.args.s.now c.args.spot (search rules) c.requires in omega (arith, g.below, g.within, g.least)

pub returns : goal.returns
returns c =
    let l = c.args.s.now in
    let p = c.args.spot.place.0 in
    let y = c.args.spot.free.0 in
    let size = c.read_u32-size.result in
    let behind = c.swallow-behind.result in
    let bytes = c.swallow-behind.new.s in
    let g = releasing l c.args.spot (search rules) c.requires in
    let t = told l p y size behind bytes g c.read_u32-size.ensures.is c.swallow-behind.ensures in
    let k = whole l p y size behind bytes g c.read_u32-size.ensures.is t in
    let run : ℕ → List ℕ → List ℕ = λ n r. put y (header (block n 0)) r in
    let e : put y (header (block (p - y + size + behind) 0)) c.if-first-at.s ≡ changed (freed p) l =
    elim c.if-first-at.branch [
      | then-first-at w ↦
          ap (run (p - y + size + behind)) (w.s-is ∙ w.write_header.ensures ∙ ap (λ (x : Swallowed). put p (header (block 0 0)) x.bytes) t)
          ∙ ap (λ (n : ℕ). run n (put p (header (block 0 0)) g.bytes)) k
          ∙ g.pair w.if-first-at.true
      | else-first-at w ↦
          ap (run (p - y + size + behind)) (w.s-is ∙ ap (λ (x : Swallowed). x.bytes) t)
          ∙ ap (λ (n : ℕ). run n g.bytes) k
          ∙ g.lone w.if-first-at.false
    ] in
    record {
      bytes = c.write_header-2.ensures ∙ e;
      runs = λ m. g.runs m ∙ ap (λ (n : ℕ). leb m n || fits m (blocks_of l)) (sym k);
    }
