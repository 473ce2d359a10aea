-- The place found in the whole table is kept within the kinds in use.
use Rattle.std.proofs.Common.{◌≡◌, ◌∙◌, ℕ, ◌+◌, ◌-◌, max, min, arith}
use Rattle.model.specs.Sizes.{kinds_below}
use Rattle.sizes.proofs.Search.{place-within, kept}
use Rattle.sizes.proofs.kind_for.Goals as goal

kept_places : (top place : ℕ) → max (min place top + kinds_below) top - kinds_below ≡ max (top - kinds_below) (min place top)
kept_places top place = omega arith

pub overflow_add-place : goal.overflow_add-place
overflow_add-place c = record { fits = omega (arith, c.min-place.ensures, place-within _ _ c.place_for-top.ensures) }

pub kind-requires : goal.kind-requires
kind-requires c = omega (arith, place-within _ _ c.place_for-top.ensures)

pub returns : goal.returns
returns c = c.kind.ensures ∙ rw (c.max.ensures, c.min-place.ensures, kept_places c.place_for-top.result c.place_for.result) (kept _ _ _ _ c.place_for-top.ensures c.place_for.ensures)
