use Rattle.sizes.proofs.Search.{place-within}
use Rattle.sizes.proofs.is_greatest.Goals as goal

pub kind-top-requires : goal.kind-top-requires
kind-top-requires c = place-within _ _ c.place_for.ensures
