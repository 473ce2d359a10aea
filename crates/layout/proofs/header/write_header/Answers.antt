-- The size and behind it the owner are the header put at the place.
use Rattle.std.proofs.Common.{◌+◌, refl, ap, ◌∙◌}
use Rattle.model.specs.Bytes.{le32, header}
use Rattle.layout.specs.Layout.{put}
use Rattle.layout.proofs.Writing.{put-put}
use Rattle.layout.proofs.header.write_header.Goals as goal

pub returns : goal.returns
unfolding le32 header
returns c =
    let a = c.args in
    c.write_u32-2.ensures ∙ ap (put (a.place.0 + 4) (le32 a.owner)) c.write_u32.ensures ∙ put-put a.place.0 (a.place.0 + 4) (le32 a.size) (le32 a.owner) a.s.now refl
