-- A copy of four bytes over a part of the bytes is these bytes put there.
use Rattle.std.proofs.Common.{◌+◌, ◌-◌, ◌≡◌, arith, ◌∙◌}
use Rattle.model.specs.Bytes.{le32}
use Rattle.layout.proofs.Writing.{put_mid-put}
use Rattle.layout.proofs.header.write_u32.Goals as goal

pub returns : goal.returns
unfolding le32
returns c =
    let a = c.args in
    let k : a.at + 4 - a.at ≡ 4 = omega arith in
    let e : c.copy_from_slice.new.self ≡ le32 a.n = c.copy_from_slice.ensures.after ∙ rw c.to_le_bytes-bytes.ensures in
    rw (k, e) (put_mid-put a.at (le32 a.n) a.s.now c.requires)
