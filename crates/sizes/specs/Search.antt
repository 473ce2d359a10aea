-- A step of the search for a kind.
use Rattle.std.specs.Prelude.{ℕ, ◌+◌, ◌-◌, cond, leb}
use Rattle.model.specs.Sizes.{kind}

-- the place behind w kinds from the place i on, where the last of these is below s, else i
abbrev pub skipped : ℕ → ℕ → ℕ → ℕ
skipped s i w = cond (leb s (kind (i + w - 1))) i (i + w)
