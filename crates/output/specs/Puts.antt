-- What a function that writes to an output leaves.
use Rattle.std.specs.Prelude.{ℕ, ◌+◌, ◌≤◌, ◌≡◌, List, length}
use Rattle.output.specs.declared.Output.{Output}
use Rattle.output.specs.Wrote.{Wrote}

-- n bytes more fit into the buffer
abbrev pub Room : ℕ → Output → Type 0
Room n out = out.end + n ≤ length out.buffer.now

-- the bytes stand in the same buffer behind those that were written before, and every other byte is kept
pub record Puts (before : Output) (bytes : List ℕ) (after : Output) : Type 0 where
  pub same_reference : after.buffer.ghost_name ≡ before.buffer.ghost_name
  pub wrote : Wrote before.buffer.now before.end bytes after.buffer.now after.end

-- the buffer has these bytes, and the next one is written at the place `end`
pub record Holds (out : Output) (buffer : List ℕ) (end : ℕ) : Type 0 where
  pub bytes : out.buffer.now ≡ buffer
  pub place : out.end ≡ end
