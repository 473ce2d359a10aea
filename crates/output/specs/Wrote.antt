-- What a function that writes bytes into a lent buffer at a place leaves there.
use Rattle.std.specs.Prelude.{ℕ, ◌+◌, ◌≡◌, List, [], cond, leb, length}
use Rattle.std.proofs.lemmas.List.Edits.{sets}

-- the bytes are stored in the buffer `before` from the place `at` on, every other byte is kept, and `next` is the place after them
pub record Wrote (before : List ℕ) (at : ℕ) (bytes after : List ℕ) (next : ℕ) : Type 0 where
  pub place : next ≡ at + length bytes
  pub stored : after ≡ sets before at bytes

-- the bytes, or none where they do not all fit into the buffer from the place `at` on
unfoldable pub fitted : List ℕ → ℕ → List ℕ → List ℕ
fitted buf at bytes = cond (leb (at + length bytes) (length buf)) bytes []
