-- What serving the queue leaves, and when it may be served.
use Rattle.std.specs.Prelude.{ℕ, ◌+◌, ◌≤◌, ◌<◌, ◌≡◌, true, false, List, length}
use Rattle.std.proofs.lemmas.List.Edits.{sets}
use Rattle.model.specs.declared.Attributes.{Attributes}
use Rattle.model.specs.declared.Entry.{Entry}
use Rattle.model.specs.declared.Woken.{Woken}
use Rattle.model.specs.Limits.{most_tasks, e_ok}
use Rattle.model.specs.Blocks.{Block, fits}
use Rattle.model.specs.Bytes.{blocks_of, render}
use Rattle.model.specs.Rules.{queued, rules}
use Rattle.model.specs.Calls.{no_offset, no_place, Served}
use Rattle.model.specs.Places.{used, tidy, queue_of}
use Rattle.model.specs.Pool.{Result, result_of}
use Rattle.layout.specs.Layout.{sound_pool}

-- what was served, behind k tasks that were noted in w, and the bytes x with the headers written; a queue that keeps a
abbrev pub served_as : Attributes → List ℕ → List Woken → ℕ → Served (List Block) → Result
served_as a x w k v = result_of (record { code = e_ok; offset = no_offset; reason = 0; place = no_place; woken = sets w k v.woken; queue = queue_of a v.state.queue }) (render v.state.pool x)

-- a sound pool and queue, room for all who may be woken, and no run longer than `most`
pub record Ready (a : Attributes) (l : List ℕ) (es : List Entry) (k most : ℕ) : Type 0 where
  pub pool : sound_pool l ≡ true
  pub queue : queued (rules a (length l)) (used es) ≡ true
  pub places : tidy es ≡ true
  pub room : k + length (used es) ≤ most_tasks
  pub longest : (need : ℕ) → most < need → fits need (blocks_of l) ≡ false
