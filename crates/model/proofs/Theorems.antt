-- What is proved of the calls: first over any rules that meet the laws, then for the pools that create makes, with size kinds and without, of either order. Assumes nothing.
use Prim.Native.Nat.{ℕ, ◌+◌, ◌-◌, ◌*◌, ◌^◌, ◌≤◌, ◌<◌}
use mathlib.Core.Path.{◌≡◌, refl, ◌∙◌}
use mathlib.Core.Bool.{true, false}
use mathlib.Core.Logic.{◌↔◌, ◌⊎◌}
use mathlib.Core.List.{List}
use mathlib.Core.Option.{Option, none, some}
use native.Mathlib.Omega.{arith}
use lib.ListN.{length, get_or}
use lib.Dec.{leb}
use lib.IntN.{pos}
use borrow.Author.Tests.{leb-true}
use Rattle.model.specs.Limits.{most_tasks, longest_pool, lowest_priority, minus, e_ok, waiting, already_free}
use Rattle.model.specs.Blocks.{Block}
use Rattle.model.specs.Waiting.{Entry, waits, entry_in}
use Rattle.model.specs.Sizes.{kind, last_place, kinds_from, top_kind, SmallestKind}
use Rattle.model.specs.Rules.{Rules, Laws, Attributes, queued, is_without_kinds, most_asked, ok_size, ok_priority, rounded, rules}
use Rattle.model.specs.Calls.{BlockOffset, no_place, Request, Call, get, release, Refusal, refuse, entry_of, blocks, is_live, step}
use Rattle.model.specs.Refusals.{Refused}
use Rattle.model.specs.Runs.{after, run, refuses, refused_by, end_code, Spared, releases, Unpassed, NoneBetter, Others, Ranked, OfPriority}
use Rattle.model.specs.Bytes.{blocks_of, render}
use Rattle.model.specs.Places.{no_entry, entries_of, queue_of}
use Rattle.model.specs.Demands.{Seen, NoTrace, undo, Undone, Timeout, Untimed, StaysBehind, EndsWithin, Reached, OneHolder}
use Rattle.model.specs.Pool.{Stored, Typed, Fifo, ByPriority, view, waiters, wait_bound, rules_of, is_sound, perform, create}
use Rattle.model.proofs.Tests.{clash, and_l, and_r}
use Rattle.model.proofs.Bytes.{blocks-render, render-blocks}
use Rattle.model.proofs.Places.{queued-live, used-pad, queue_entries}
use Rattle.model.proofs.Waiting.{queued-order, queued-length}
use Rattle.model.proofs.Store.{open_blocks}
use Rattle.model.proofs.Soundness.{open_sound}
use Rattle.model.proofs.Fates.{none_away}
use Rattle.model.proofs.Pool as P
use Rattle.model.proofs.Pool.{open_stored}
use Rattle.model.proofs.Sizes.{kinds_rule, top_holds, top_least}
use Rattle.model.proofs.Rules.{open_size, rounds, entry-allowed, rules_laws, rules-long, fifo_rank, rank-order, rules_ranked, fifo_ranked, rules_unpassed, fifo_unpassed}
use Rattle.model.proofs.Reached.{bound_reached}

module _ (R : Attributes → ℕ → Rules) (law : (a : Attributes) (n : ℕ) → Laws (R a n)) (long-is : (a : Attributes) (n : ℕ) → (R a n).long ≡ n) where
  -- ---- a sound state stays sound

  pub create-sound : (a : Attributes) (l : List ℕ) → (R a (length l)).valid ≡ true → is_sound R (create R a l).state ≡ true
  create-sound a l v = P.create-sound R law long-is a l v

  -- create takes what the queue of a sound state keeps, and every call keeps it
  pub sound_taken : (p : Stored) → is_sound R p ≡ true → (create R p.queue.attributes p.bytes).said.code ≡ e_ok
  unfolding create
  sound_taken p h = let K = rules_of R p in rw (open_sound K (blocks K) (view p) (open_stored K p h).0).valid

  pub attributes_kept : (c : Call) (p : Stored) → (perform R c p).state.queue.attributes ≡ p.queue.attributes
  attributes_kept c p = P.attributes_by (rules_of R p) c p

  pub call-sound : (c : Call) (p : Stored) → is_sound R p ≡ true → is_sound R (perform R c p).state ≡ true
  call-sound c p h = P.perform-sound R law long-is c p h

  pub run_sound : (p : Stored) (cs : List Call) → is_sound R p ≡ true → is_sound R (after (perform R) p cs) ≡ true
  run_sound p cs h = P.after-sound R law long-is p cs h

  -- ---- demand 1, for any bytes, queue and numbers

  -- a code other than 0 and 1 comes with offset 0 and nobody woken, and leaves every byte and the queue
  pub refusal_keeps : (c : Call) (p : Stored) (k : Refusal) → refused_by (perform R c p).said ≡ some k → perform R c p ≡ refuse p k
  refusal_keeps c p k e = P.refusal_keeps (rules_of R p) c p k e

  -- and is answered exactly as the table of refusals says
  pub refusal_when : (c : Call) (p : Stored) (k : Refusal) → (refused_by (perform R c p).said ≡ some k) ↔ Refused (rules_of R p) (blocks (rules_of R p)) (is_sound R p) (view p) c k
  refusal_when c p k = P.refusal_when (rules_of R p) c p k

  -- a release is refused exactly if there is a reason or the state is not sound; every call that is not refused has none
  pub release_refused_when : (o : BlockOffset) (p : Stored)
      → (refuses (perform R (release o) p).said.code ≡ true) ↔ ((((perform R (release o) p).said.reason ≡ 0) → ⊥) ⊎ (is_sound R p ≡ false))
  release_refused_when o p = P.release-refused (rules_of R p) o p

  pub done_no_reason : (c : Call) (p : Stored) → refused_by (perform R c p).said ≡ none → ((perform R c p).said.reason ≡ 0) × ((perform R c p).said.place ≡ no_place)
  done_no_reason c p e = P.done_no_reason (rules_of R p) c p e

  -- in a sound state: exactly if the offset is not that of a live block
  pub release-refused-live : (o : BlockOffset) (p : Stored) → is_sound R p ≡ true
      → (refuses (perform R (release o) p).said.code ≡ true) ↔ (is_live (rules_of R p) (blocks (rules_of R p)) o (view p).pool ≡ false)
  release-refused-live o p h = P.release-refused-live (rules_of R p) o p h

  -- with the reasons 3 and 4 the place is the header of the one block whose bytes hold the offset
  pub release-place : (o : BlockOffset) (p : Stored) → already_free ≤ (perform R (release o) p).said.reason → OneHolder o.0 (blocks_of p.bytes) (perform R (release o) p).said.place.0
  release-place o p h = P.release-place (rules_of R p) o p h

  -- ---- demand 2

  -- a call on bytes and places is told what the call on block list and entries is told, and leaves what that leaves
  pub call-seen : (c : Call) (p : Stored) → is_sound R p ≡ true → Seen R c p
  call-seen c p h = P.perform-seen R law long-is c p h

  pub run-seen : (p : Stored) (cs : List Call) → is_sound R p ≡ true → run (perform R) p cs ≡ run (step (rules_of R p) (blocks (rules_of R p))) (view p) cs
  run-seen p cs h = P.run-view R law long-is p cs h

  -- block list from bytes
  pub blocks_of_render : (a : Attributes) (bs : List Block) (l : List ℕ) → (R a (length l)).valid ≡ true → (blocks (R a (length l))).sound bs ≡ true → blocks_of (render bs l) ≡ bs
  blocks_of_render a bs l v h =
      let n = length l in
      let L = law a n in
      let long = long-is a n in
      let o = open_blocks (R a n) bs h in
      blocks-render (R a n).tasks (omega (arith, L.tasks_most)) false bs l o.tiling (o.sums ∙ long) (omega (arith, L.long_most v, long))

  -- bytes from block list
  pub render_of_blocks : (p : Stored) → is_sound R p ≡ true → Typed p → render (blocks_of p.bytes) p.bytes ≡ p.bytes
  unfolding view
  render_of_blocks p h t =
      let K = rules_of R p in
      let o = open_blocks K (blocks_of p.bytes) (open_sound K (blocks K) (view p) (open_stored K p h).0).pool in
      render-blocks K.tasks p.bytes o.tiling (o.sums ∙ long-is p.queue.attributes (length p.bytes)) t.byte

  -- entries from places, and places from entries
  pub entries_of_queue : (a : Attributes) (n : ℕ) (q : List Entry) → queued (R a n) q ≡ true → entries_of (queue_of a q) ≡ q
  entries_of_queue a n q h = used-pad most_tasks q (queued-live (R a n) q h) (omega (arith, queued-length (R a n) q h, (law a n).tasks_most))

  pub queue_of_entries : (p : Stored) → is_sound R p ≡ true → Typed p → queue_of p.queue.attributes (entries_of p.queue) ≡ p.queue
  queue_of_entries p h t = queue_entries p.queue t.places (open_stored (rules_of R p) p h).1

  -- the woken list has room for all, and so has the queue, by `call-seen` and `entries-of-queue`
  pub woken_fit : (c : Call) (p : Stored) → is_sound R p ≡ true → length (perform R c p).said.woken ≤ most_tasks
  woken_fit c p h = P.woken_fit R law long-is c p h

  -- ---- demand 3

  -- first half, for every list of gets
  pub cancel_no_trace : (p : Stored) (f : Request) (rs : List Request) → is_sound R p ≡ true → Typed p → (perform R (get f) p).said.code ≡ waiting
      → Others f.task rs → Ranked (rules_of R p).rank ((rules_of R p).rank (entry_of f)) rs → NoTrace (perform R) p f rs
  cancel_no_trace p f rs h t z os rk = P.perform_no_trace R law long-is p f rs h t z os rk

  -- second half; a poll is a get with limit 0
  pub release_undoes : (p : Stored) (r : Request) → is_sound R p ≡ true → Typed p → (perform R (get r) p).said.code ≡ e_ok → Undone p (undo (perform R) p r)
  release_undoes p r h t z = P.perform_undone R law long-is p r h t z

  -- ---- timeouts, for every run after a get that was told to wait, if its task is neither served nor cancelled meanwhile

  -- a limit of n ticks: it waits through n ticks and leaves with -50 in the next
  pub timeout : (p : Stored) (f : Request) (n : ℕ) (cs : List Call) → is_sound R p ≡ true → f.limit ≡ pos n → (perform R (get f) p).said.code ≡ waiting
      → Spared f.task (run (perform R) (perform R (get f) p).state cs) → Timeout (perform R) waiters (perform R (get f) p).state f.task n cs
  timeout p f n cs h e z sp = P.perform_timeout R law long-is p f cs h z sp n e

  -- no limit: nobody wakes it
  pub unlimited : (p : Stored) (f : Request) (cs : List Call) → is_sound R p ≡ true → f.limit ≡ minus 1 → (perform R (get f) p).said.code ≡ waiting
      → Spared f.task (run (perform R) (perform R (get f) p).state cs) → Untimed (perform R) waiters (perform R (get f) p).state f.task cs
  unlimited p f cs h e z sp = P.perform_unlimited R law long-is p f cs h z sp e

  -- ---- order: a task that was told to wait is not passed

  -- As long as it waits, through whatever calls cs, a request of no better rank that is made then is not granted, and does not get a block before its wait
  -- has ended, whatever calls ds follow.
  pub never_passed : (p : Stored) (f : Request) (cs : List Call) (r : Request) (ds : List Call) → is_sound R p ≡ true → (perform R (get f) p).said.code ≡ waiting
      → end_code f.task (run (perform R) (perform R (get f) p).state cs) ≡ none → (rules_of R p).rank (entry_of f) ≤ (rules_of R p).rank (entry_of r)
      → StaysBehind (perform R) (after (perform R) (perform R (get f) p).state cs) f.task r ds
  never_passed p f cs r ds h z u k = P.perform-behind R law long-is p f cs h z r ds u k

  -- ---- the wait bound, for every run from a sound state in which the task t waits with the entry e

  -- With L live blocks and the task at place k of the queue, its wait ends at the latest in the (L + k - 1)-th successful release, and ends with a block
  -- if it is neither cancelled nor timed out, provided that nobody of better rank is granted or told to wait meanwhile.
  pub wait_bound_lem : (p : Stored) (t : ℕ) (e : Entry) (cs : List Call) → is_sound R p ≡ true → entry_in t (waiters p) ≡ some e
      → Unpassed (rules_of R p).rank t ((rules_of R p).rank e) (run (perform R) p cs)
      → wait_bound p t ≤ releases (run (perform R) p cs) → EndsWithin (perform R) p t (wait_bound p t) cs
  wait_bound_lem p t e cs h here up n = P.perform_bound R law long-is p t e cs h here up n

-- ---- size kinds

-- number i of the table, counted from 1, is 24 times 2^(i-1), less 12
pub kind_number : (i : ℕ) → 1 ≤ i → i ≤ last_place + 1 → get_or (kinds_from 0 (last_place + 1)) (i - 1) 0 ≡ 24 * 2 ^ (i - 1) - 12
kind_number = kinds_rule

-- the top kind is the smallest that is at least the greatest request
pub top_kind_lem : (m : ℕ) → m ≤ kind last_place → (m ≤ top_kind m) × ((j : ℕ) → m ≤ kind j → top_kind m ≤ kind j)
top_kind_lem m h = (top_holds m h, top_least m)

-- a size that may be asked is rounded to the smallest kind in use that holds it
pub pool_rounds : (a : Attributes) (n : ℕ) → is_without_kinds a ≡ false → (rules a n).valid ≡ true → (e : Entry) → (rules a n).allowed e ≡ true
    → SmallestKind a.greatest e.size (rounded a e.size)
pool_rounds = rounds

-- ---- what a sound queue holds

-- a task that waits asked for 1 byte to the greatest request
pub pool_sizes_asked : (p : Stored) (t : ℕ) (e : Entry) → is_sound rules p ≡ true → entry_in t (waiters p) ≡ some e → (1 ≤ e.size) × (e.size ≤ most_asked p.queue.attributes (length p.bytes))
unfolding view rules
pool_sizes_asked p t e h w =
    let K = rules_of rules p in
    let o = open_sound K (blocks K) (view p) (open_stored K p h).0 in
    let most = most_asked p.queue.attributes (length p.bytes) in
    let s = open_size most e.size (and_l (ok_size most e.size) (ok_priority e.priority) (entry-allowed K t e (waiters p) o.order w)) in
    (s.least, s.most)

-- with a priority of 1 to the lowest
pub pool-priorities-asked : (p : Stored) (t : ℕ) (e : Entry) → is_sound rules p ≡ true → entry_in t (waiters p) ≡ some e → (1 ≤ e.priority) × (e.priority ≤ lowest_priority)
unfolding view rules
pool-priorities-asked p t e h w =
    let K = rules_of rules p in
    let o = open_sound K (blocks K) (view p) (open_stored K p h).0 in
    let k = and_r (ok_size (most_asked p.queue.attributes (length p.bytes)) e.size) (ok_priority e.priority) (entry-allowed K t e (waiters p) o.order w) in
    (leb-true 1 e.priority (and_l (leb 1 e.priority) (leb e.priority lowest_priority) k), leb-true e.priority lowest_priority (and_r (leb 1 e.priority) (leb e.priority lowest_priority) k))

-- a queue by priority stands best first
pub pool_best_first : (p : Stored) → ByPriority p → is_sound rules p ≡ true → (i j : ℕ) → i ≤ j → j < length (waiters p)
    → (get_or (waiters p) i no_entry).priority ≤ (get_or (waiters p) j no_entry).priority
unfolding view rules
pool_best_first p b h i j k l =
    let K = rules_of rules p in
    let o = open_sound K (blocks K) (view p) (open_stored K p h).0 in
    let r = queued-order K (waiters p) o.order i j no_entry k l in
    rw b at r

-- ---- the pools that create makes

pub pool-create-sound : (a : Attributes) (l : List ℕ) → (rules a (length l)).valid ≡ true → is_sound rules (create rules a l).state ≡ true
pool-create-sound = create-sound rules rules_laws rules-long

pub pool_sound_taken : (p : Stored) → is_sound rules p ≡ true → (create rules p.queue.attributes p.bytes).said.code ≡ e_ok
pool_sound_taken = sound_taken rules rules_laws rules-long

pub pool_attributes_kept : (c : Call) (p : Stored) → (perform rules c p).state.queue.attributes ≡ p.queue.attributes
pool_attributes_kept = attributes_kept rules rules_laws rules-long

pub pool-call-sound : (c : Call) (p : Stored) → is_sound rules p ≡ true → is_sound rules (perform rules c p).state ≡ true
pool-call-sound = call-sound rules rules_laws rules-long

pub pool-run-sound : (p : Stored) (cs : List Call) → is_sound rules p ≡ true → is_sound rules (after (perform rules) p cs) ≡ true
pool-run-sound = run_sound rules rules_laws rules-long

pub pool_refusal_keeps : (c : Call) (p : Stored) (k : Refusal) → refused_by (perform rules c p).said ≡ some k → perform rules c p ≡ refuse p k
pool_refusal_keeps = refusal_keeps rules rules_laws rules-long

pub pool_refusal_when : (c : Call) (p : Stored) (k : Refusal) → (refused_by (perform rules c p).said ≡ some k) ↔ Refused (rules_of rules p) (blocks (rules_of rules p)) (is_sound rules p) (view p) c k
pool_refusal_when = refusal_when rules rules_laws rules-long

pub pool_release_refused_when : (o : BlockOffset) (p : Stored)
    → (refuses (perform rules (release o) p).said.code ≡ true) ↔ ((((perform rules (release o) p).said.reason ≡ 0) → ⊥) ⊎ (is_sound rules p ≡ false))
pool_release_refused_when = release_refused_when rules rules_laws rules-long

pub pool_done_no_reason : (c : Call) (p : Stored) → refused_by (perform rules c p).said ≡ none → ((perform rules c p).said.reason ≡ 0) × ((perform rules c p).said.place ≡ no_place)
pool_done_no_reason = done_no_reason rules rules_laws rules-long

pub pool-release-refused-live : (o : BlockOffset) (p : Stored) → is_sound rules p ≡ true
    → (refuses (perform rules (release o) p).said.code ≡ true) ↔ (is_live (rules_of rules p) (blocks (rules_of rules p)) o (view p).pool ≡ false)
pool-release-refused-live = release-refused-live rules rules_laws rules-long

pub pool-release-place : (o : BlockOffset) (p : Stored) → already_free ≤ (perform rules (release o) p).said.reason → OneHolder o.0 (blocks_of p.bytes) (perform rules (release o) p).said.place.0
pool-release-place = release-place rules rules_laws rules-long

pub pool-call-seen : (c : Call) (p : Stored) → is_sound rules p ≡ true → Seen rules c p
pool-call-seen = call-seen rules rules_laws rules-long

pub pool-run-seen : (p : Stored) (cs : List Call) → is_sound rules p ≡ true → run (perform rules) p cs ≡ run (step (rules_of rules p) (blocks (rules_of rules p))) (view p) cs
pool-run-seen = run-seen rules rules_laws rules-long

pub pool_blocks_of_render : (a : Attributes) (bs : List Block) (l : List ℕ) → (rules a (length l)).valid ≡ true → (blocks (rules a (length l))).sound bs ≡ true → blocks_of (render bs l) ≡ bs
pool_blocks_of_render = blocks_of_render rules rules_laws rules-long

pub pool_render_of_blocks : (p : Stored) → is_sound rules p ≡ true → Typed p → render (blocks_of p.bytes) p.bytes ≡ p.bytes
pool_render_of_blocks = render_of_blocks rules rules_laws rules-long

pub pool_entries_of_queue : (a : Attributes) (n : ℕ) (q : List Entry) → queued (rules a n) q ≡ true → entries_of (queue_of a q) ≡ q
pool_entries_of_queue = entries_of_queue rules rules_laws rules-long

pub pool_queue_of_entries : (p : Stored) → is_sound rules p ≡ true → Typed p → queue_of p.queue.attributes (entries_of p.queue) ≡ p.queue
pool_queue_of_entries = queue_of_entries rules rules_laws rules-long

pub pool_woken_fit : (c : Call) (p : Stored) → is_sound rules p ≡ true → length (perform rules c p).said.woken ≤ most_tasks
pool_woken_fit = woken_fit rules rules_laws rules-long

-- in a FIFO pool for every list of gets, in either order where all have the first one's priority
pub fifo_cancel_no_trace : (p : Stored) (f : Request) (rs : List Request) → Fifo p → is_sound rules p ≡ true → Typed p → (perform rules (get f) p).said.code ≡ waiting
    → Others f.task rs → NoTrace (perform rules) p f rs
fifo_cancel_no_trace p f rs o h t z os = cancel_no_trace rules rules_laws rules-long p f rs h t z os (fifo_ranked p.queue.attributes (length p.bytes) o (entry_of f) rs)

pub pool_cancel_no_trace : (p : Stored) (f : Request) (rs : List Request) → is_sound rules p ≡ true → Typed p → (perform rules (get f) p).said.code ≡ waiting
    → Others f.task rs → OfPriority f.priority rs → NoTrace (perform rules) p f rs
pool_cancel_no_trace p f rs h t z os k = cancel_no_trace rules rules_laws rules-long p f rs h t z os (rules_ranked p.queue.attributes (length p.bytes) (entry_of f) rs k)

pub pool_release_undoes : (p : Stored) (r : Request) → is_sound rules p ≡ true → Typed p → (perform rules (get r) p).said.code ≡ e_ok → Undone p (undo (perform rules) p r)
pool_release_undoes = release_undoes rules rules_laws rules-long

pub pool_timeout : (p : Stored) (f : Request) (n : ℕ) (cs : List Call) → is_sound rules p ≡ true → f.limit ≡ pos n → (perform rules (get f) p).said.code ≡ waiting
    → Spared f.task (run (perform rules) (perform rules (get f) p).state cs) → Timeout (perform rules) waiters (perform rules (get f) p).state f.task n cs
pool_timeout = timeout rules rules_laws rules-long

pub pool_unlimited : (p : Stored) (f : Request) (cs : List Call) → is_sound rules p ≡ true → f.limit ≡ minus 1 → (perform rules (get f) p).said.code ≡ waiting
    → Spared f.task (run (perform rules) (perform rules (get f) p).state cs) → Untimed (perform rules) waiters (perform rules (get f) p).state f.task cs
pool_unlimited = unlimited rules rules_laws rules-long

-- in a FIFO pool by nobody that asks later, in either order by nobody of worse or equal priority that does
pub fifo_never_passed : (p : Stored) (f : Request) (cs : List Call) (r : Request) (ds : List Call) → Fifo p → is_sound rules p ≡ true → (perform rules (get f) p).said.code ≡ waiting
    → end_code f.task (run (perform rules) (perform rules (get f) p).state cs) ≡ none
    → StaysBehind (perform rules) (after (perform rules) (perform rules (get f) p).state cs) f.task r ds
fifo_never_passed p f cs r ds o h z u =
    let rank = fifo_rank p.queue.attributes (length p.bytes) o (entry_of f) in
    never_passed rules rules_laws rules-long p f cs r ds h z u (omega (arith, rank))

pub pool_never_passed : (p : Stored) (f : Request) (cs : List Call) (r : Request) (ds : List Call) → is_sound rules p ≡ true → (perform rules (get f) p).said.code ≡ waiting
    → end_code f.task (run (perform rules) (perform rules (get f) p).state cs) ≡ none → f.priority ≤ r.priority
    → StaysBehind (perform rules) (after (perform rules) (perform rules (get f) p).state cs) f.task r ds
pool_never_passed p f cs r ds h z u k =
    never_passed rules rules_laws rules-long p f cs r ds h z u (rank-order p.queue.attributes (length p.bytes) (entry_of f) (entry_of r) k)

-- in a FIFO pool whoever asks, in either order where nobody of better priority is granted or told to wait meanwhile
pub fifo_wait_bound : (p : Stored) (t : ℕ) (cs : List Call) → Fifo p → is_sound rules p ≡ true → waits t (waiters p) ≡ true
    → wait_bound p t ≤ releases (run (perform rules) p cs) → EndsWithin (perform rules) p t (wait_bound p t) cs
fifo_wait_bound p t cs o h w n = go (entry_in t (waiters p)) refl
  where
    go : (v : Option Entry) → entry_in t (waiters p) ≡ v → EndsWithin (perform rules) p t (wait_bound p t) cs
    go none e = clash (waits t (waiters p)) w (none_away t (waiters p) e)
    go (some x) e = wait_bound_lem rules rules_laws rules-long p t x cs h e (fifo_unpassed p.queue.attributes (length p.bytes) x o t (run (perform rules) p cs)) n

pub pool_wait_bound : (p : Stored) (t : ℕ) (e : Entry) (cs : List Call) → is_sound rules p ≡ true → entry_in t (waiters p) ≡ some e
    → NoneBetter t e.priority (run (perform rules) p cs)
    → wait_bound p t ≤ releases (run (perform rules) p cs) → EndsWithin (perform rules) p t (wait_bound p t) cs
pool_wait_bound p t e cs h here b n =
    wait_bound_lem rules rules_laws rules-long p t e cs h here (rules_unpassed p.queue.attributes (length p.bytes) e t (run (perform rules) p cs) b) n

-- for every number of live blocks and every place there is a wait that lasts so long
pub pool_bound_reached : (live k : ℕ) → 1 ≤ live → 12 * live ≤ longest_pool → 1 ≤ k → k ≤ most_tasks → Reached live k
pool_bound_reached = bound_reached
