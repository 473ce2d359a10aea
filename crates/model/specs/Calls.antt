-- The calls, once, over what a pool can do: which test refuses a call, and what a call does that no test refuses.
use Rattle.std.specs.Prelude.{ℕ, ◌+◌, ◌-◌, ◌%◌, Bool, true, false, not, cond, ◌&&◌, List, [], ◌∷◌, ◌++◌, leb, ltb, eqb, ℤ, pos, negsuc}
use Rattle.std.proofs.Math.Option.{Option, none, some}
pub use Rattle.model.specs.declared.BlockOffset.{BlockOffset}
pub use Rattle.model.specs.declared.HeaderPlace.{HeaderPlace}
pub use Rattle.model.specs.declared.Woken.{Woken}
use Rattle.model.specs.Limits.{longest_limit, forever, e_ok, waiting, e_sys, e_par, e_id, e_ctx, e_obj, e_rlwai, e_tmout, out_of_range, misaligned, already_free, inside_block}
use Rattle.model.specs.Blocks.{Block, total, tiled, fits, first_fit, granted, live_at, free_at, holder, freed, sum_free, greatest_free}
use Rattle.model.specs.Waiting.{Entry, waits, remove, head_task, insert, blocked, expired, remaining}
use Rattle.model.specs.Rules.{Rules, ok_task, queued}

-- ---- offsets and places: converted only here

-- a block's *offset* is its header's place plus 8
abbrev pub offset_of : HeaderPlace → BlockOffset
offset_of p = record { 0 = p.0 + 8 }

-- the header's place of an offset that is at least 8
abbrev pub place_of : BlockOffset → HeaderPlace
place_of o = record { 0 = o.0 - 8 }

abbrev pub no_offset : BlockOffset
no_offset = record { 0 = 0 }

abbrev pub no_place : HeaderPlace
no_place = record { 0 = 0 }

-- an offset from the first block's on, and below the pool's length
abbrev pub in_range : Rules → BlockOffset → Bool
in_range K o = leb 8 o.0 && ltb o.0 K.long

-- ---- calls and answers

-- The time limit is signed: -1 is forever, 0 makes the get a poll, positive is ticks. The best priority is 1.
pub record Request : Type 0 where
  pub task : ℕ
  pub size : ℕ
  pub limit : ℤ
  pub priority : ℕ

-- every call but create
pub data Call : Type 0 where
  get : Request → Call
  release : BlockOffset → Call
  cancel : ℕ → Call
  tick : Call
  inquire : Call

abbrev pub poll : ℕ → ℕ → ℕ → Call
poll t n priority = get (record { task = t; size = n; limit = pos 0; priority = priority })

-- All that a caller is told. Reason and place are those of a refused release; they and inquire's three numbers are 0 where a call does not give them.
pub record Said : Type 0 where
  pub code : ℤ
  pub offset : BlockOffset
  pub reason : ℕ
  pub place : HeaderPlace
  pub woken : List Woken
  pub sum : ℕ
  pub greatest : ℕ
  pub head : ℕ

-- what is told, and the state that the call leaves
pub record Reply (S : Type 0) : Type 0 where
  pub said : Said
  pub state : S

abbrev pub says : ℤ → BlockOffset → List Woken → Said
says c o ws = record { code = c; offset = o; reason = 0; place = no_place; woken = ws; sum = 0; greatest = 0; head = 0 }

-- what a refusal tells
pub record Refusal : Type 0 where
  pub code : ℤ
  pub reason : ℕ
  pub place : HeaderPlace

-- by a code alone
abbrev pub plain : ℤ → Refusal
plain c = record { code = c; reason = 0; place = no_place }

-- of a release
abbrev pub because : ℕ → HeaderPlace → Refusal
because r a = record { code = e_par; reason = r; place = a }

-- a refusal: offset 0, nobody woken, nothing changed
abbrev pub refuse : {S : Type 0} → S → Refusal → Reply S
refuse s x =
    record {
      said = record { code = x.code; offset = no_offset; reason = x.reason; place = x.place; woken = []; sum = 0; greatest = 0; head = 0 };
      state = s;
    }

-- refused, or the reply of the call itself
abbrev pub decide : {S : Type 0} → S → Option Refusal → Reply S → Reply S
decide s (some x) r = refuse s x
decide s none r = r

-- the first test that fails decides
abbrev pub deny : {A : Type 0} → Bool → A → Option A → Option A
deny true x rest = some x
deny false x rest = rest

-- a limit that may be asked
abbrev pub ok_limit : ℤ → Bool
ok_limit (pos n) = leb n longest_limit
ok_limit (negsuc n) = eqb n 0

abbrev pub is_poll : ℤ → Bool
is_poll (pos n) = eqb n 0
is_poll (negsuc n) = false

-- the time left of a wait, from its limit: a limit of n ends in tick n + 1 after the call
abbrev pub left_of : ℤ → ℕ
left_of (pos n) = n + 1
left_of (negsuc n) = forever

abbrev pub entry_of : Request → Entry
entry_of r = record { task = r.task; size = r.size; left = left_of r.limit; priority = r.priority }

-- a task leaves the queue without a block
abbrev pub leaves : ℤ → ℕ → Woken
leaves c t = record { task = t; code = c; offset = no_offset }

unfoldable pub leave : ℤ → List ℕ → List Woken
leave c [] = []
leave c (t ∷ ts) = leaves c t ∷ leave c ts

-- ---- the pool

-- What the calls ask of a pool, and do to it; sizes are those of blocks, header included. `live`, `idle`: a live or a free block has its header at
-- the place. `holder`: the header of the block whose bytes hold the offset.
pub record Store (P : Type 0) : Type 0 where
  pub sound : P → Bool
  pub fits : ℕ → P → Bool
  pub place : ℕ → P → HeaderPlace
  pub grant : ℕ → ℕ → P → P
  pub live : HeaderPlace → P → Bool
  pub idle : HeaderPlace → P → Bool
  pub holder : BlockOffset → P → HeaderPlace
  pub free : HeaderPlace → P → P
  pub sum : P → ℕ
  pub greatest : P → ℕ

-- the block list: sound where its sizes add up to the pool's length and its blocks may follow one another
abbrev pub blocks : Rules → Store (List Block)
blocks K =
    record {
      sound = λ bs. eqb (total bs) K.long && tiled K.tasks false bs;
      fits = fits;
      place = λ n bs. record { 0 = first_fit n bs };
      grant = granted;
      live = λ p bs. live_at p.0 bs;
      idle = λ p bs. free_at p.0 bs;
      holder = λ o bs. record { 0 = holder o.0 bs };
      free = λ p bs. freed p.0 bs;
      sum = sum_free;
      greatest = greatest_free;
    }

pub record State (P : Type 0) : Type 0 where
  pub pool : P
  pub queue : List Entry

abbrev pub state : {P : Type 0} → P → List Entry → State P
state p q = record { pool = p; queue = q }

-- the tasks that were served, and the state that is left
pub record Served (P : Type 0) : Type 0 where
  pub woken : List Woken
  pub state : State P

abbrev pub noted : {P : Type 0} → Woken → Served P → Served P
noted w r = record { woken = w ∷ r.woken; state = r.state }

-- the reply of a call after which is served: those who leave first, then those who are served
abbrev pub wake : {P : Type 0} → List Woken → Served P → Reply (State P)
wake first r = record { said = says e_ok no_offset (first ++ r.woken); state = r.state }

module _ (K : Rules) {P : Type 0} (E : Store P) where
  -- ---- steps

  abbrev pub fitting : Entry → P → Bool
  fitting e p = E.fits (K.need e.size) p

  abbrev pub offset : Entry → P → BlockOffset
  offset e p = offset_of (E.place (K.need e.size) p)

  abbrev pub given : Entry → P → P
  given e p = E.grant (K.need e.size) e.task p

  abbrev pub wakes : Entry → P → Woken
  wakes e p = record { task = e.task; code = e_ok; offset = offset e p }

  -- *Serve*: while there is a head and it fits, grant it, remove it, and note it as woken; stop at the first that does not fit
  unfoldable pub serve : P → List Entry → Served P
  serve p [] = record { woken = []; state = state p [] }
  serve p (e ∷ q) =
      cond (fitting e p)
      (noted (wakes e p) (serve (given e p) q))
      (record { woken = []; state = state p (e ∷ q) })

  -- the head, if any, fits no free run
  unfoldable pub head_stuck : P → List Entry → Bool
  head_stuck p [] = true
  head_stuck p (e ∷ q) = not (fitting e p)

  -- *Sound*: pool and queue are as calls leave them, and the head fits no free run
  unfoldable pub sound : State P → Bool
  sound s = K.valid && (E.sound s.pool && (queued K s.queue && head_stuck s.pool s.queue))

  -- ---- the tests

  -- a request is granted at once: nobody who waits is served before it, and a run fits
  abbrev pub goes : Entry → State P → Bool
  goes e s = not (blocked K.rank (K.rank e) s.queue) && fitting e s.pool

  -- the offset of a live block
  abbrev pub is_live : BlockOffset → P → Bool
  is_live o p = leb 8 o.0 && E.live (place_of o) p

  -- why an offset is not that of a live block: the first that applies, with the header of the block that holds it
  abbrev pub misplaced : BlockOffset → P → Option Refusal
  misplaced o p =
      deny (not (in_range K o)) (because out_of_range no_place)
      (deny (not (eqb (o.0 % 4) 0)) (because misaligned no_place)
      (deny (E.idle (place_of o) p) (because already_free (place_of o))
      (deny (not (E.live (place_of o) p)) (because inside_block (E.holder o p)) none)))

  -- the tests of a call in a sound state, in order
  unfoldable pub tests : Call → State P → Option Refusal
  tests (get r) s =
      deny (not (ok_task K r.task)) (plain e_id)
      (deny (not (K.allowed (entry_of r) && ok_limit r.limit)) (plain e_par)
      (deny (waits r.task s.queue) (plain e_ctx)
      (deny (is_poll r.limit && not (goes (entry_of r) s)) (plain e_tmout) none)))
  tests (release o) s = misplaced o s.pool
  tests (cancel t) s = deny (not (ok_task K t)) (plain e_id) (deny (not (waits t s.queue)) (plain e_obj) none)
  tests tick s = none
  tests inquire s = none

  -- how a call is refused, if it is, given whether the state is sound
  abbrev pub verdict : Bool → Call → State P → Option Refusal
  verdict ok c s = deny (not ok) (plain e_sys) (tests c s)

  -- ---- the calls that no test refuses

  abbrev pub grants : Entry → State P → Reply (State P)
  grants e s = record { said = says e_ok (offset e s.pool) []; state = state (given e s.pool) s.queue }

  abbrev pub joins : Entry → State P → Reply (State P)
  joins e s = record { said = says waiting no_offset []; state = state s.pool (insert K.rank e s.queue) }

  unfoldable pub act : Call → State P → Reply (State P)
  act (get r) s = cond (goes (entry_of r) s) (grants (entry_of r) s) (joins (entry_of r) s)
  act (release o) s = wake [] (serve (E.free (place_of o) s.pool) s.queue)
  act (cancel t) s = wake (leaves e_rlwai t ∷ []) (serve s.pool (remove t s.queue))
  act tick s = wake (leave e_tmout (expired s.queue)) (serve s.pool (remaining s.queue))
  act inquire s =
      record {
        said = record { code = e_ok; offset = no_offset; reason = 0; place = no_place; woken = []; sum = E.sum s.pool; greatest = E.greatest s.pool; head = head_task s.queue };
        state = s;
      }

  unfoldable pub step : Call → State P → Reply (State P)
  step c s = decide s (verdict (sound s) c s) (act c s)
