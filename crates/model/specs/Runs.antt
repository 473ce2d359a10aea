-- Runs: calls one after the other, each handed its state as the call before left it; what their answers say of a wait; and lists of gets.
use Rattle.std.specs.Prelude.{ℕ, zero, suc, ◌+◌, ◌≡◌, Bool, true, false, not, cond, ◌&&◌, List, [], ◌∷◌, ◌++◌, ltb, eqb, ℤ, pos, negsuc}
use Rattle.std.proofs.Math.Option.{Option, none, some}
use Rattle.model.specs.Limits.{e_ok, e_rlwai}
use Rattle.model.specs.Waiting.{Entry}
use Rattle.model.specs.Calls.{Woken, Request, Call, get, release, cancel, tick, inquire, Said, Refusal, Reply, entry_of}

-- a call of a run and what it was told
pub record Turn : Type 0 where
  pub call : Call
  pub said : Said

module _ {S : Type 0} (step : Call → S → Reply S) where
  -- the state that a run leaves
  unfoldable pub after : S → List Call → S
  after s [] = s
  after s (c ∷ cs) = after (step c s).state cs

  unfoldable pub run : S → List Call → List Turn
  run s [] = []
  run s (c ∷ cs) = record { call = c; said = (step c s).said } ∷ run (step c s).state cs

-- ---- codes

abbrev pub is_zero : ℤ → Bool
is_zero (pos n) = eqb n 0
is_zero (negsuc n) = false

-- the code of a refusal: neither 0 nor 1
unfoldable pub refuses : ℤ → Bool
refuses (pos zero) = false
refuses (pos (suc zero)) = false
refuses (pos (suc (suc n))) = true
refuses (negsuc n) = true

-- what was told, if it is a refusal
abbrev pub refusing : Refusal → Option Refusal
refusing x = cond (refuses x.code) (some x) none

abbrev pub refused_by : Said → Option Refusal
refused_by a = refusing (record { code = a.code; reason = a.reason; place = a.place })

-- ---- how a wait ends in a run

-- the code with which the task t is woken, if it is
unfoldable pub wake_code : ℕ → List Woken → Option ℤ
wake_code t [] = none
wake_code t (w ∷ ws) = cond (eqb w.task t) (some w.code) (wake_code t ws)

abbrev pub first_of : {A : Type 0} → Option A → Option A → Option A
first_of (some x) y = some x
first_of none y = y

-- the code with which the first call that wakes the task t does so, if one does
unfoldable pub end_code : ℕ → List Turn → Option ℤ
end_code t [] = none
end_code t (x ∷ l) = first_of (wake_code t x.said.woken) (end_code t l)

-- the wait of the task t is ended neither by a block nor by a cancellation
pub record Spared (t : ℕ) (l : List Turn) : Type 0 where
  pub unserved : end_code t l ≡ some e_ok → ⊥
  pub uncancelled : end_code t l ≡ some e_rlwai → ⊥

-- all whom a run wakes, in order
unfoldable pub wakings : List Turn → List Woken
wakings [] = []
wakings (x ∷ l) = x.said.woken ++ wakings l

-- the wait of the task u ends with a block, before that of the task t has ended
unfoldable pub served_before : (u t : ℕ) → List Woken → Bool
served_before u t [] = false
served_before u t (w ∷ ws) = cond (eqb w.task t) false (cond (eqb w.task u) (is_zero w.code) (served_before u t ws))

-- the ticks that pass with a call
abbrev pub passes : Call → ℕ
passes (get r) = 0
passes (release o) = 0
passes (cancel t) = 0
passes tick = 1
passes inquire = 0

unfoldable pub ticks : List Call → ℕ
ticks [] = 0
ticks (c ∷ cs) = passes c + ticks cs

abbrev pub is_release : Call → Bool
is_release (get r) = false
is_release (release o) = true
is_release (cancel t) = false
is_release tick = false
is_release inquire = false

-- a turn's successful releases, one or none, and a run's
abbrev pub released : Turn → ℕ
released x = cond (is_release x.call && is_zero x.said.code) 1 0

unfoldable pub releases : List Turn → ℕ
releases [] = 0
releases (x ∷ l) = released x + releases l

module _ (rank : Entry → ℕ) where
  -- a request of better rank than r that was granted or told to wait
  abbrev pub outranks : ℕ → Said → Call → Bool
  outranks r a (get q) = not (refuses a.code) && ltb (rank (entry_of q)) r
  outranks r a (release o) = false
  outranks r a (cancel t) = false
  outranks r a tick = false
  outranks r a inquire = false

  -- no such request as long as the task t waits
  unfoldable pub Unpassed : ℕ → ℕ → List Turn → Type 0
  Unpassed t r [] = Unit {0}
  Unpassed t r (x ∷ l) = (outranks r x.said x.call ≡ false) × (wake_code t x.said.woken ≡ none → Unpassed t r l)

-- no request of better priority than k
abbrev pub NoneBetter : ℕ → ℕ → List Turn → Type 0
NoneBetter t k l = Unpassed (λ e. e.priority) t k l

-- ---- lists of gets

unfoldable pub gets : List Request → List Call
gets [] = []
gets (r ∷ rs) = get r ∷ gets rs

-- which calls of a run were refused, and how
unfoldable pub refusals : List Turn → List (Option Refusal)
refusals [] = []
refusals (x ∷ l) = refused_by x.said ∷ refusals l

-- the task of a get
abbrev pub asker : Call → ℕ
asker (get r) = r.task
asker (release o) = 0
asker (cancel t) = 0
asker tick = 0
asker inquire = 0

-- the tasks whose gets answered 0, in order, with code 0 and the offsets answered
unfoldable pub winners : List Turn → List Woken
winners [] = []
winners (x ∷ l) = cond (is_zero x.said.code) (record { task = asker x.call; code = e_ok; offset = x.said.offset } ∷ winners l) (winners l)

-- no request is by the task t
unfoldable pub Absent : ℕ → List Request → Type 0
Absent t [] = Unit {0}
Absent t (r ∷ rs) = (r.task ≡ t → ⊥) × Absent t rs

-- by other tasks than t, each with any limit but 0, no task twice
unfoldable pub Others : ℕ → List Request → Type 0
Others t [] = Unit {0}
Others t (r ∷ rs) = (r.task ≡ t → ⊥) × (r.limit ≡ pos 0 → ⊥) × Absent r.task rs × Others t rs

-- all of the rank k
unfoldable pub Ranked : (Entry → ℕ) → ℕ → List Request → Type 0
Ranked rank k [] = Unit {0}
Ranked rank k (r ∷ rs) = (rank (entry_of r) ≡ k) × Ranked rank k rs

-- all of the priority k
abbrev pub OfPriority : ℕ → List Request → Type 0
OfPriority k rs = Ranked (λ e. e.priority) k rs
