-- What a function that fills a lent buffer answers and leaves there, and what a program responds by it.
use Rattle.std.specs.Prelude.{ℕ, ◌≤◌, Bool, true, false, cond, List, [], ◌++◌, leb, length, drop}
use Rattle.output.specs.Wrote.{Wrote}

pub record Outcome (A : Type 0) : Type 0 where
  pub answer : A
  pub buffer : List ℕ

abbrev pub outcome : {A : Type 0} → A → List ℕ → Outcome A
outcome a buf = record { answer = a; buffer = buf }

-- what there is to store: bytes, or a refusal
pub data Content (A : Type 0) : Type 0 where
  Content·bytes : List ℕ → Content A
  Content·refused : A → Content A

-- the bytes stand at the start of the buffer, every byte behind them is kept, and the answer is `done` of their length. A refusal keeps every byte, and so
-- does `short`, the answer where the buffer does not hold the bytes
abbrev pub fill : {A : Type 0} → (done : ℕ → A) → (short : A) → Content A → List ℕ → Outcome A
fill done short (Content·bytes s) buf = cond (leb (length s) (length buf)) (outcome (done (length s)) (s ++ drop (length s) buf)) (outcome short buf)
fill done short (Content·refused a) buf = outcome a buf

-- the answer where the buffer is long enough
abbrev pub answer_of : {A : Type 0} → (done : ℕ → A) → Content A → A
answer_of done (Content·bytes s) = done (length s)
answer_of done (Content·refused a) = a

abbrev pub is_bytes : {A : Type 0} → Content A → Bool
is_bytes (Content·bytes s) = true
is_bytes (Content·refused a) = false

abbrev pub bytes_in : {A : Type 0} → Content A → List ℕ
bytes_in (Content·bytes s) = s
bytes_in (Content·refused a) = []

-- ---- the response of a program: the bytes, or the line of the refusal

abbrev pub response_to : {A : Type 0} → (line : A → List ℕ) → Content A → List ℕ
response_to line (Content·bytes s) = s
response_to line (Content·refused a) = line a

-- in a buffer of at least `longest` bytes; nothing in a shorter one
abbrev pub response : {A : Type 0} → (longest : ℕ) → (line : A → List ℕ) → Content A → List ℕ → List ℕ
response longest line x buf = cond (leb longest (length buf)) (response_to line x) []

-- the bytes are written at the start of the buffer, and r is the place after them
pub record Responded (bytes buf after : List ℕ) (r : ℕ) : Type 0 where
  pub wrote : Wrote buf 0 bytes after r
  pub inside : r ≤ length buf
