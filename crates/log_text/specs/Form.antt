-- The words of the text form of a log, and what stands behind each.
use Rattle.std.specs.Prelude.{ℕ, ◌+◌, ◌<◌, ◌≤◌, List, [], ◌∷◌, length, get_or}
use Rattle.text.specs.Ascii.{ascii}
use Rattle.log_text.specs.declared.Keyword.{Keyword}
use Rattle.log_text.specs.declared.Keyword.TheVariants.{Pool, Get, Poll, Release, Cancel, Tick, Unknown}
use Rattle.log_text.specs.declared.Slot.{Slot}
use Rattle.log_text.specs.declared.Slot.TheVariants.{Number, Limit, Priority, Order}

-- the words
abbrev pub keyword_text : Keyword → List ℕ
keyword_text Pool = ascii "pool"
keyword_text Get = ascii "get"
keyword_text Poll = ascii "poll"
keyword_text Release = ascii "release"
keyword_text Cancel = ascii "cancel"
keyword_text Tick = ascii "tick"
keyword_text Unknown = []

abbrev pub limit_text : List ℕ
limit_text = ascii "limit"

abbrev pub priority_text : List ℕ
priority_text = ascii "priority"

-- what stands behind the first word of a line, in this order
abbrev pub form : Keyword → List Slot
form Pool = Number ∷ Order ∷ []
form Get = Number ∷ Number ∷ Limit ∷ Priority ∷ []
form Poll = Number ∷ Number ∷ Priority ∷ []
form Release = Number ∷ []
form Cancel = Number ∷ []
form Tick = []
form Unknown = []

-- the greatest number, and the greatest limit
abbrev pub number_most : ℕ
number_most = 4294967295

abbrev pub limit_most : ℕ
limit_most = 2147483647

-- the greatest argument of a slot. That of a number is the number; that of an option is 0 where it is not there, else its number plus 1, or 1 where it has none
abbrev pub slot_most : Slot → ℕ
slot_most Number = number_most
slot_most Limit = limit_most + 1
slot_most Priority = number_most + 1
slot_most Order = 1

-- each slot has an argument that it can have
pub record Bounded (ss : List Slot) (vs : List ℕ) : Type 0 where
  pub most : (i : ℕ) → i < length ss → get_or vs i 0 ≤ slot_most (get_or ss i Number)
