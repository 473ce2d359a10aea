-- Laws of the line behind so many records. Assumes nothing.
use Prim.Native.Nat.{ℕ, ◌<◌, ◌≤◌}
use mathlib.Core.Path.{◌≡◌, refl}
use mathlib.Core.Bool.{true, false}
use borrow.Author.Tests.{lt-ltb, le-ltb}
use Rattle.std.specs.Prelude.{Result, Ok, Err}
use Rattle.call_log.specs.Log.{most_records}
use Rattle.log_text.specs.declared.Why.TheVariants.{TooManyRecords}
use Rattle.log_text.specs.declared.Why.{Why}
use Rattle.log_text.specs.declared.Line.{Line}
use Rattle.log_text.specs.declared.Line.TheVariants.{Blank, Pool, Call}
use Rattle.log_text.specs.Reading.{limited}
use Rattle.log_line.specs.Steps.{is_call}

pub limited-few : (count : ℕ) (y : Result Line Why) → count < most_records → y ≡ limited count y
limited-few count (Ok Blank) h = refl
limited-few count (Ok (Pool n order)) h = refl
limited-few count (Ok (Call r)) h = rw (lt-ltb count most_records h)
limited-few count (Err why) h = refl

pub limited-call : (count : ℕ) (y : Result Line Why) → most_records ≤ count → is_call y ≡ true → Err TooManyRecords ≡ limited count y
limited-call count (Ok (Call r)) h e = rw (le-ltb count most_records h)
limited-call count (Ok Blank) h e = cc
limited-call count (Ok (Pool n order)) h e = cc
limited-call count (Err why) h e = cc

pub limited_other : (count : ℕ) (y : Result Line Why) → is_call y ≡ false → y ≡ limited count y
limited_other count (Ok Blank) e = refl
limited_other count (Ok (Pool n order)) e = refl
limited_other count (Ok (Call r)) e = cc
limited_other count (Err why) e = refl
