-- What the tests of a state answer, and a refusal.
use Rattle.std.specs.Prelude.{ℕ, cond, List, [], length, Result, Err, ok_or}
use Rattle.model.specs.declared.Queue.{Queue}
use Rattle.model.specs.declared.Answer.{Answer}
use Rattle.model.specs.declared.errors.CallError.{CallError}
use Rattle.model.specs.declared.errors.CallError.TheVariants.{Unsound}
use Rattle.model.specs.Rules.{Rules, rules}
use Rattle.model.specs.Calls.{no_offset, Refusal}
use Rattle.model.specs.Places.{woken_of}
use Rattle.model.specs.Pool.{stored, is_sound}
use Rattle.layout.specs.declared.Target.{Target}
use Rattle.layout.specs.declared.Survey.{Survey}
use Rattle.layout.specs.Layout.{survey_of}

-- the rules of a state
abbrev pub rules_in : List ℕ → Queue → Rules
rules_in l q = rules q.attributes (length l)

-- what the survey finds, where the state is sound
abbrev pub inspected : Target → List ℕ → Queue → Result Survey CallError
inspected t l q = cond (is_sound rules (stored l q)) (ok_or (survey_of t l) Unsound) (Err Unsound)

-- nobody woken, the queue kept
abbrev pub refusal : Refusal → Queue → Answer
refusal x q = record { code = x.code; offset = no_offset; reason = x.reason; place = x.place; woken = woken_of []; queue = q }
