-- The line by its first word, or that there is none.
use Rattle.std.proofs.Common.{◌≡◌, true, refl, ◌∙◌}
use Rattle.log_text.specs.declared.Keyword.{Keyword}
use Rattle.log_text.specs.declared.Keyword.TheVariants as keyword
use Rattle.log_text.specs.Reading.{is_known}
use Rattle.log_line.proofs.Taking.{line-blank, line-unknown, line_known}
use Rattle.log_line.proofs.read_words.Goals as goal

is_known_lem : (k : Keyword) → ¬ (k ≡ keyword.Unknown) → is_known k ≡ true
is_known_lem keyword.Pool h = refl
is_known_lem keyword.Get h = refl
is_known_lem keyword.Poll h = refl
is_known_lem keyword.Release h = refl
is_known_lem keyword.Cancel h = refl
is_known_lem keyword.Tick h = refl
is_known_lem keyword.Unknown h = absurd (h refl)

pub returns-in_default : goal.returns-in_default
returns-in_default c = line-blank _ _ c.in_default.ensures

pub returns-in-Unknown : goal.returns-in-Unknown
returns-in-Unknown c = rw c.unknown_word.ensures (line-unknown c.in-Some.ensures _ c.in-Unknown.ensures refl)

pub returns-in_default-keyword_of : goal.returns-in_default-keyword_of
returns-in_default-keyword_of c =
    c.read_slots.ensures ∙ line_known c.in-Some.ensures _ c.keyword_of.ensures (is_known_lem _ c.in_default-keyword_of.not-Unknown)
