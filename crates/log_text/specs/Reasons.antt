-- Why a line is refused, in words, with the newline.
use Rattle.std.specs.Prelude.{ℕ, List}
use Rattle.text.specs.Ascii.{ascii}
use Rattle.log_text.specs.declared.Why.{Why}
use Rattle.log_text.specs.declared.Why.TheVariants.{UnknownWord, MissingNumber, NumberTooLarge, TooManyNumbers, NoPoolLine, TooManyRecords}

abbrev pub why_text : Why → List ℕ
why_text UnknownWord = ascii "unknown word\n"
why_text MissingNumber = ascii "missing number\n"
why_text NumberTooLarge = ascii "number too large\n"
why_text TooManyNumbers = ascii "too many numbers\n"
why_text NoPoolLine = ascii "no pool line\n"
why_text TooManyRecords = ascii "more than 4,096 records\n"
