-- The lines of the text, each with the newline that ends it.
use Rattle.std.specs.Prelude.{ℕ, suc, List, [], ◌∷◌, ◌++◌, Bool, false, cond, eqb, ℤ, pos, negsuc, length}
use Prim.Native.Char.{code}
use Rattle.text.specs.Ascii.{ascii}
use Rattle.text.specs.Decimal.{decimal, around}

-- an integer, with a minus sign where it is negative
abbrev pub signed : ℤ → List ℕ
signed (pos n) = decimal n
signed (negsuc n) = ascii "-" ++ decimal (suc n)

abbrev pub pool_line : ℕ → List ℕ
pool_line n = around (ascii "pool ") n (ascii "\n")

abbrev pub answer_line : ℤ → ℕ → List ℕ
answer_line code offset = signed code ++ around (ascii " ") offset (ascii "\n")

abbrev pub woken_line : ℕ → ℤ → ℕ → List ℕ
woken_line task code offset = around (ascii "w ") task (ascii " ") ++ answer_line code offset

abbrev pub end_line : ℕ → List ℕ
end_line k = around (ascii "end ") k (ascii " records\n")

abbrev pub bad_line : ℕ → List ℕ
bad_line p = around (ascii "bad log at ") p (ascii "\n")

abbrev pub refused_line : List ℕ
refused_line = ascii "pool refused -17\n"

abbrev pub too_long_line : List ℕ
too_long_line = ascii "log too long\n"

-- the most bytes of a line `code offset`, and of any line, where codes are i32, tasks u32 and other numbers usize
abbrev pub longest_answer : ℕ
longest_answer = 33

abbrev pub longest_line : ℕ
longest_line = 46

-- one newline, at the end
unfoldable pub is_line : List ℕ → Bool
is_line [] = false
is_line (b ∷ s) = cond (eqb b (code "\n")) (eqb (length s) 0) (is_line s)
