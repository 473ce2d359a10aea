-- Laws of decimal text. Assumes nothing.
use Prim.Native.Nat.{ℕ, zero, suc, ◌+◌, ◌-◌, ◌*◌, ◌/◌, ◌%◌, ◌<◌, ◌≤◌, ◌^◌}
use mathlib.Core.Path.{◌≡◌, refl, sym, ap, ◌∙◌}
use mathlib.Core.List.{List, [], ◌∷◌, ◌++◌}
use mathlib.Core.Bool.{true, ◌&&◌}
use mathlib.Core.Logic.{⊎_elim}
use native.Mathlib.Omega.{arith}
use native.Mathlib.Nat.{pow-suc}
use lib.ListN.{length, length-append}
use lib.Dec.{leb}
use borrow.Author.Tests.{lt-ltb, le-ltb, le-leb}
use Rattle.model.proofs.Tests.{and_i, and_l, and_r}
use Rattle.numbers.proofs.Decode.{side}
use Rattle.text.specs.Decimal.{digit, digits, decimal, value_from, all_digits}

-- the clauses of decimal text
digits_one : (k n : ℕ) → n < 10 → digits k n ≡ digit n ∷ []
unfolding digits
digits_one zero n h = refl
digits_one (suc k) n h = rw (lt-ltb n 10 h, digits)

digits_more : (k n : ℕ) → 10 ≤ n → digits (suc k) n ≡ digits k (n / 10) ++ (digit (n % 10) ∷ [])
unfolding digits
digits_more k n h = rw (le-ltb n 10 h, digits)

-- induction over the digits: what holds of one digit, and of a text with a digit behind it where it held of that text, holds of every decimal text
module _ (P : ℕ → List ℕ → Type 0)
    (one : (n : ℕ) → n < 10 → P n (digit n ∷ []))
    (more : (n : ℕ) (s : List ℕ) → 10 ≤ n → P (n / 10) s → P n (s ++ (digit (n % 10) ∷ []))) where
  digits_ind : (k n : ℕ) → n ≤ k → P n (digits k n)
  digits_ind zero n h = rw (digits_one 0 n (omega arith)) (one n (omega arith))
  digits_ind (suc k) n h =
      ⊎_elim
      (λ l. rw (digits_one (suc k) n l) (one n l))
      (λ l. rw (digits_more k n l) (more n (digits k (n / 10)) l (digits_ind k (n / 10) (omega arith))))
      (side n 10)

  pub decimal_ind : (n : ℕ) → P n (decimal n)
  decimal_ind n = digits_ind n n (omega arith)

-- any count of digits from n on is enough
digits_enough : (k n : ℕ) → n ≤ k → decimal n ≡ digits k n
digits_enough k n h = decimal_ind (λ m s. (j : ℕ) → m ≤ j → s ≡ digits j m) (λ m l j g. sym (digits_one j m l)) next n k h
  where
    next : (m : ℕ) (s : List ℕ) → 10 ≤ m → ((j : ℕ) → m / 10 ≤ j → s ≡ digits j (m / 10)) → (j : ℕ) → m ≤ j → s ++ (digit (m % 10) ∷ []) ≡ digits j m
    next m s l ih zero g = absurd (omega arith)
    next m s l ih (suc j) g = rw (digits_more j m l, ← ih j (omega arith))

pub decimal_one : (n : ℕ) → n < 10 → decimal n ≡ digit n ∷ []
decimal_one n h = digits_one n n h

pub decimal-more : (n : ℕ) → 10 ≤ n → decimal n ≡ decimal (n / 10) ++ (digit (n % 10) ∷ [])
decimal-more zero h = absurd (omega arith)
decimal-more (suc m) h = digits_more m (suc m) h ∙ rw (digits_enough m (suc m / 10) (omega arith))

pub length_more : (n : ℕ) → 10 ≤ n → length (decimal n) ≡ length (decimal (n / 10)) + 1
length_more n h = ap length (decimal-more n h) ∙ length-append (decimal (n / 10)) (digit (n % 10) ∷ [])

-- a number below 10^(k + 1) has at most k + 1 digits
pub length_most : (n k : ℕ) → n < 10 ^ suc k → length (decimal n) ≤ suc k
length_most = decimal_ind (λ n s. (k : ℕ) → n < 10 ^ suc k → length s ≤ suc k) (λ n h k l. omega arith) next
  where
    next : (n : ℕ) (s : List ℕ) → 10 ≤ n → ((k : ℕ) → n / 10 < 10 ^ suc k → length s ≤ suc k)
        → (k : ℕ) → n < 10 ^ suc k → length (s ++ (digit (n % 10) ∷ [])) ≤ suc k
    next n s h ih zero l = absurd (omega (arith, pow-suc 10 0))
    next n s h ih (suc k) l = simp length-append (omega (arith, ih k (omega (arith, pow-suc 10 (suc k)))))

-- the digits of a usize; of a u32, and of an i32 without its sign
pub length_word : (n : ℕ) → n < 18446744073709551616 → length (decimal n) ≤ 20
length_word n h = length_most n 19 (omega arith)

pub length_half : (n : ℕ) → n < 4294967296 → length (decimal n) ≤ 10
length_half n h = length_most n 9 (omega arith)

-- every byte is a digit
digits_append : (s : List ℕ) (d : ℕ) → d < 10 → all_digits s ≡ true → all_digits (s ++ (digit d ∷ [])) ≡ true
unfolding all_digits
digits_append [] d h e = rw (le-leb 48 (48 + d) (omega arith), le-leb (48 + d) 57 (omega arith))
digits_append (b ∷ s) d h e = and_i (leb 48 b && leb b 57) _ (and_l _ (all_digits s) e) (digits_append s d h (and_r (leb 48 b && leb b 57) _ e))

pub decimal-digits : (n : ℕ) → all_digits (decimal n) ≡ true
unfolding all_digits
decimal-digits = decimal_ind (λ n s. all_digits s ≡ true) (λ n h. digits_append [] n h refl) (λ n s h ih. digits_append s (n % 10) (omega arith) ih)

-- a digit more
pub value_append : (v : ℕ) (s : List ℕ) (d : ℕ) → value_from v (s ++ (digit d ∷ [])) ≡ 10 * value_from v s + d
unfolding value_from
value_append v [] d = omega arith
value_append v (b ∷ s) d = value_append (10 * v + (b - 48)) s d
