-- Laws of reading seven-bit numbers, for any count of groups. Assumes nothing.
use Prim.Native.Nat.{ℕ, zero, suc, ◌+◌, ◌-◌, ◌*◌, ◌<◌, ◌≤◌, ◌^◌}
use mathlib.Core.Path.{◌≡◌, refl, sym, ap, ◌∙◌}
use mathlib.Core.List.{List, [], ◌∷◌}
use mathlib.Core.Logic.{◌⊎◌, inl, inr, ⊎_elim}
use native.Mathlib.Decide.{dec_lt}
use native.Mathlib.Omega.{arith}
use native.Mathlib.Nat.{pow-suc}
use lib.ListN.{length, get_or}
use borrow.Author.Tests.{lt-ltb, le-ltb, eq-eqb, ne_eqb}
use Rattle.std.specs.Prelude.{Option, Some, None}
use Rattle.numbers.specs.declared.Number.{Number}
use Rattle.numbers.specs.Number.{number, more, decode, bounded, number_of, number_bound}

pub side : (a b : ℕ) → (a < b) ⊎ (b ≤ a)
side a b = elim (dec_lt a b) [ yes h ↦ inl h | no h ↦ inr (omega arith) ]

pub no_value : {A : Type 0} {v n : ℕ} → None ≡ number v n → A
no_value e = let z : ◌≡◌ {A = ℕ} 0 1 = cc in absurd (omega arith)

-- equal numbers have one value and one count of bytes
pub value_same : {x y : Number} → Some x ≡ Some y → x.value ≡ y.value
value_same {x} {y} e = let p : x ≡ y = cc in ap (λ (z : Number). z.value) p

pub size_same : {x y : Number} → Some x ≡ Some y → x.size ≡ y.size
size_same {x} {y} e = let p : x ≡ y = cc in ap (λ (z : Number). z.size) p

-- the clauses of decoding
pub decode_one : (b : ℕ) (s : List ℕ) → b < 128 → decode (b ∷ s) ≡ number b 1
unfolding decode
decode_one b s h = simp (lt-ltb b 128 h)

pub decode-more : (b : ℕ) (s : List ℕ) → 128 ≤ b → decode (b ∷ s) ≡ more b (decode s)
unfolding decode
decode-more b s h = simp (le-ltb b 128 h)

-- induction over the groups: what holds of a last byte, and of a number with a byte in front where it held of that number, holds of every number
module _ (P : List ℕ → ℕ → ℕ → Type 0)
    (last : (b : ℕ) (s : List ℕ) → b < 128 → P (b ∷ s) b 1)
    (group : (b : ℕ) (s : List ℕ) (w m : ℕ) → 128 ≤ b → decode s ≡ number w m → 0 < w → P s w m → P (b ∷ s) (b - 128 + 128 * w) (m + 1)) where
  at_last : (b : ℕ) (s : List ℕ) (v n : ℕ) → b < 128 → number b 1 ≡ number v n → P (b ∷ s) v n
  at_last b s v n h e = rw (← value_same e, ← size_same e) (last b s h)

  at_group : (b : ℕ) (s : List ℕ) (v n : ℕ) → 128 ≤ b → ((w m : ℕ) → decode s ≡ number w m → P s w m)
      → (r : Option Number) → decode s ≡ r → more b r ≡ number v n → P (b ∷ s) v n
  at_group b s v n h ih None q e = no_value e
  at_group b s v n h ih (Some x) q e = ⊎_elim some none (side 0 x.value)
    where
      some : 0 < x.value → P (b ∷ s) v n
      some p =
          let f : number (b - 128 + 128 * x.value) (x.size + 1) ≡ number v n = simp (ne_eqb x.value 0 (λ z. omega arith)) at e in
          rw (← value_same f, ← size_same f) (group b s x.value x.size h q p (ih x.value x.size q))

      none : x.value ≤ 0 → P (b ∷ s) v n
      none z = no_value (simp (eq-eqb x.value 0 (omega arith)) at e)

  pub decode_ind : (s : List ℕ) (v n : ℕ) → decode s ≡ number v n → P s v n
  unfolding decode
  decode_ind [] v n e = no_value e
  decode_ind (b ∷ s) v n e =
      ⊎_elim
      (λ h. at_last b s v n h (sym (decode_one b s h) ∙ e))
      (λ h. at_group b s v n h (decode_ind s) (decode s) refl (sym (decode-more b s h) ∙ e))
      (side b 128)

-- a number has at least one byte, and no more than there are
pub decode-length : (s : List ℕ) (v n : ℕ) → decode s ≡ number v n → (1 ≤ n) × (n ≤ length s)
decode-length =
    decode_ind (λ s v n. (1 ≤ n) × (n ≤ length s))
    (λ b s h. omega arith)
    (λ b s w m h e p ih. omega arith)

-- a number below 128 is its only byte
pub decode-first : (s : List ℕ) (v n : ℕ) → decode s ≡ number v n → ((n ≡ 1) × (get_or s 0 0 ≡ v)) ⊎ (128 ≤ v)
decode-first =
    decode_ind (λ s v n. ((n ≡ 1) × (get_or s 0 0 ≡ v)) ⊎ (128 ≤ v))
    (λ b s h. inl (refl, refl))
    (λ b s w m h e p ih. inr (omega arith))

-- the last byte of a number v of k + 1 bytes: not 0 unless v is 0, and its weight is in v
pub record Last (s : List ℕ) (v k : ℕ) : Type 0 where
  pub positive : 0 < v → 0 < get_or s k 0
  pub weight : get_or s k 0 * 128 ^ k ≤ v

abbrev LastOf : List ℕ → ℕ → ℕ → Type 0
LastOf s v n = (k : ℕ) → n ≡ suc k → Last s v k

last_one : (b : ℕ) (s : List ℕ) → b < 128 → LastOf (b ∷ s) b 1
last_one b s h zero e = record { positive = λ p. p; weight = omega arith }
last_one b s h (suc k) e = absurd (omega arith)

last_group : (b : ℕ) (s : List ℕ) (w m : ℕ) → 128 ≤ b → decode s ≡ number w m → 0 < w → LastOf s w m → LastOf (b ∷ s) (b - 128 + 128 * w) (m + 1)
last_group b s w m h e p ih zero q = absurd (omega (arith, decode-length s w m e))
last_group b s w m h e p ih (suc k) q =
    let f : Last s w k = ih k (omega arith) in
    let x : get_or s k 0 * 128 ^ suc k ≡ 128 * (get_or s k 0 * 128 ^ k) = rw (pow-suc 128 k) (omega arith) in
    record { positive = λ z. f.positive p; weight = omega (arith, f.weight) }

pub decode-last : (s : List ℕ) (v n : ℕ) → decode s ≡ number v n → (k : ℕ) → n ≡ suc k → Last s v k
decode-last = decode_ind LastOf last_one last_group

-- a number of the log is one of any count of groups, below the bound
pub bounded_value : (r : Option Number) (v n : ℕ) → bounded r ≡ number v n → (r ≡ number v n) × (v < number_bound)
bounded_value None v n e = no_value e
bounded_value (Some x) v n e =
    ⊎_elim
    (λ h. let f : Some x ≡ number v n = simp (lt-ltb x.value number_bound h) at e in (f, omega (arith, value_same f)))
    (λ h. no_value (simp (le-ltb x.value number_bound h) at e))
    (side x.value number_bound)

pub bounded-small : (v n : ℕ) → v < number_bound → bounded (number v n) ≡ number v n
bounded-small v n h = simp (lt-ltb v number_bound h)

pub bounded_large : (v n : ℕ) → number_bound ≤ v → bounded (number v n) ≡ None
bounded_large v n h = simp (le-ltb v number_bound h)

pub number_decode : (s : List ℕ) (v n : ℕ) → number_of s ≡ number v n → decode s ≡ number v n
number_decode s v n e = (bounded_value (decode s) v n e).0
