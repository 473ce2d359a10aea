-- Examples of numbers, by computation. Assumes nothing.
use mathlib.Core.Path.{◌≡◌, refl}
use mathlib.Core.List.{[], ◌∷◌}
use Rattle.std.specs.Prelude.{None}
use Rattle.numbers.specs.Number.{number, number_of, encode, decode, groups}

zero : number_of (0x00 ∷ []) ≡ number 0 1
unfolding decode
zero = refl

two_bytes : number_of (0xC8 ∷ 0x01 ∷ []) ≡ number 200 2
unfolding decode
two_bytes = refl

not_shortest : number_of (0x80 ∷ 0x00 ∷ []) ≡ None
unfolding decode
not_shortest = refl

cut_off : number_of (0x80 ∷ []) ≡ None
unfolding decode
cut_off = refl

greatest : number_of (0xFF ∷ 0xFF ∷ 0xFF ∷ 0xFF ∷ 0x0F ∷ []) ≡ number 4294967295 5
unfolding decode
greatest = refl

too_large : number_of (0xFF ∷ 0xFF ∷ 0xFF ∷ 0xFF ∷ 0x10 ∷ []) ≡ None
unfolding decode
too_large = refl

written : encode 200 ≡ 0xC8 ∷ 0x01 ∷ []
unfolding groups
written = refl

written-greatest : encode 4294967295 ≡ 0xFF ∷ 0xFF ∷ 0xFF ∷ 0xFF ∷ 0x0F ∷ []
unfolding groups
written-greatest = refl
