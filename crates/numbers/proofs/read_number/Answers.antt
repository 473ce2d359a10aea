use Rattle.std.proofs.Common.{◌+◌, ◌≡◌, refl, sym, arith, zero-add, one-mul, get_or, ◌∙◌}
use Rattle.numbers.proofs.Reading.{rest_length, rest_byte, reading_start, reading_end, reading_zero, reading_last, reading_more, reading_fifth}
use Rattle.numbers.proofs.read_number.Goals as goal

pub returns-in_err-first : goal.returns-in_err-first
returns-in_err-first c = c.from_residual.ensures ∙ reading_end (reading_start c.args.s.now) (omega (arith, c.in_err-first.ensures.cases))

pub returns-then-is_whole : goal.returns-then-is_whole
returns-then-is_whole c =
    let split = c.in_ok-first.ensures.cases.0 in
    let first : c.from-first.result ≡ get_or c.args.s.now 0 0 = c.from-first.ensures ∙ rw split in
    rw first (simp (zero-add, one-mul) at
    (reading_last (reading_start c.args.s.now) (omega (arith, rest_length split)) (omega arith) (λ z. absurd (omega arith)) (λ z. refl)))

pub loop-i-init : goal.loop-i-init
loop-i-init c =
    let split = c.in_ok-first.ensures.cases.0 in
    let first : c.from-first.result ≡ get_or c.args.s.now 0 0 = c.from-first.ensures ∙ rw split in
    let fits = (c.type_inv.s 0).fits in
    rw first (simp (zero-add, one-mul) at
    (reading_more (reading_start c.args.s.now) (omega (arith, rest_length split)) (omega arith) fits (λ z. absurd (omega arith))))

pub returns-then-byte-gt-FIFTH_MOST : goal.returns-then-byte-gt-FIFTH_MOST
returns-then-byte-gt-FIFTH_MOST c =
    let split = c.in_ok-first.ensures.cases.0 in
    let byte = c.from-byte.ensures ∙ sym (rest_byte split c.loop-i.i) in
    reading_fifth c.loop-i.invariant (omega (arith, rest_length split)) (omega arith) (omega (arith, byte))

pub returns-then-is_empty : goal.returns-then-is_empty
returns-then-is_empty c =
    let split = c.in_ok-first.ensures.cases.0 in
    let byte = c.from-byte.ensures ∙ sym (rest_byte split c.loop-i.i) in
    reading_zero c.loop-i.invariant (omega (arith, rest_length split)) (omega (arith, byte)) (omega arith)

pub returns-then-byte-lt128 : goal.returns-then-byte-lt128
returns-then-byte-lt128 c =
    let split = c.in_ok-first.ensures.cases.0 in
    let byte = c.from-byte.ensures ∙ sym (rest_byte split c.loop-i.i) in
    let size : c.loop-i.i + 2 ≡ c.loop-i.i + 1 + 1 = omega arith in
    rw (size, byte)
    (reading_last c.loop-i.invariant (omega (arith, rest_length split)) (omega (arith, byte))
    (λ z. omega (arith, c.else-i-eq3.either, byte)) (λ z. absurd (c.if-is_empty.false (omega (arith, byte)))))

pub loop-i-preserved : goal.loop-i-preserved
loop-i-preserved c =
    let split = c.in_ok-first.ensures.cases.0 in
    let byte = c.from-byte.ensures ∙ sym (rest_byte split c.loop-i.i) in
    let fits = (c.type_inv.s (c.loop-i.i + 1)).fits in
    rw byte
    (reading_more c.loop-i.invariant (omega (arith, rest_length split)) (omega (arith, byte)) fits (λ z. omega (arith, c.else-i-eq3.either, byte)))

pub returns : goal.returns
returns c = reading_end c.loop-i.invariant (omega (arith, rest_length c.in_ok-first.ensures.cases.0))
