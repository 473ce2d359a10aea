-- The first stage of a log: its line `pool N` and the text of its records are the whole text. Assumes nothing.
use Prim.Native.Nat.{ℕ, zero, suc, ◌+◌, ◌≤◌}
use mathlib.Core.Path.{◌≡◌, refl, sym, ap, ◌∙◌}
use mathlib.Core.Bool.{true}
use mathlib.Core.List.{List, ◌∷◌, ◌++◌}
use native.Mathlib.Omega.{arith}
use mir.Syntax.{w32}
use mir.Val.{of_z}
use lib.ListN.{length, take, drop, replicate, length-replicate}
use lib.Seq.{take-append_seam}
use Rattle.model.specs.declared.Answer.{Answer}
use Rattle.model.specs.declared.Attributes.{Attributes}
use Rattle.model.specs.Limits.{e_par}
use Rattle.model.specs.Rules.{rules}
use Rattle.model.specs.Pool.{Result, Stored, stored, create, result_of, created}
use Rattle.model.proofs.Tests.{by}
use Rattle.output.specs.declared.Output.{Output}
use Rattle.output.specs.Wrote.{Wrote}
use Rattle.output.specs.Puts.{Puts}
use Rattle.output.proofs.Wrote.{wrote-parts}
use Rattle.call_log.specs.Log.{start, start_of}
use Rattle.transcript.specs.Lines.{pool_line, longest_line}
use Rattle.transcript.specs.Transcript.{longest_log, records_text, fresh_pool, transcript_of}
use Rattle.transcript.proofs.Theorems.{fresh_pool-code, transcript_pool}
use Rattle.stages.specs.Stages.{Empty, Lent}

-- what was written at the start of a buffer
written : {l m s : List ℕ} {next : ℕ} → Wrote l 0 s m next → length s ≤ length l → take next m ≡ s
written {l} {m} {s} {next} w h =
    let n : next ≡ length s = w.place ∙ omega arith in
    rw (n, wrote-parts w (omega (arith, h))) (take-append_seam s (drop (0 + length s) l))

-- the zeros that are lent of a buffer of zeros
take-zeros : (n m : ℕ) → n ≤ m → take n (replicate {A = ℕ} m 0) ≡ replicate n 0
take-zeros zero m h = refl
take-zeros (suc n) zero h = absurd (omega (arith, h))
take-zeros (suc n) (suc m) h = ap (λ (l : List ℕ). 0 ∷ l) (take-zeros n m (omega (arith, h)))

pub lent : {log : List ℕ} {out : Output} {place m : ℕ} (a : Attributes) (n : ℕ) → length log ≤ longest_log → Empty out → start_of log ≡ start n a.order place → n ≤ m
    → Lent log out place a (take n (replicate m 0))
lent {m = m} a n h empty e k =
    let z : take n (replicate {A = ℕ} m 0) ≡ replicate n 0 = take-zeros n m k in
    let same : length (take n (replicate {A = ℕ} m 0)) ≡ n = ap length z ∙ length-replicate n 0 in
    record { short_log = h; empty = empty; first = rw same e; zeros = z ∙ ap (λ (i : ℕ). replicate i 0) (sym same) }

-- a pool that is not refused has a valid length and valid attributes
valid : (a : Attributes) (n : ℕ) → of_z w32 (fresh_pool a n).said.code ≡ 0 → (rules a n).valid ≡ true
valid a n e =
    by (rules a n).valid (λ v. v)
    (λ v. let code : (fresh_pool a n).said.code ≡ e_par = fresh_pool-code a n ∙ rw v in
    let z : ◌≡◌ {A = ℕ} 4294967279 0 = sym (ap (of_z w32) code) ∙ e in absurd (omega (arith, z)))

-- and its queue keeps them
keeps : (a : Attributes) (n : ℕ) → (rules a n).valid ≡ true → (fresh_pool a n).state.queue.attributes ≡ a
unfolding create
keeps a n v = rw (length-replicate, v)

pub begun : {log : List ℕ} {out out' : Output} {place : ℕ} (a : Attributes) (l l' : List ℕ) (r : Answer) → Lent log out place a l → result_of r l' ≡ created a l → of_z w32 r.code ≡ 0
    → length l' ≡ length l → Puts out (pool_line (length l')) out' → length (pool_line (length l')) ≤ longest_line
    → transcript_of r.queue.attributes log ≡ take out'.end out'.buffer.now ++ records_text 0 place 0 (stored l' r.queue) (drop place log)
begun {log} {place = place} a l l' r h e k same w m =
    let n = length l in
    let made : result_of r l' ≡ created a (replicate n 0) = e ∙ ap (created a) h.zeros in
    let code : of_z w32 (fresh_pool a n).said.code ≡ 0 = sym (ap {B = ℕ} (λ (x : Result). of_z w32 x.answer.code) made) ∙ k in
    let state : stored l' r.queue ≡ (fresh_pool a n).state = ap {B = Stored} (λ (x : Result). stored x.bytes x.answer.queue) made in
    let v = valid a n code in
    let kept : r.queue.attributes ≡ a = ap (λ (x : Stored). x.queue.attributes) state ∙ keeps a n v in
    ap (λ (x : Attributes). transcript_of x log) kept ∙ rw (written (rw h.empty.start at w.wrote) (omega (arith, m, h.empty.space)), same, state) (transcript_pool a log h.short_log n a.order place h.first v)
