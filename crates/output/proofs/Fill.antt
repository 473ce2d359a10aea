-- Laws of what a function that fills a lent buffer leaves there. Assumes nothing.
use Prim.Native.Nat.{ℕ, ◌<◌, ◌≤◌}
use mathlib.Core.Path.{◌≡◌, refl, sym, ap, ◌∙◌}
use mathlib.Core.Bool.{Bool, true, false}
use mathlib.Core.List.{List, ◌++◌}
use native.Mathlib.Nat.{zero-add}
use native.Mathlib.Omega.{arith}
use lib.ListN.{length, drop}
use borrow.Author.Tests.{le-leb, lt-leb}
use Rattle.output.specs.Wrote.{Wrote}
use Rattle.output.specs.Fill.{outcome, Content, Content·bytes, Content·refused, fill, response_to, response, Responded}
use Rattle.output.proofs.Wrote.{wrote-parts, wrote_start}

-- ---- by the length of the buffer

module _ {A : Type 0} (done : ℕ → A) (short : A) (s buf : List ℕ) where
  pub fill-short : length buf < length s → outcome short buf ≡ fill done short (Content·bytes s) buf
  fill-short h = rw (lt-leb (length s) (length buf) h)

  pub fill-whole : length s ≤ length buf → fill done short (Content·bytes s) buf ≡ outcome (done (length s)) (s ++ drop (length s) buf)
  fill-whole h = rw (le-leb (length s) (length buf) h)

  pub fill_done : length s ≤ length buf → {after : List ℕ} {end : ℕ} → Wrote buf 0 s after end → outcome (done end) after ≡ fill done short (Content·bytes s) buf
  fill_done h {after} {end} w =
      let size : end ≡ length s = w.place ∙ zero-add (length s) in
      let parts : after ≡ s ++ drop (length s) buf = wrote-parts w (omega arith) ∙ rw (zero-add (length s)) in
      rw (size, parts) (sym (fill-whole h))

-- ---- the response, by the answer

pub response-short : {A : Type 0} (longest : ℕ) (line : A → List ℕ) (x : Content A) (buf : List ℕ) → length buf < longest → Responded (response longest line x buf) buf buf 0
response-short longest line x buf h = record { wrote = rw (lt-leb longest (length buf) h) (record { place = refl; stored = refl }); inside = omega arith }

-- refusals are told from the answer to bytes that are stored, and no bytes are too many
pub record Told {A : Type 0} (done : ℕ → A) (refuses : A → Bool) (longest : ℕ) (x : Content A) : Type 0 where
  pub stored : (n : ℕ) → refuses (done n) ≡ false
  pub refused : (a : A) → x ≡ Content·refused a → refuses a ≡ true
  pub most : (s : List ℕ) → x ≡ Content·bytes s → length s ≤ longest

module _ {A : Type 0} {done : ℕ → A} {refuses : A → Bool} {longest : ℕ} {x : Content A} (t : Told done refuses longest x) (short : A) (line : A → List ℕ)
    (buf : List ℕ) (room : longest ≤ length buf) where
  written : (s : List ℕ) → response_to line x ≡ s → {after : List ℕ} {end : ℕ} → Wrote buf 0 s after end → length s ≤ longest → Responded (response longest line x buf) buf after end
  written s e w h = record { wrote = rw (le-leb longest (length buf) room, e) w; inside = omega (arith, w.place) }

  no_bool : {X : Type 0} {b : Bool} → b ≡ true → b ≡ false → X
  no_bool p q = let c : true ≡ false = sym p ∙ q in let z : ◌≡◌ {A = ℕ} 0 1 = cc in absurd (omega arith)

  module _ (a : A) (after : List ℕ) where
    -- no refusal: the bytes were stored
    done_by : (y : Content A) → x ≡ y → refuses a ≡ false → outcome a after ≡ fill done short y buf → (n : ℕ) × (a ≡ done n) × Responded (response longest line x buf) buf after n
    done_by (Content·refused b) q k e = let same : a ≡ b = ap (λ o. o.answer) e in no_bool (t.refused b q) (rw same at k)
    done_by (Content·bytes s) q k e =
        let most = t.most s q in
        let f = e ∙ fill-whole done short s buf (omega arith) in
        (length s, ap (λ o. o.answer) f, written s (rw q) (rw (ap (λ o. o.buffer) f) (wrote_start s buf (omega arith))) most)

    pub responded_done : refuses a ≡ false → outcome a after ≡ fill done short x buf → (n : ℕ) × (a ≡ done n) × Responded (response longest line x buf) buf after n
    responded_done = done_by x refl

    -- a refusal: nothing was stored, and its line is written
    refused_by_lem : (y : Content A) → x ≡ y → refuses a ≡ true → outcome a after ≡ fill done short y buf → (response_to line x ≡ line a) × (after ≡ buf)
    refused_by_lem (Content·refused b) q k e = (rw (q, ap (λ o. o.answer) e), ap (λ o. o.buffer) e)
    refused_by_lem (Content·bytes s) q k e =
        let f = e ∙ fill-whole done short s buf (omega (arith, t.most s q)) in
        let same : a ≡ done (length s) = ap (λ o. o.answer) f in no_bool (rw same at k) (t.stored (length s))

    pub responded_refused : refuses a ≡ true → outcome a after ≡ fill done short x buf → {last : List ℕ} {end : ℕ} → Wrote after 0 (line a) last end → length (line a) ≤ longest
        → Responded (response longest line x buf) buf last end
    responded_refused k e w h = let r = refused_by_lem x refl k e in written (line a) r.0 (rw r.1 at w) h
