-- Laws of what a function that writes bytes leaves in a lent buffer. Assumes nothing.
use Prim.Native.Nat.{ℕ, suc, ◌+◌, ◌<◌, ◌≤◌}
use mathlib.Core.Path.{◌≡◌, refl, sym, ap, ◌∙◌}
use mathlib.Core.List.{List, [], ◌∷◌, ◌++◌}
use native.Mathlib.Nat.{add-zero, zero-add, add-suc, suc-add}
use native.Mathlib.Omega.{arith}
use lib.ListN.{length, take, drop, set, length-append}
use lib.Seq.{sets, sets-eq, length-sets}
use borrow.Author.Tests.{le-leb, lt-leb}
use Rattle.output.specs.Wrote.{Wrote, fitted}

pub fitted-all : (buf : List ℕ) (at : ℕ) (bytes : List ℕ) → at + length bytes ≤ length buf → fitted buf at bytes ≡ bytes
unfolding fitted
fitted-all buf at bytes h = rw (le-leb (at + length bytes) (length buf) h)

pub fitted_none : (buf : List ℕ) (at : ℕ) (bytes : List ℕ) → length buf < at + length bytes → fitted buf at bytes ≡ []
unfolding fitted
fitted_none buf at bytes h = rw (lt-leb (at + length bytes) (length buf) h)

-- nothing is written where the bytes do not fit
pub wrote_none : (buf : List ℕ) (at : ℕ) (bytes : List ℕ) → length buf < at + length bytes → Wrote buf at (fitted buf at bytes) buf at
wrote_none buf at bytes h = rw (fitted_none buf at bytes h) (record { place = omega arith; stored = refl })

-- the buffer by its parts
pub wrote-parts : {before after : List ℕ} {at next : ℕ} {bytes : List ℕ} → Wrote before at bytes after next → at + length bytes ≤ length before
    → after ≡ take at before ++ bytes ++ drop (at + length bytes) before
wrote-parts {before} {after} {at} {next} {bytes} w h = w.stored ∙ sets-eq bytes before at h

pub wrote_start : (bytes buf : List ℕ) → length bytes ≤ length buf → Wrote buf 0 bytes (bytes ++ drop (length bytes) buf) (length bytes)
wrote_start bytes buf h = record { place = sym (zero-add (length bytes)); stored = sym (sets-eq bytes buf 0 (omega arith) ∙ rw (zero-add (length bytes))) }

-- a write keeps the buffer's length
pub wrote-length : {before after : List ℕ} {at next : ℕ} {bytes : List ℕ} → Wrote before at bytes after next → length after ≡ length before
wrote-length {before} {after} {at} {next} {bytes} w = ap length w.stored ∙ length-sets before at bytes

pub wrote-byte : (buf : List ℕ) (at b : ℕ) → Wrote buf at (b ∷ []) (set buf at b) (at + 1)
wrote-byte buf at b = record { place = refl; stored = refl }

sets-append : (l : List ℕ) (i : ℕ) (xs ys : List ℕ) → sets (sets l i xs) (i + length xs) ys ≡ sets l i (xs ++ ys)
sets-append l i [] ys = rw (add-zero i)
sets-append l i (x ∷ xs) ys = rw (add-suc i (length xs), ← suc-add i (length xs)) (sets-append (set l i x) (suc i) xs ys)

-- one write after another
pub wrote-append : {a b c : List ℕ} {i j k : ℕ} {xs ys : List ℕ} → Wrote a i xs b j → Wrote b j ys c k → Wrote a i (xs ++ ys) c k
wrote-append {a} {b} {c} {i} {j} {k} {xs} {ys} p q = record {
  place = q.place ∙ omega (arith, p.place, length-append xs ys);
  stored = q.stored ∙ rw (p.stored, p.place) (sets-append a i xs ys);
}

-- In the course of a write: `left` from the place i of buf on completes `bytes` from the place `at` of `start` on.
pub record Writing (start : List ℕ) (at : ℕ) (bytes buf : List ℕ) (i : ℕ) (left : List ℕ) : Type 0 where
  pub place : i + length left ≡ at + length bytes
  pub stored : sets buf i left ≡ sets start at bytes
  pub same : length buf ≡ length start
  pub fits : at + length bytes ≤ length start

pub writing_start : (buf : List ℕ) (at : ℕ) (bytes : List ℕ) → at + length bytes ≤ length buf → Writing buf at bytes buf at bytes
writing_start buf at bytes h = record { place = refl; stored = refl; same = refl; fits = h }

module _ {start : List ℕ} {at : ℕ} {bytes buf : List ℕ} {i : ℕ} {left : List ℕ} (w : Writing start at bytes buf i left) where
  -- what comes next fits
  pub writing_fits : (xs ys : List ℕ) → left ≡ xs ++ ys → i + length xs ≤ length buf
  writing_fits xs ys e = omega (arith, w.place, w.same, w.fits, simp length-append at (ap length e))

  -- and is written
  pub writing_next : {xs after : List ℕ} {next : ℕ} (ys : List ℕ) → left ≡ xs ++ ys → Wrote buf i xs after next → Writing start at bytes after next ys
  writing_next {xs} ys e r = record {
    place = omega (arith, w.place, r.place, simp length-append at (ap length e));
    stored = rw (r.stored, r.place, sets-append buf i xs ys, ← e) w.stored;
    same = wrote-length r ∙ w.same;
    fits = w.fits;
  }

  -- also by a function that writes nothing where it does not fit
  pub writing_fitted : {after : List ℕ} {next : ℕ} (xs ys : List ℕ) → left ≡ xs ++ ys → Wrote buf i (fitted buf i xs) after next
      → Writing start at bytes after next ys
  writing_fitted xs ys e r = writing_next ys e (rw (fitted-all buf i xs (writing_fits xs ys e)) at r)

  -- nothing is left
  pub writing_end : left ≡ [] → Wrote start at bytes buf i
  writing_end e = record { place = omega (arith, w.place, ap length e); stored = rw e at w.stored }
