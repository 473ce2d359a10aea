-- Laws of what a function that writes to an output leaves. Assumes nothing.
use Prim.Native.Nat.{ℕ, ◌+◌, ◌<◌, ◌≤◌}
use mathlib.Core.Path.{◌≡◌, refl, sym, ap, ◌∙◌}
use mathlib.Core.List.{List, [], ◌++◌, append_assoc}
use native.Mathlib.Omega.{arith}
use lib.ListN.{length, take, drop}
use borrow.Rule.Slice.PartMut.{put_mid}
use Rattle.std.proofs.lemmas.List.Edits.{paste_all, sets-eq}
use Rattle.std.proofs.lemmas.Slice.{put_mid-paste}
use Rattle.output.specs.declared.Output.{Output}
use Rattle.output.specs.Wrote.{Wrote, fitted}
use Rattle.output.specs.Puts.{Room, Puts, Holds}
use Rattle.output.proofs.Wrote.{wrote-append, wrote-length, fitted-all, wrote_none, Writing, writing_start, writing_fits, writing_next, writing_end}

-- one write after another
pub puts-append : {a b c : Output} {xs ys : List ℕ} → Puts a xs b → Puts b ys c → Puts a (xs ++ ys) c
puts-append p q = record { same_reference = q.same_reference ∙ p.same_reference; wrote = wrote-append p.wrote q.wrote }

-- what is left of the room
pub puts_room : {a b : Output} {xs : List ℕ} (m : ℕ) → Puts a xs b → Room (length xs + m) a → Room m b
puts_room m p h = omega (arith, p.wrote.place, wrote-length p.wrote, h)

-- bytes by one copy into the part of the buffer from the place `at` on
pub wrote_copy : {l t : List ℕ} {at k : ℕ} (s : List ℕ) → t ≡ s → k ≡ length s → at + length s ≤ length l → Wrote l at s (put_mid at k l t) (at + length s)
wrote_copy {l} {t} {at} {k} s e f h = record {
  place = refl;
  stored = put_mid-paste at k l t s (length s) e (sym f) refl ∙ paste_all l at s (length s) refl ∙ sym (sets-eq s l at h ∙ append_assoc (take at l) s (drop (at + length s) l));
}

-- room by what the output holds
pub holds_room : {a : Output} {buf : List ℕ} {end : ℕ} (n : ℕ) → Holds a buf end → end + n ≤ length buf → Room n a
holds_room n h l = rw (h.bytes, h.place) l

-- what was written, as the owner of the buffer sees it once the output is gone
pub puts-whole : {a b : Output} {buf after xs : List ℕ} {end : ℕ} → Puts a xs b → Holds a buf end → after ≡ b.buffer.now → Wrote buf end xs after b.end
puts-whole p h e = rw (← h.bytes, ← h.place, e) p.wrote

-- how many bytes an output has that began empty
pub puts-size : {a b : Output} {buf xs : List ℕ} → Puts a xs b → Holds a buf 0 → b.end ≡ length xs
puts-size p h = omega (arith, p.wrote.place, h.place)

-- no bytes
pub puts_nothing : (a : Output) → Puts a [] a
puts_nothing a = record { same_reference = refl; wrote = record { place = omega arith; stored = refl } }

-- nothing is written where the bytes do not fit
pub puts_none : (a : Output) (bytes : List ℕ) → length a.buffer.now < a.end + length bytes → Puts a (fitted a.buffer.now a.end bytes) a
puts_none a bytes h = record { same_reference = refl; wrote = wrote_none a.buffer.now a.end bytes h }

-- ---- several writes: `left` completes `bytes` from where `start` ended

pub record Putting (start : Output) (bytes : List ℕ) (out : Output) (left : List ℕ) : Type 0 where
  pub same_reference : out.buffer.ghost_name ≡ start.buffer.ghost_name
  pub writing : Writing start.buffer.now start.end bytes out.buffer.now out.end left

pub putting_start : (a : Output) (bytes : List ℕ) → Room (length bytes) a → Putting a bytes a bytes
putting_start a bytes h = record { same_reference = refl; writing = writing_start a.buffer.now a.end bytes h }

module _ {start out : Output} {bytes left : List ℕ} (w : Putting start bytes out left) where
  -- what comes next fits
  pub putting_room : (xs ys : List ℕ) → left ≡ xs ++ ys → Room (length xs) out
  putting_room xs ys e = writing_fits w.writing xs ys e

  -- and is written
  pub putting_next : {xs : List ℕ} {after : Output} (ys : List ℕ) → left ≡ xs ++ ys → Puts out xs after → Putting start bytes after ys
  putting_next ys e p = record { same_reference = p.same_reference ∙ w.same_reference; writing = writing_next w.writing ys e p.wrote }

  -- also by a function that writes nothing where it does not fit
  pub putting_fitted : {after : Output} (xs ys : List ℕ) → left ≡ xs ++ ys → Puts out (fitted out.buffer.now out.end xs) after → Putting start bytes after ys
  putting_fitted xs ys e p = putting_next ys e (rw (fitted-all out.buffer.now out.end xs (putting_room xs ys e)) at p)

  -- nothing is left
  pub putting_end : left ≡ [] → Puts start bytes out
  putting_end e = record { same_reference = w.same_reference; wrote = writing_end w.writing e }
