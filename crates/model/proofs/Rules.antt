-- The rules of the pools that create makes meet the laws, with kinds and without. Assumes nothing.
use Prim.Native.Nat.{ℕ, ◌-◌, ◌%◌, ◌≤◌}
use mathlib.Core.Path.{◌≡◌, refl, sym, ◌∙◌}
use mathlib.Core.Bool.{true, false, not, ◌&&◌}
use mathlib.Core.List.{List, [], ◌∷◌}
use mathlib.Core.Option.{some}
use native.Mathlib.Omega.{arith}
use lib.Dec.{leb, ltb, eqb}
use borrow.Author.Tests.{leb-true, eqb-true, ltb-false, le-ltb}
use Rattle.model.specs.Limits.{longest_pool, with_kinds, fifo_order, priority_order}
use Rattle.model.specs.Sizes.{smallest, top_place, lowest_place, ok_greatest, SmallestKind}
use Rattle.model.specs.Waiting.{Entry, entry_in}
use Rattle.model.specs.Rules.{Attributes, Rules, Laws, queued, ok_long, is_without_kinds, ok_kinds, ok_order, ok_attributes, most_asked, ok_size, ok_priority, rank_by, rounded, rules}
use Rattle.model.specs.Calls.{Request, Call, get, release, cancel, tick, inquire, Said, entry_of}
use Rattle.model.specs.Runs.{Turn, refuses, outranks, Unpassed, Ranked}
use Rattle.model.proofs.Tests.{by, and_l, and_r, and_f_r}
use Rattle.model.proofs.Waiting.{open_queued, entry-asked}
use Rattle.model.proofs.Soundness.{no_some}
use Rattle.model.proofs.Sizes.{kind_mod, kind-least, Greatest, open_greatest, kind_for_most, kind_for_smallest}

pub record Length (n : ℕ) : Type 0 where
  pub by_four : n % 4 ≡ 0
  pub least : 12 ≤ n
  pub most : n ≤ longest_pool

pub open_long : (n : ℕ) → ok_long n ≡ true → Length n
open_long n v =
    let a = eqb (n % 4) 0 in
    let b = leb 12 n in
    let c = leb n longest_pool in
    let bc = and_r a (b && c) v in
    record { by_four = eqb-true (n % 4) 0 (and_l a (b && c) v); least = leb-true 12 n (and_l b c bc); most = leb-true n longest_pool (and_r b c bc) }

pub record Size (bound size : ℕ) : Type 0 where
  pub least : 1 ≤ size
  pub most : size ≤ bound

pub open_size : (bound size : ℕ) → ok_size bound size ≡ true → Size bound size
open_size bound size h = record { least = leb-true 1 size (and_l (leb 1 size) (leb size bound) h); most = leb-true size bound (and_r (leb 1 size) (leb size bound) h) }

module _ (a : Attributes) (n : ℕ) where
  -- the greatest request of a pool with kinds
  greatest : is_without_kinds a ≡ false → ok_long n && ok_attributes a n ≡ true → Greatest a.greatest n
  greatest w v =
      let kept : eqb a.kinds with_kinds && ok_greatest a.greatest n ≡ true = rw w at (and_r (ok_order a.order) (ok_kinds a n) (and_r (ok_long n) (ok_attributes a n) v)) in
      open_greatest a.greatest n (and_r (eqb a.kinds with_kinds) (ok_greatest a.greatest n) kept)

  asked-size : (e : Entry) → ok_size (most_asked a n) e.size && ok_priority e.priority ≡ true → ok_size (most_asked a n) e.size ≡ true
  asked-size e h = and_l (ok_size (most_asked a n) e.size) (ok_priority e.priority) h

  -- with kinds a size that may be asked is rounded to the smallest kind in use that holds it
  pub rounds : is_without_kinds a ≡ false → (rules a n).valid ≡ true → (e : Entry) → (rules a n).allowed e ≡ true → SmallestKind a.greatest e.size (rounded a e.size)
  unfolding rules
  rounds w v e h =
      let m = a.greatest in
      rw w (kind_for_smallest m e.size (greatest w v).most (open_size m e.size (rw w at (asked-size e h))).most)

  -- a size that may be asked of a pool without kinds
  plain_size : (e : Entry) → is_without_kinds a ≡ true → ok_size (most_asked a n) e.size && ok_priority e.priority ≡ true → Size (n - 8) e.size
  plain_size e w h = open_size (n - 8) e.size (rw w at (asked-size e h))

  pub rules_laws : Laws (rules a n)
  unfolding rules
  rules_laws =
      record {
        long_mod = λ v. (long v).by_four;
        long_least = λ v. (long v).least;
        long_most = λ v. omega (arith, (long v).most);
        tasks_most = omega arith;
        need_mod = λ e h. by (is_without_kinds a) (λ w. rw w (omega arith)) (λ w. rw w (omega (arith, kind_mod (at e.size))));
        need_least = λ e h. by (is_without_kinds a) (λ w. rw w (omega (arith, (plain_size e w h).least))) (λ w. rw w (omega (arith, kind-least (at e.size))));
        need_most = λ v e h.
            by (is_without_kinds a)
            (λ w. rw w (omega (arith, (long v).by_four, (long v).least, (plain_size e w h).most)))
            (λ w. rw w (omega (arith, kind_for_most a.greatest e.size, (greatest w v).room)));
        allowed_left = λ l e. refl;
        rank_left = λ l e. refl;
      }
    where
      long : ok_long n && ok_attributes a n ≡ true → Length n
      long v = open_long n (and_l (ok_long n) (ok_attributes a n) v)

      -- the place of the kind for a size
      at : ℕ → ℕ
      at s = smallest s (lowest_place a.greatest) (top_place a.greatest - lowest_place a.greatest)

-- what a task that waits may ask
pub entry-allowed : (K : Rules) (t : ℕ) (x : Entry) (q : List Entry) → queued K q ≡ true → entry_in t q ≡ some x → K.allowed x ≡ true
unfolding entry_in
entry-allowed K t x [] o e = no_some (sym e)
entry-allowed K t x (y ∷ q) o e =
    let u = open_queued K y q o in
    by (eqb y.task t)
    (λ h. let s : some y ≡ some x = rw h at e in let z : y ≡ x = cc in rw z at (entry-asked K y u.entry).fair)
    (λ h. entry-allowed K t x q u.rest (rw h at e))

pub rules-long : (a : Attributes) (n : ℕ) → (rules a n).long ≡ n
unfolding rules
rules-long a n = refl

-- ---- ranks: the order by priority compares priorities, FIFO nothing

rank_by_lem : (a : Attributes) (n : ℕ) (e : Entry) → (rules a n).rank e ≡ rank_by a.order e
unfolding rules
rank_by_lem a n e = refl

-- in a FIFO pool all are of one rank
pub fifo_rank : (a : Attributes) (n : ℕ) → a.order ≡ fifo_order → (e : Entry) → (rules a n).rank e ≡ 0
fifo_rank a n f e = rank_by_lem a n e ∙ rw f

-- who is of no worse priority is of no higher rank
pub rank-order : (a : Attributes) (n : ℕ) (x y : Entry) → x.priority ≤ y.priority → (rules a n).rank x ≤ (rules a n).rank y
rank-order a n x y h = rw (rank_by_lem a n x, rank_by_lem a n y) (by (eqb a.order priority_order) (λ g. rw g h) (λ g. rw g (omega arith)))

-- who is of better rank is of better priority
rank_better : (a : Attributes) (n : ℕ) (x y : Entry) → ltb x.priority y.priority ≡ false → ltb ((rules a n).rank x) ((rules a n).rank y) ≡ false
rank_better a n x y h = le-ltb ((rules a n).rank x) ((rules a n).rank y) (rank-order a n y x (ltb-false x.priority y.priority h))

-- requests of one priority are of one rank
pub rules_ranked : (a : Attributes) (n : ℕ) (e : Entry) (rs : List Request) → Ranked (λ x. x.priority) e.priority rs → Ranked (rules a n).rank ((rules a n).rank e) rs
unfolding Ranked
rules_ranked a n e [] h = tt
rules_ranked a n e (r ∷ rs) h = (rw (rank_by_lem a n (entry_of r), rank_by_lem a n e, h.0), rules_ranked a n e rs h.1)

pub fifo_ranked : (a : Attributes) (n : ℕ) → a.order ≡ fifo_order → (e : Entry) (rs : List Request) → Ranked (rules a n).rank ((rules a n).rank e) rs
unfolding Ranked
fifo_ranked a n f e [] = tt
fifo_ranked a n f e (r ∷ rs) = (fifo_rank a n f (entry_of r) ∙ sym (fifo_rank a n f e), fifo_ranked a n f e rs)

-- a request that is better is of better priority
module _ (a : Attributes) (n : ℕ) (e : Entry) where
  better : (s : Said) (c : Call) → outranks (λ x. x.priority) e.priority s c ≡ false → outranks (rules a n).rank ((rules a n).rank e) s c ≡ false
  better s (get q) h = by (refuses s.code) (λ z. rw z) (λ z. rw z (rank_better a n (entry_of q) e (rw z at h)))
  better s (release o) h = refl
  better s (cancel x) h = refl
  better s tick h = refl
  better s inquire h = refl

  pub rules_unpassed : (t : ℕ) (l : List Turn) → Unpassed (λ x. x.priority) t e.priority l → Unpassed (rules a n).rank t ((rules a n).rank e) l
  unfolding Unpassed
  rules_unpassed t [] h = tt
  rules_unpassed t (x ∷ l) h = (better x.said x.call h.0, λ w. rules_unpassed t l (h.1 w))

  pub fifo_unpassed : a.order ≡ fifo_order → (t : ℕ) (l : List Turn) → Unpassed (rules a n).rank t ((rules a n).rank e) l
  unfolding Unpassed
  fifo_unpassed f t [] = tt
  fifo_unpassed f t (x ∷ l) = (none_better x.said x.call, λ w. fifo_unpassed f t l)
    where
      none_better : (s : Said) (c : Call) → outranks (rules a n).rank ((rules a n).rank e) s c ≡ false
      none_better s (get q) = and_f_r (not (refuses s.code)) _ (le-ltb ((rules a n).rank (entry_of q)) ((rules a n).rank e) (omega (arith, fifo_rank a n f e)))
      none_better s (release o) = refl
      none_better s (cancel x) = refl
      none_better s tick = refl
      none_better s inquire = refl
