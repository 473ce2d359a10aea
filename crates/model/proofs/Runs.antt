-- Two machines that answer each call alike answer every run alike. Assumes nothing.
use mathlib.Core.Path.{◌≡◌, refl}
use mathlib.Core.List.{List, [], ◌∷◌}
use Rattle.model.specs.Calls.{Call, Reply}
use Rattle.model.specs.Runs.{after, run}

-- R relates the states of both; it may look at the calls to come
module _ {S Z : Type 0} (step₁ : Call → S → Reply S) (step₂ : Call → Z → Reply Z) (R : List Call → S → Z → Type 0)
    (alike : (c : Call) (cs : List Call) (s : S) (z : Z) → R (c ∷ cs) s z → ((step₁ c s).said ≡ (step₂ c z).said) × R cs (step₁ c s).state (step₂ c z).state) where
  pub runs_alike : (cs : List Call) (s : S) (z : Z) → R cs s z → run step₁ s cs ≡ run step₂ z cs
  unfolding run
  runs_alike [] s z r = refl
  runs_alike (c ∷ cs) s z r =
      let a = alike c cs s z r in
      let ih = runs_alike cs (step₁ c s).state (step₂ c z).state a.1 in
      λ i. record { call = c; said = a.0 i } ∷ ih i

  pub ends_alike : (cs : List Call) (s : S) (z : Z) → R cs s z → R [] (after step₁ s cs) (after step₂ z cs)
  unfolding after
  ends_alike [] s z r = r
  ends_alike (c ∷ cs) s z r = ends_alike cs (step₁ c s).state (step₂ c z).state (alike c cs s z r).1
