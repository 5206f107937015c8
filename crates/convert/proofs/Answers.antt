-- Facts that hold in every model may be added: the list stays consistent, and every claim keeps its answer. Assumes nothing.
use Prim.Native.Nat.{ℕ, ◌<◌}
use mathlib.Core.Path.{◌≡◌, refl, ap₂}
use mathlib.Core.Logic.{◌⊎◌, inl, inr}
use mathlib.Core.List.{List, Memᴰ}
use Rattle.lists.proofs.Bools.{same_truth}
use Rattle.rules.specs.Fact.{Fact, PART, opposite, Within, AllWithin, unmarked}
use Rattle.rules.specs.Derives.{Contradictory}
use Rattle.rules.specs.Model.{Model, keeps, keeps_all}
use Rattle.rules.specs.Follows.{follows}
use Rattle.rules.specs.Verdict.{judge, verdict}
use Rattle.rules.proofs.Facts.{opposite-within}
use Rattle.rules.proofs.Decides.{follows-iff}
use Rattle.rules.proofs.Models.{contradictory-iff, follows-everywhere}
use Rattle.rules.proofs.More.{Among}

-- the facts of gs are those of fs, and some that put a piece in piece 0
abbrev pub Extended : List Fact → List Fact → Type 0
Extended fs gs = (g : Fact) → Memᴰ g gs → Memᴰ g fs ⊎ ((m : ℕ) × (g ≡ PART m 0))

module _ (n : ℕ) (fs gs : List Fact) (i : AllWithin n fs) (j : AllWithin n gs) (p : 0 < n) (to : Among fs gs) (from : Extended fs gs) (ok : Contradictory unmarked n fs → ⊥) where
  fewer : (M : Model unmarked n) → keeps_all M gs → keeps_all M fs
  fewer M k f m = k f (to f m)

  more : (M : Model unmarked n) → keeps_all M fs → keeps_all M gs
  more M k g m = pick (from g m)
    where
      pick : Memᴰ g fs ⊎ ((m : ℕ) × (g ≡ PART m 0)) → keeps M g
      pick (inl h) = k g h
      pick (inr (x, e)) = rw e (λ s l h. M.whole s l)

  pub still-consistent : Contradictory unmarked n gs → ⊥
  still-consistent c = ok ((contradictory-iff unmarked n fs i p refl).1 (λ M k. (contradictory-iff unmarked n gs j p refl).0 c M (more M k)))

  same-follows : (f : Fact) → Within n f → follows unmarked n gs f ≡ follows unmarked n fs f
  same-follows f c =
      let x = follows-iff unmarked n fs i p f c in
      let y = follows-iff unmarked n gs j p f c in
      let u = follows-everywhere unmarked n fs i p refl ok f c in
      let v = follows-everywhere unmarked n gs j p refl still-consistent f c in
      same_truth _ _ (λ e. x.1 (u.1 (λ M k. v.0 (y.0 e) M (more M k)))) (λ e. y.1 (v.1 (λ M k. u.0 (x.0 e) M (fewer M k))))

  pub same_answer : (f : Fact) → Within n f → verdict unmarked n gs f ≡ verdict unmarked n fs f
  unfolding verdict
  same_answer f c = ap₂ judge (same-follows f c) (same-follows (opposite f) (opposite-within n f c))
