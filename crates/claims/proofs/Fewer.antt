-- Fewer facts of a list that is not contradictory: its answers 1 and 2 are those of the whole list. Assumes nothing.
use Prim.Native.Nat.{ℕ, ◌<◌}
use mathlib.Core.Path.{◌≡◌}
use mathlib.Core.Bool.{Bool, false}
use mathlib.Core.List.{List}
use native.Mathlib.Omega.{arith}
use Rattle.rules.specs.Fact.{Fact, Within, AllWithin}
use Rattle.rules.specs.Derives.{Contradictory}
use Rattle.rules.specs.Verdict.{verdict}
use Rattle.rules.proofs.More.{Among, weaken, weaken-contradictory}
use Rattle.rules.proofs.Verdicts.{verdict-follows, verdict-denied}

module _ (void : ℕ → Bool) (n : ℕ) (fs gs : List Fact) (i : AllWithin n gs) (p : 0 < n) (z : void 0 ≡ false) (ok : Contradictory void n gs → ⊥) (fewer : Among fs gs) where
  pub fewer-within : AllWithin n fs
  fewer-within f m = i f (fewer f m)

  pub fewer-consistent : Contradictory void n fs → ⊥
  fewer-consistent c = ok (weaken-contradictory (omega arith) fewer c)

  module _ (f : Fact) (c : Within n f) where
    pub fewer-follows : verdict void n fs f ≡ 1 → verdict void n gs f ≡ 1
    fewer-follows e = (verdict-follows void n gs i p z ok f c).1 (weaken (omega arith) fewer ((verdict-follows void n fs fewer-within p z fewer-consistent f c).0 e))

    pub fewer-denied : verdict void n fs f ≡ 2 → verdict void n gs f ≡ 2
    fewer-denied e = (verdict-denied void n gs i p z ok f c).1 (weaken (omega arith) fewer ((verdict-denied void n fs fewer-within p z fewer-consistent f c).0 e))
