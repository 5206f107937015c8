-- What a step rests on, by how many numbers it names. Assumes nothing.
use Prim.Native.Nat.{ℕ, zero, suc}
use mathlib.Core.Path.{◌≡◌, refl, sym}
use mathlib.Core.List.{◌∷◌, ◌++◌}
use Rattle.pages.specs.Text.{field, line}
use Rattle.pages.specs.Decimal.{decimal}
use Rattle.pages.specs.Entry.{entry}
use Rattle.chain_format.specs.declared.steps.Step.{Step}
use Rattle.chain_pages.specs.StepLine.{grounds, count, numbers, ground}

several : (k : ℕ) (s : Step) → (k ≡ 0 → ⊥) → (k ≡ 1 → ⊥)
    → field (entry s.rule grounds) 32 ++ (field (decimal s.first) 32 ++ field (decimal s.second) 10) ≡ line (entry s.rule grounds ∷ numbers k s)
several zero s h g = absurd (h refl)
several (suc zero) s h g = absurd (g refl)
several (suc (suc k)) s h g = refl

module _ (s : Step) (n : ℕ) (is : n ≡ count s.rule) where
  pub no_number : n ≡ 0 → field (entry s.rule grounds) 10 ≡ ground s
  unfolding ground
  no_number h = rw (sym is, h)

  pub one_number : n ≡ 1 → field (entry s.rule grounds) 32 ++ field (decimal s.first) 10 ≡ ground s
  unfolding ground
  one_number h = rw (sym is, h)

  pub two-numbers : (n ≡ 0 → ⊥) → (n ≡ 1 → ⊥)
      → field (entry s.rule grounds) 32 ++ (field (decimal s.first) 32 ++ field (decimal s.second) 10) ≡ ground s
  unfolding ground
  two-numbers h g = rw (sym is) (several n s h g)
