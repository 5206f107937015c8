-- What an answer that may be missing says.
-- Assumes nothing.
use mathlib.Core.Path.{◌≡◌, sym, ◌∙◌}
use Prim.Native.Nat.{ℕ, ◌≤◌, ◌<◌}
use native.Mathlib.Omega.{arith}
use borrow.Author.Tests.{lt-ltb, le-ltb, ltb-true, ltb-false}
use lib.Dec.{ltb}
use Rattle.lists.proofs.Bools.{Known, is_true, is_false, known}
use Rattle.std.specs.Prelude.{Some, None}
use Rattle.parentheses.specs.Found.{found_below}

module _ (e p : ℕ) where
  pub found_some : p < e → found_below e p ≡ Some p
  unfolding found_below
  found_some h = rw (lt-ltb p e h, found_below)

  pub found_none : e ≤ p → found_below e p ≡ None
  unfolding found_below
  found_none h = rw (le-ltb p e h, found_below)

  pub some-found : (q : ℕ) → found_below e p ≡ Some q → (p ≡ q) × (p < e)
  some-found q h = pick (known (ltb p e))
    where
      pick : Known (ltb p e) → (p ≡ q) × (p < e)
      pick (is_true t) = let l = ltb-true p e t in let i : Some p ≡ Some q = sym (found_some l) ∙ h in (cc, l)
      pick (is_false t) =
          let i : None ≡ Some q = sym (found_none (ltb-false p e t)) ∙ h in
          let z : ◌≡◌ {A = ℕ} 0 1 = cc in absurd (omega arith)

  pub none-found : found_below e p ≡ None → e ≤ p
  none-found h = pick (known (ltb p e))
    where
      pick : Known (ltb p e) → e ≤ p
      pick (is_true t) =
          let i : Some p ≡ None = sym (found_some (ltb-true p e t)) ∙ h in
          let z : ◌≡◌ {A = ℕ} 0 1 = cc in absurd (omega arith)
      pick (is_false t) = ltb-false p e t
