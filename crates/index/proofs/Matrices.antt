-- A matrix whose bits below n say what pairs there are has just these pairs. Assumes nothing.
use Prim.Native.Nat.{ℕ, ◌<◌}
use mathlib.Core.Path.{◌≡◌, sym, fun_ext, ◌∙◌}
use mathlib.Core.Bool.{Bool, true}
use mathlib.Core.List.{List}
use native.Mathlib.Decide.{dec_lt}
use native.Mathlib.Omega.{arith}
use borrow.Author.Tests.{lt-ltb}
use Rattle.lists.proofs.Bools.{not-true}
use Rattle.matrices.specs.Matrix.{bit_of}
use Rattle.index.specs.Matrix.{pair_of}
use Rattle.index.proofs.Joins.{high, wide}

module _ (n : ℕ) (fact : ℕ → ℕ → Bool) (within : (p c : ℕ) → fact p c ≡ true → (p < n) × (c < n)) (m : List ℕ)
    (same : (p c : ℕ) → p < n → c < n → bit_of m c p ≡ fact p c) where
  at : (p c : ℕ) → Dec (p < n) → Dec (c < n) → pair_of n m p c ≡ fact p c
  unfolding pair_of
  at p c (yes a) (yes b) = rw (lt-ltb p n a, lt-ltb c n b) (same p c a b)
  at p c (no a) b = high n m p c (omega arith) ∙ sym (not-true (fact p c) (λ e. a (within p c e).0))
  at p c (yes a) (no b) = wide n m p c (omega arith) ∙ sym (not-true (fact p c) (λ e. b (within p c e).1))

  pub matrix-pairs : pair_of n m ≡ fact
  matrix-pairs = fun_ext (λ p. fun_ext (λ c. at p c (dec_lt p n) (dec_lt c n)))
