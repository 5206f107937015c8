-- A run of bits is balanced where the excess is the same before and after it.
-- Assumes nothing.
use mathlib.Core.Path.{◌≡◌, ap}
use mathlib.Core.Bool.{Bool, true}
use mathlib.Core.List.{List}
use Prim.Native.Nat.{ℕ, suc, ◌+◌, ◌-◌, ◌*◌, ◌≤◌, ◌<◌}
use native.Mathlib.Omega.{arith}
use borrow.Author.Tests.{eq-eqb, eqb-true, lt-ltb, le-ltb, ltb-true, ltb-false}
use lib.Dec.{ltb}
use lib.IntN.{pos, negsuc, sub_ℕ}
use Rattle.lists.proofs.Bools.{Known, is_true, is_false, known}
use Rattle.parentheses.specs.Rank.{rank}
use Rattle.parentheses.specs.Close.{excess, balanced}

module _ (a b : ℕ) where
  below : a < b → sub_ℕ a b ≡ negsuc (b - suc a)
  below h = rw (lt-ltb a b h)

  above : b ≤ a → sub_ℕ a b ≡ pos (a - b)
  above h = rw (le-ltb a b h)

-- two differences are the same where the sums crosswise are
module _ (a b c d : ℕ) where
  same-difference : a + d ≡ c + b → sub_ℕ a b ≡ sub_ℕ c d
  same-difference e = pick (known (ltb a b))
    where
      pick : Known (ltb a b) → sub_ℕ a b ≡ sub_ℕ c d
      pick (is_true t) = let l = ltb-true a b t in rw (below a b l, below c d (omega arith)) (ap negsuc (omega arith))
      pick (is_false t) = let l = ltb-false a b t in rw (above a b l, above c d (omega arith)) (ap pos (omega arith))

  difference-same : sub_ℕ a b ≡ sub_ℕ c d → a + d ≡ c + b
  difference-same e = pick (known (ltb a b)) (known (ltb c d))
    where
      pick : Known (ltb a b) → Known (ltb c d) → a + d ≡ c + b
      pick (is_true t) (is_true u) =
          let l = ltb-true a b t in let m = ltb-true c d u in
          let i : b - suc a ≡ d - suc c = cc (below a b l, below c d m) in omega arith
      pick (is_true t) (is_false u) =
          let z : ◌≡◌ {A = ℕ} 0 1 = cc (below a b (ltb-true a b t), above c d (ltb-false c d u)) in absurd (omega arith)
      pick (is_false t) (is_true u) =
          let z : ◌≡◌ {A = ℕ} 0 1 = cc (above a b (ltb-false a b t), below c d (ltb-true c d u)) in absurd (omega arith)
      pick (is_false t) (is_false u) =
          let l = ltb-false a b t in let m = ltb-false c d u in
          let i : a - b ≡ c - d = cc (above a b l, above c d m) in omega arith

module _ (bs : List Bool) (o q : ℕ) where
  pub balanced-excess : balanced bs o q ≡ true → excess bs (suc q) ≡ excess bs o
  unfolding balanced excess
  balanced-excess t =
      same-difference (2 * rank bs (suc q)) (suc q) (2 * rank bs o) o (eqb-true (2 * rank bs (suc q) + o) (2 * rank bs o + suc q) t)

  pub excess-balanced : excess bs (suc q) ≡ excess bs o → balanced bs o q ≡ true
  unfolding balanced excess
  excess-balanced e =
      eq-eqb (2 * rank bs (suc q) + o) (2 * rank bs o + suc q) (difference-same (2 * rank bs (suc q)) (suc q) (2 * rank bs o) o e)
