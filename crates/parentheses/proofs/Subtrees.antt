-- The first place past a subtree, where the node or its closing parenthesis may be missing.
-- Assumes nothing.
use mathlib.Core.Path.{◌≡◌, sym, ap, ◌∙◌}
use mathlib.Core.Bool.{Bool, true, false}
use mathlib.Core.List.{List}
use Prim.Native.Nat.{ℕ, zero, suc, ◌+◌, ◌-◌, ◌≤◌, ◌<◌}
use native.Mathlib.Decide.{dec_lt}
use native.Mathlib.Omega.{arith}
use lib.ListN.{get_or, length, get_or-eq_default}
use Rattle.lists.specs.First.{first}
use Rattle.lists.proofs.Bools.{Known, is_true, is_false, known}
use Rattle.parentheses.specs.Rank.{rank, select}
use Rattle.parentheses.specs.Close.{balanced, close}
use Rattle.parentheses.specs.Subtree.{after}
use Rattle.parentheses.proofs.Ranks.{rank_mono, rank-stays}
use Rattle.parentheses.proofs.Selects.{select-none, select-found}

-- a search does not go back
first-le : (f : ℕ → Bool) (p n : ℕ) → p ≤ first f p n
unfolding first
first-le f p zero = omega arith
first-le f p (suc n) = pick (known (f p)) (first-le f (suc p) n)
  where
    pick : Known (f p) → suc p ≤ first f (suc p) n → p ≤ first f p (suc n)
    pick (is_true e) l = rw (e, first) (omega arith)
    pick (is_false e) l = rw (e, first) (omega arith)

-- a parenthesis is closed after it is opened
pub close-later : (bs : List Bool) (o : ℕ) → o < close bs o
unfolding close
close-later bs o = first-le (balanced bs o) (suc o) (length bs - suc o)

-- past the end there are no more ones
pub rank-past : (bs : List Bool) (k : ℕ) → length bs ≤ k → rank bs k ≡ rank bs (length bs)
rank-past bs k h =
    let e : k ≡ length bs + (k - length bs) = omega arith in
    ap (rank bs) e ∙ rank-stays bs (length bs) (k - length bs) (λ i g _. get_or-eq_default bs false g)

module _ (bs : List Bool) (p : ℕ) where
  pub select-one : select bs p < length bs → get_or bs (select bs p) false ≡ true
  select-one h =
      elim (dec_lt p (rank bs (length bs))) [
        | yes l ↦ (select-found bs p (length bs) (omega arith) l).one
        | no l ↦ absurd (omega (arith, select-none bs p (omega arith)))
      ]

  -- where no parenthesis closes it, or there is no such node, what is left is the number of nodes
  pub after-unclosed : length bs ≤ close bs (select bs p) → after bs p ≡ rank bs (length bs)
  unfolding after
  after-unclosed h = rank-past bs (close bs (select bs p)) h

  pub after-missing : length bs ≤ select bs p → after bs p ≡ rank bs (length bs)
  after-missing h = after-unclosed (omega (arith, close-later bs (select bs p)))

  pub after-closed : (o q : ℕ) → select bs p ≡ o → close bs o ≡ q → rank bs q ≡ after bs p
  unfolding after
  after-closed o q e g = sym (ap (λ (x : ℕ). rank bs (close bs x)) e ∙ ap (rank bs) g)

  pub after-le : after bs p ≤ rank bs (length bs)
  unfolding after
  after-le =
      let q = close bs (select bs p) in
      elim (dec_lt q (length bs)) [
        | yes l ↦ rank_mono bs q (length bs) (omega arith)
        | no l ↦ omega (arith, rank-past bs q (omega arith))
      ]
