-- The first place past a subtree, from the bit at which its node opens: half as many more places as there are bits to where it closes. Assumes nothing.
use mathlib.Core.Path.{◌≡◌, refl, sym, ap, ◌∙◌}
use mathlib.Core.Bool.{Bool, true, false}
use mathlib.Core.List.{List}
use Prim.Native.Nat.{ℕ, zero, suc, ◌+◌, ◌-◌, ◌*◌, ◌/◌, ◌≤◌, ◌<◌}
use native.Mathlib.Decide.{dec_lt}
use native.Mathlib.Numerals.{add-one}
use native.Mathlib.Omega.{arith}
use borrow.Author.Count.{below_more}
use borrow.Author.Tests.{eqb-true, eqb-false, eq-eqb}
use lib.ListN.{length, get_or, set}
use lib.Seq.{get_or-set_same, get_or-set_other}
use Rattle.lists.proofs.Firsts.{found}
use Rattle.lists.proofs.Searches.{Sought, sought-next}
use Rattle.lists.specs.Tally.{num}
use Rattle.parentheses.specs.Rank.{rank, select}
use Rattle.parentheses.specs.Close.{balanced, close}
use Rattle.parentheses.specs.Subtree.{after}
use Rattle.parentheses.proofs.Ranks.{rank-suc, rank-one}
use Rattle.parentheses.proofs.Selects.{select-rank}
use Rattle.parentheses.proofs.Subtrees.{after-closed, after-unclosed, close-later}

module _ (bs : List Bool) (o : ℕ) (l : o < length bs) (one : get_or bs o false ≡ true) where
  at_open : select bs (rank bs o) ≡ o
  at_open = select-rank bs o l one

  shut : Sought (balanced bs o) (suc o) (length bs) (close bs o)
  unfolding close
  shut = sought-next (balanced bs o) (suc o) (length bs) (close bs o) (omega arith) refl

  open-still : (j : ℕ) → suc o ≤ j → j < close bs o → 2 * rank bs (suc j) + o ≡ 2 * rank bs o + suc j → ⊥
  unfolding balanced
  open-still j a b = eqb-false (2 * rank bs (suc j) + o) (2 * rank bs o + suc j) (shut.before j a b)

  -- until it closes, more have opened than closed
  above : (d k : ℕ) → k ≡ o + 1 + d → k ≤ close bs o → 2 * rank bs o + k < 2 * rank bs k + o
  above zero k e h = let z : k ≡ o + 1 = omega arith in omega (arith, ap (rank bs) z, rank-one bs o one)
  above (suc d) k e h =
      let j = o + 1 + d in
      let z : k ≡ j + 1 = omega arith in
      let y : suc j ≡ j + 1 = omega arith in
      omega (arith, above d j refl (omega arith), ap (rank bs) z, ap (rank bs) y, rank-suc bs j, open-still j (omega arith) (omega arith))

  even : close bs o < length bs → 2 * rank bs (suc (close bs o)) + o ≡ 2 * rank bs o + suc (close bs o)
  unfolding balanced
  even h = eqb-true (2 * rank bs (suc (close bs o)) + o) (2 * rank bs o + suc (close bs o)) (shut.hit h)

  pub end-closed : (q c : ℕ) → rank bs o ≡ q → close bs o ≡ c → c < length bs → (o < c) × (q + (c - o + 1) / 2 ≡ after bs q)
  end-closed q c e f h =
      let back = after-closed bs q o c (ap (select bs) (sym e) ∙ at_open) f in
      let level = rw f at (even (omega arith)) in
      (omega (arith, close-later bs o), omega (arith, back, level, close-later bs o, above (c - o - 1) c (omega (arith, close-later bs o)) (omega arith), ap (rank bs) (add-one c), rank-suc bs c, e))

  pub end-unclosed : (q : ℕ) → rank bs o ≡ q → length bs ≤ close bs o → rank bs (length bs) ≡ after bs q
  end-unclosed q e h = let s = ap (select bs) (sym e) ∙ at_open in sym (after-unclosed bs q (rw s h))

  leaf-close : get_or bs (o + 1) false ≡ false → suc o < length bs → close bs o ≡ suc o
  unfolding close balanced
  leaf-close z h =
      let y : suc (suc o) ≡ o + 1 + 1 = omega arith in
      found (balanced bs o) (suc o) (length bs) h
      (eq-eqb (2 * rank bs (suc (suc o)) + o) (2 * rank bs o + suc (suc o)) (omega (arith, ap (rank bs) y, rank-suc bs (o + 1), rank-one bs o one, ap num z)))

  -- a leaf closes at once, or is the last bit
  pub end-leaf : (q : ℕ) → rank bs o ≡ q → get_or bs (o + 1) false ≡ false → q + 1 ≡ after bs q
  end-leaf q e z = go (dec_lt (o + 1) (length bs))
    where
      go : Dec (o + 1 < length bs) → q + 1 ≡ after bs q
      go (yes h) = omega (arith, (end-closed q (suc o) e (leaf-close z (omega arith)) (omega arith)).1)
      go (no h) = let n : length bs ≡ o + 1 = omega arith in omega (arith, end-unclosed q e (omega (arith, close-later bs o)), ap (rank bs) n, rank-one bs o one)

-- where a one is still to come
pub ends_more : (bs : List Bool) (p q e : ℕ) → rank bs p ≡ q → q < rank bs e → p ≤ e → p < e
ends_more bs p q e h l g = elim (dec_lt p e) [ yes y ↦ y | no y ↦ let z : p ≡ e = omega arith in absurd (omega (arith, ap (rank bs) z)) ]

-- one place more
pub ended-more : (bs : List Bool) (ends : List ℕ) (q r : ℕ) → q < length ends → r ≡ after bs q → ((s : ℕ) → s < q → get_or ends s 0 ≡ after bs s)
    → (s : ℕ) → s < q + 1 → get_or (set ends q r) s 0 ≡ after bs s
ended-more bs ends q r l e h =
    below_more (λ s. get_or (set ends q r) s 0 ≡ after bs s) q (λ s k. get_or-set_other ends q s r 0 (λ z. omega arith) ∙ h s k) (get_or-set_same ends q r 0 l ∙ e)
