-- The end of a subtree and its range, by the lengths of the parts. Assumes nothing.
use mathlib.Core.Path.{◌≡◌, sym, ap, ◌∙◌}
use mathlib.Core.Bool.{and-false}
use mathlib.Core.List.{List}
use Prim.Native.Nat.{ℕ, ◌-◌, ◌≤◌, ◌<◌}
use native.Mathlib.Omega.{arith}
use borrow.Author.Tests.{le-leb, lt-leb, lt-ltb, le-ltb, ltb-true, ltb-false, eq-eqb, ne_eqb}
use lib.Dec.{leb, ltb}
use lib.ListN.{length, get_or, take}
use Rattle.lists.proofs.Bools.{Known, is_true, is_false, known}
use Rattle.parentheses.specs.Bits.{bits}
use Rattle.parentheses.specs.Subtree.{after}
use Rattle.areas.specs.Subtree.{end_of, range_from, range_to}

module _ (parens places : List ℕ) (g : ℕ) where
  pub short-parens : length parens < 2560 → 0 ≡ end_of parens places g
  unfolding end_of
  short-parens h = rw (lt-leb 2560 (length parens) h, end_of)

  pub short-places : length places ≤ g → 0 ≡ end_of parens places g
  unfolding end_of
  short-places h = rw (le-ltb g (length places) h, and-false (leb 2560 (length parens)), end_of)

  pub end-there : (p r : ℕ) → 2560 ≤ length parens → g < length places → p ≡ get_or places g 0 → r ≡ after (bits (take 2560 parens)) p → r ≡ end_of parens places g
  unfolding end_of
  end-there p r h k e is = is ∙ rw (le-leb 2560 (length parens) h, lt-ltb g (length places) k, end_of, e)

  -- an end is that of a piece of the list
  pub end-piece : (r : ℕ) → r ≡ end_of parens places g → (r ≡ 0 → ⊥) → g < length places
  end-piece r e n = pick (known (ltb g (length places)))
    where
      pick : Known (ltb g (length places)) → g < length places
      pick (is_true h) = ltb-true g (length places) h
      pick (is_false h) = absurd (n (e ∙ sym (short-places (ltb-false g (length places) h))))

  pub range_none : (r : ℕ) → r ≡ end_of parens places g → r ≡ 0 → (1 ≡ range_from parens places g) × (0 ≡ range_to parens places g)
  unfolding range_from range_to
  range_none r e z = let q : end_of parens places g ≡ 0 = sym e ∙ z in (rw (eq-eqb (end_of parens places g) 0 q, range_from), omega arith)

  pub range-some :
      (r p : ℕ) → r ≡ end_of parens places g → (r ≡ 0 → ⊥) → p ≡ get_or places g 0 → (p ≡ range_from parens places g) × (r - 1 ≡ range_to parens places g)
  unfolding range_from range_to
  range-some r p e n q = (q ∙ rw (ne_eqb (end_of parens places g) 0 (λ z. n (e ∙ z)), range_from), ap (λ (x : ℕ). x - 1) e)
