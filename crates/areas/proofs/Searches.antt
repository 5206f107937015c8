-- The search for a row, and along the rows. Assumes nothing.
use mathlib.Core.Path.{◌≡◌, sym, ap, ◌∙◌}
use mathlib.Core.Bool.{Bool, false, ◌&&◌, and-false, false≢true}
use mathlib.Core.List.{List}
use Prim.Native.Nat.{ℕ, ◌+◌, ◌*◌, ◌≤◌, ◌<◌}
use native.Mathlib.Omega.{arith}
use native.Mathlib.Decide.{ℕ_discrete, dec_lt}
use borrow.Author.Tests.{le-leb, lt-leb}
use lib.Dec.{leb}
use lib.ListN.{get_or}
use Rattle.lists.specs.Any.{any_below}
use Rattle.lists.proofs.Bools.{not-true}
use Rattle.lists.proofs.Anys.{below-find}
use Rattle.areas.specs.Between.{inside, RowsRise}

-- rows up to the middle are lower
pub lower-half :
    (area : List ℕ) (count row middle : ℕ) → middle < count → get_or area (2 * middle) 0 < row → RowsRise area count → (i : ℕ) → i < middle + 1 → get_or area (2 * i) 0 < row
lower-half area count row middle l h R i k =
    elim (ℕ_discrete i middle) [
      | yes z ↦ omega (arith, ap (λ (j : ℕ). get_or area (2 * j) 0) z)
      | no z ↦ omega (arith, R.rise i middle (omega arith) l)
    ]

-- a row or a column outside the ranges
module _ (rf rt cf ct r c : ℕ) where
  pub row_below : r < rf → inside rf rt cf ct r c ≡ false
  unfolding inside
  row_below l = rw (lt-leb rf r l)

  pub row-above : rt < r → inside rf rt cf ct r c ≡ false
  unfolding inside
  row-above l = rw (lt-leb r rt l) (ap (λ (t : Bool). t && (leb cf c && leb c ct)) (and-false (leb rf r)))

  pub column-below : c < cf → inside rf rt cf ct r c ≡ false
  unfolding inside
  column-below l = rw (lt-leb cf c l) (and-false (leb rf r && leb r rt))

  pub all_but_one : rf ≤ r → r ≤ rt → cf ≤ c → leb c ct ≡ inside rf rt cf ct r c
  unfolding inside
  all_but_one l k h = rw (le-leb rf r l, le-leb r rt k, le-leb cf c h)

-- none of n passes
pub none_passes : (p : ℕ → Bool) (n : ℕ) → ((j : ℕ) → j < n → p j ≡ false) → false ≡ any_below p n
none_passes p n h = sym (not-true (any_below p n) (λ t. let w = below-find p n t in false≢true (sym (h w.0 w.1) ∙ w.2)))

-- one more that does not pass
pub none_more : (p : ℕ → Bool) (i : ℕ) → p i ≡ false → ((j : ℕ) → j < i → p j ≡ false) → (j : ℕ) → j < i + 1 → p j ≡ false
none_more p i e h j l = elim (ℕ_discrete j i) [ yes z ↦ ap p z ∙ e | no z ↦ h j (omega arith) ]

-- the rows from i on lie above the range, and none below i passes
pub none_above :
    (area : List ℕ) (count rf rt cf ct i : ℕ) → i < count → rt < get_or area (2 * i) 0
    → (RowsRise area count → (j : ℕ) → j < i → inside rf rt cf ct (get_or area (2 * j) 0) (get_or area (2 * j + 1) 0) ≡ false) → RowsRise area count
    → false ≡ any_below (λ j. inside rf rt cf ct (get_or area (2 * j) 0) (get_or area (2 * j + 1) 0)) count
none_above area count rf rt cf ct i l h N R =
    none_passes (λ j. inside rf rt cf ct (get_or area (2 * j) 0) (get_or area (2 * j + 1) 0)) count
    (λ j k. elim (dec_lt j i) [
      | yes y ↦ N R j y
      | no y ↦ row-above rf rt cf ct _ _ (elim (ℕ_discrete j i) [ yes z ↦ omega (arith, ap (λ (x : ℕ). get_or area (2 * x) 0) z) | no z ↦ omega (arith, R.rise i j (omega arith) k) ])
    ])
