-- A search for the closing parenthesis: what a bit and what a run of whole bytes do to the depth, and where the excess is 0.
-- Assumes nothing.
use mathlib.Core.Path.{◌≡◌, sym, ap, ◌∙◌}
use mathlib.Core.Bool.{Bool, true, false}
use mathlib.Core.List.{List}
use Prim.Native.Nat.{ℕ, suc, ◌+◌, ◌-◌, ◌*◌, ◌≤◌, ◌<◌}
use native.Mathlib.Numerals.{add-one}
use native.Mathlib.Decide.{dec_lt}
use native.Mathlib.Omega.{arith}
use borrow.Author.Tests.{eq-eqb, ne_eqb, eqb-true}
use lib.Dec.{eqb}
use lib.ListN.{get_or, length}
use Rattle.lists.specs.First.{first}
use Rattle.lists.proofs.Searches.{first-same}
use Rattle.parentheses.specs.Bits.{bits}
use Rattle.lists.specs.Tally.{num}
use Rattle.parentheses.specs.Rank.{rank}
use Rattle.parentheses.specs.Close.{balanced, close}
use Rattle.parentheses.specs.Search.{shuts, closing, Stays}
use Rattle.parentheses.proofs.Margins.{margin, margin-le}
use Rattle.parentheses.proofs.PackedLaws.{bits-length}
use Rattle.parentheses.proofs.Ranks.{rank-suc, rank_mono, rank-byte}
use Rattle.lists.proofs.Bools.{same_truth}
use Rattle.lists.proofs.Firsts.{passed_over, found, ended}

-- ---- where the depth stays above 0: through fewer bits than it, and through a byte whose lowest excess leaves it there

pub stays-deep : (bs : List Bool) (p n d : ℕ) → n < d → Stays bs p n d
stays-deep bs p n d h j g = omega (arith, rank_mono bs p (p + suc j) (omega arith))

pub stays-byte : (l : List ℕ) (i d : ℕ) → i < length l → 8 < d + margin (get_or l i 0) → Stays (bits l) (8 * i) 8 d
stays-byte l i d w h j g = omega (arith, margin-le (get_or l i 0) j g, rank-byte l i (suc j) w (omega arith))

-- one run after another, where the depth after the first is at least f
pub stays-more : (bs : List Bool) (p n k d f : ℕ) → f + n + 2 * rank bs p ≤ d + 2 * rank bs (p + n) → Stays bs p n d → Stays bs (p + n) k f
    → Stays bs p (n + k) d
stays-more bs p n k d f h first next j g =
    elim (dec_lt j n) [
      | yes l ↦ first j l
      | no l ↦ let i : p + n + suc (j - n) ≡ p + suc j = omega arith in omega (arith, next (j - n) (omega arith), ap (rank bs) i)
    ]

-- equations that hold together are one test
eqb_same : (a b c d : ℕ) → (a ≡ b → c ≡ d) → (c ≡ d → a ≡ b) → eqb a b ≡ eqb c d
eqb_same a b c d f g = same_truth (eqb a b) (eqb c d) (λ t. eq-eqb c d (f (eqb-true a b t))) (λ t. eq-eqb a b (g (eqb-true c d t)))

-- ---- the search

module _ (l : List ℕ) where
  abbrev bs : List Bool
  bs = bits l

  abbrev e : ℕ
  e = 8 * length l

  closing-first : (p d : ℕ) → closing bs p d ≡ first (shuts bs p d) p (e - p)
  unfolding closing
  closing-first p d = rw (bits-length l)

  -- the depth is d' after n bits through which it does not fall to 0
  moved : (p n d d' : ℕ) → p + n ≤ e → 2 * rank bs (p + n) + d ≡ 2 * rank bs p + n + d' → ((q : ℕ) → p ≤ q → q < p + n → shuts bs p d q ≡ false)
      → closing bs p d ≡ closing bs (p + n) d'
  unfolding shuts
  moved p n d d' g h each =
      closing-first p d ∙ passed_over (shuts bs p d) p n e g each
      ∙ first-same (shuts bs p d) (shuts bs (p + n) d')
      (λ q. eqb_same (2 * rank bs (suc q) + p + d) (2 * rank bs p + suc q) (2 * rank bs (suc q) + (p + n) + d') (2 * rank bs (p + n) + suc q)
      (λ t. omega arith) (λ t. omega arith))
      (p + n) (e - (p + n))
      ∙ sym (closing-first (p + n) d')

  -- one bit
  module _ (p d r : ℕ) (g : p < e) (h : r + 1 ≡ d + 2 * num (get_or bs p false)) where
    pub bit-passed : 0 < r → closing bs p d ≡ closing bs (p + 1) r
    unfolding shuts
    bit-passed k =
        moved p 1 d r (omega arith) (omega (arith, rank-suc bs p))
        (λ q a b. let i : suc q ≡ p + 1 = omega arith in
        ne_eqb (2 * rank bs (suc q) + p + d) (2 * rank bs p + suc q) (omega (arith, rank-suc bs p, ap (rank bs) i)))

    pub bit_found : r ≡ 0 → closing bs p d ≡ p
    unfolding shuts
    bit_found k =
        closing-first p d
        ∙ found (shuts bs p d) p e g
        (eq-eqb (2 * rank bs (suc p) + p + d) (2 * rank bs p + suc p) (omega (arith, rank-suc bs p, ap (rank bs) (add-one p))))

  -- a run of n bits, of which r are ones
  module _ (p n d r : ℕ) (g : p + n ≤ e) (pos : 0 < n) (stays : Stays bs p n d) (counted : rank bs p + r ≡ rank bs (p + n)) where
    pub run-above : n < d + 2 * r
    run-above =
        let i : suc (n - 1) ≡ n = omega arith in
        omega (arith, stays (n - 1) (omega arith), ap (λ (x : ℕ). rank bs (p + x)) i)

    pub run-passed : r ≤ n → closing bs p d ≡ closing bs (p + n) (d + r - (n - r))
    unfolding shuts
    run-passed k =
        moved p n d (d + r - (n - r)) g (omega (arith, run-above))
        (λ q a b. let j = q - p in
        let i : suc q ≡ p + suc j = omega arith in
        ne_eqb (2 * rank bs (suc q) + p + d) (2 * rank bs p + suc q) (omega (arith, stays j (omega arith), ap (rank bs) i)))

  pub none_left : (p d : ℕ) → p ≡ e → closing bs p d ≡ e
  none_left p d g = closing-first p d ∙ ended (shuts bs p d) p e g

  -- the parenthesis at o has a depth of 1 after it
  pub opened : (o : ℕ) → get_or bs o false ≡ true → closing bs (o + 1) 1 ≡ close bs o
  unfolding closing close shuts balanced
  opened o h =
      rw (add-one o)
      (first-same (shuts bs (suc o) 1) (balanced bs o)
      (λ q. eqb_same (2 * rank bs (suc q) + suc o + 1) (2 * rank bs (suc o) + suc q) (2 * rank bs (suc q) + o) (2 * rank bs o + suc q)
      (λ t. omega (arith, one)) (λ t. omega (arith, one)))
      (suc o) (length bs - suc o))
    where
      one : rank bs (suc o) ≡ rank bs o + 1
      one = ap (rank bs) (sym (add-one o)) ∙ rank-suc bs o ∙ ap (λ (b : Bool). rank bs o + num b) h
