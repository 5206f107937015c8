-- When a place is that of the j-th 1, and when there is none.
-- Assumes nothing.
use mathlib.Core.Path.{◌≡◌, refl, ap, ◌∙◌}
use mathlib.Core.Bool.{Bool, true, false}
use mathlib.Core.List.{List}
use Prim.Native.Nat.{ℕ, zero, suc, ◌+◌, ◌≤◌, ◌<◌}
use native.Mathlib.Nat.{zero-add}
use native.Mathlib.Numerals.{add-one}
use native.Mathlib.Omega.{arith}
use borrow.Author.Tests.{lt-ltb, le-ltb, ltb-true, ltb-false}
use lib.Dec.{ltb}
use lib.ListN.{get_or, length}
use Rattle.lists.specs.Tally.{num}
use Rattle.parentheses.specs.Rank.{rank, select}
use Rattle.parentheses.proofs.Ranks.{num-le, rank-zero, rank_mono, rank-suc}
use Rattle.lists.proofs.Firsts.{first-is, first-none, hits}

module _ (bs : List Bool) (j : ℕ) where
  abbrev passed : ℕ → Bool
  passed q = ltb j (rank bs (suc q))

  before : (p : ℕ) → rank bs p ≤ j → (q : ℕ) → q < p → passed q ≡ false
  before p h q g = le-ltb j (rank bs (suc q)) (omega (arith, rank_mono bs (suc q) p g))

  pub select-is : (p : ℕ) → p < length bs → rank bs p ≤ j → j < rank bs (suc p) → select bs j ≡ p
  unfolding select
  select-is p w h g = first-is passed 0 (length bs) p (omega arith) (omega arith) (λ q _ k. before p h q k) (lt-ltb j (rank bs (suc p)) g)

  pub select-none : rank bs (length bs) ≤ j → select bs j ≡ length bs
  unfolding select
  select-none h = first-none passed 0 (length bs) (λ q _ k. before (length bs) h q (omega arith)) ∙ zero-add (length bs)

-- a 1 is found again by the count of ones before it
pub select-rank : (bs : List Bool) (o : ℕ) → o < length bs → get_or bs o false ≡ true → select bs (rank bs o) ≡ o
select-rank bs o w h = select-is bs (rank bs o) o w (omega arith) (rw (← add-one o) (omega (arith, rank-suc bs o, ap num h)))

-- what is found where more than j ones stand before e
pub record Found (bs : List Bool) (j e s : ℕ) : Type 0 where
  pub before : s < e
  pub counted : rank bs s ≡ j
  pub one : get_or bs s false ≡ true

num-true : (b : Bool) → 0 < num b → b ≡ true
num-true true h = refl
num-true false h = absurd (omega arith)

-- the count before a place after which more than j ones have passed, and before it no more than j
low : (bs : List Bool) (j s : ℕ) → ((q : ℕ) → 0 ≤ q → q < s → passed bs j q ≡ false) → rank bs s ≤ j
low bs j zero h = omega (arith, rank-zero bs)
low bs j (suc s) h = ltb-false j (rank bs (suc s)) (h s (omega arith) (omega arith))

pub select-found : (bs : List Bool) (j e : ℕ) → e ≤ length bs → j < rank bs e → Found bs j e (select bs j)
unfolding select
select-found bs j zero w h = absurd (omega (arith, rank-zero bs))
select-found bs j (suc e) w h =
    let hit = hits (passed bs j) 0 (length bs) e (omega arith) (omega arith) (lt-ltb j (rank bs (suc e)) h) in
    let s = select bs j in
    let up : j < rank bs (suc s) = ltb-true j (rank bs (suc s)) hit.0 in
    let down : rank bs s ≤ j = low bs j s hit.3 in
    let step : rank bs (suc s) ≡ rank bs s + num (get_or bs s false) = rw (← add-one s) (rank-suc bs s) in
    record { before = omega arith; counted = omega (arith, num-le (get_or bs s false)); one = num-true (get_or bs s false) (omega arith) }
