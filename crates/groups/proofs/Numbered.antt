-- The numbers of groups: below `groups`, one for each group, in the order of lowest members. Assumes nothing.
use mathlib.Core.Path.{◌≡◌, refl, ap, ◌∙◌}
use mathlib.Core.Logic.{◌↔◌}
use mathlib.Core.Bool.{Bool, true}
use Prim.Native.Nat.{ℕ, ◌<◌, ◌≤◌}
use native.Mathlib.Decide.{dec_lt}
use native.Mathlib.Omega.{arith}
use borrow.Author.Tests.{eqb-true}
use lib.Dec.{eqb}
use Rattle.lists.specs.First.{first}
use Rattle.lists.proofs.Bools.{eqb-self}
use Rattle.lists.proofs.Firsts.{Hit, hits}
use Rattle.lists.specs.Tally.{tally}
use Rattle.groups.specs.Groups.{same, lowest, first_of, number, groups}
use Rattle.lists.proofs.Tallies.{tally-le, tally-upto, tally-find}
use Rattle.groups.proofs.Lying.{Pairs}
use Rattle.groups.proofs.Grouping.{same-lowest, group-of-lowest, lowest-at-most, lowest-below, lowest-first}

-- a member of group k
unfoldable pub low : (n : ℕ) → (ℕ → ℕ → Bool) → ℕ → ℕ
low n fact k = first (λ g. eqb (number n fact g) k) 0 n

module _ (n : ℕ) (fact : ℕ → ℕ → Bool) (P : Pairs n fact) where
  pub number-rises : (g h : ℕ) → g < n → h < n → lowest n fact g < lowest n fact h → number n fact g < number n fact h
  unfolding number
  number-rises g h l k r = tally-upto (first_of n fact) (lowest n fact g) (lowest n fact g) (lowest n fact h) (omega arith) r (lowest-first n fact P g l)

  pub number-below : (g : ℕ) → g < n → number n fact g < groups n fact
  unfolding number groups
  number-below g l = tally-upto (first_of n fact) (lowest n fact g) (lowest n fact g) n (omega arith) (lowest-below n fact P g l) (lowest-first n fact P g l)

  pub same-to-number : (g h : ℕ) → g < n → h < n → same n fact g h ≡ true → number n fact g ≡ number n fact h
  unfolding number
  same-to-number g h l k e = ap (tally (first_of n fact)) (same-lowest n fact P g h l k e)

  pub number-to-same : (g h : ℕ) → g < n → h < n → number n fact g ≡ number n fact h → same n fact g h ≡ true
  number-to-same g h l k e = go (dec_lt (lowest n fact g) (lowest n fact h)) (dec_lt (lowest n fact h) (lowest n fact g))
    where
      go : Dec (lowest n fact g < lowest n fact h) → Dec (lowest n fact h < lowest n fact g) → same n fact g h ≡ true
      go (yes a) b = absurd (omega (arith, number-rises g h l k a))
      go (no a) (yes b) = absurd (omega (arith, number-rises h g k l b))
      go (no a) (no b) = group-of-lowest n fact P g h l k (omega arith)

  -- every group has its lowest member
  pub number-onto : (k : ℕ) → k < groups n fact → (g : ℕ) × (g < n) × (lowest n fact g ≡ g) × (number n fact g ≡ k)
  unfolding groups number first_of
  number-onto k l =
      let f = tally-find (first_of n fact) n k l in
      let e = eqb-true (lowest n fact f.0) f.0 f.2 in
      (f.0, f.1, e, ap (tally (first_of n fact)) e ∙ f.3)

  -- two pieces have one number where they have one lowest member
  pub number_same : (g h : ℕ) → g < n → h < n → (number n fact g ≡ number n fact h) ↔ (lowest n fact g ≡ lowest n fact h)
  unfolding number
  number_same g h l k = (λ e. same-lowest n fact P g h l k (number-to-same g h l k e), ap (tally (first_of n fact)))

  pub groups-few : groups n fact ≤ n
  unfolding groups
  groups-few = tally-le (first_of n fact) n

  pub groups-some : 0 < groups n fact
  groups-some = let l = number-below 0 P.some in omega arith

  pub number-zero : number n fact 0 ≡ 0
  unfolding number tally
  number-zero = let e : lowest n fact 0 ≡ 0 = omega (arith, lowest-at-most n fact P 0 P.some) in rw e refl

  -- `low` of a group's number is in the group
  found : (g : ℕ) → g < n → Hit (λ x. eqb (number n fact x) (number n fact g)) 0 (low n fact (number n fact g)) g
  unfolding low
  found g l = hits (λ x. eqb (number n fact x) (number n fact g)) 0 n g (omega arith) (omega arith) (eqb-self (number n fact g))

  pub low-in : (g : ℕ) → g < n → low n fact (number n fact g) < n
  low-in g l = omega (arith, (found g l).2)

  pub low-number : (g : ℕ) → g < n → number n fact (low n fact (number n fact g)) ≡ number n fact g
  low-number g l = eqb-true (number n fact (low n fact (number n fact g))) (number n fact g) (found g l).0

  pub low_same : (g : ℕ) → g < n → same n fact (low n fact (number n fact g)) g ≡ true
  low_same g l = number-to-same (low n fact (number n fact g)) g (low-in g l) l (low-number g l)
