-- A level for each group: it rises from container to part, and stays below the number of groups. Assumes nothing.
use mathlib.Core.Path.{◌≡◌, sym, ◌∙◌}
use mathlib.Core.Bool.{Bool, true, false, ◌&&◌, true≢false}
use Prim.Native.Nat.{ℕ, ◌<◌, ◌≤◌, ◌-◌}
use native.Mathlib.Omega.{arith}
use Rattle.lists.specs.Tally.{tally}
use Rattle.lists.proofs.Bools.{and_both, both-and, not-true}
use Rattle.lists.proofs.Tallies.{tally-mono, tally-more, tally-some}
use Rattle.groups.specs.Groups.{lies, same, lowest, first_of, groups}
use Rattle.groups.proofs.Lying.{Pairs, lies-trans}
use Rattle.groups.proofs.Grouping.{same-both, lowest-below, lowest-up, lowest-down, lowest-first}

module _ (n : ℕ) (fact : ℕ → ℕ → Bool) where
  -- how many groups h contains, by their lowest members
  unfoldable pub weight : ℕ → ℕ
  weight h = tally (λ g. first_of n fact g && lies n fact g h) n

  unfoldable pub level : ℕ → ℕ
  level h = groups n fact - weight h

module _ (n : ℕ) (fact : ℕ → ℕ → Bool) (P : Pairs n fact) where
  -- the measure: a container that is not part of its part contains more groups
  grows : (p c : ℕ) → p < n → c < n → lies n fact p c ≡ true → (g : ℕ) → g < n → (first_of n fact g && lies n fact g p) ≡ true → (first_of n fact g && lies n fact g c) ≡ true
  grows p c l k e g b t = let d = and_both (first_of n fact g) (lies n fact g p) t in both-and d.0 (lies-trans n fact P g p c b l k d.1 e)

  pub heavier : (p c : ℕ) → p < n → c < n → lies n fact p c ≡ true → lies n fact c p ≡ false → weight n fact p < weight n fact c
  unfolding weight
  heavier p c l k e f =
      tally-more (λ g. first_of n fact g && lies n fact g p) (λ g. first_of n fact g && lies n fact g c) n (lowest n fact c) (grows p c l k e) (lowest-below n fact P c k)
      (not-true (first_of n fact (lowest n fact c) && lies n fact (lowest n fact c) p) (λ t.
      true≢false (sym (lies-trans n fact P c (lowest n fact c) p k (lowest-below n fact P c k) l (lowest-up n fact P c k) (and_both (first_of n fact (lowest n fact c)) (lies n fact (lowest n fact c) p) t).1) ∙ f)))
      (both-and (lowest-first n fact P c k) (lowest-down n fact P c k))

  pub weight-le : (h : ℕ) → weight n fact h ≤ groups n fact
  unfolding weight groups
  weight-le h = tally-mono (λ g. first_of n fact g && lies n fact g h) (first_of n fact) n (λ g b t. (and_both (first_of n fact g) (lies n fact g h) t).0)

  pub weight-some : (h : ℕ) → h < n → 0 < weight n fact h
  unfolding weight
  weight-some h l = tally-some (λ g. first_of n fact g && lies n fact g h) n (lowest n fact h) (lowest-below n fact P h l) (both-and (lowest-first n fact P h l) (lowest-down n fact P h l))

  pub level-small : (h : ℕ) → h < n → level n fact h < groups n fact
  unfolding level
  level-small h l = omega (arith, weight-le h, weight-some h l)

  pub level-rises : (p c : ℕ) → p < n → c < n → lies n fact p c ≡ true → lies n fact c p ≡ false → level n fact c < level n fact p
  unfolding level
  level-rises p c l k e f = omega (arith, heavier p c l k e f, weight-le c, weight-le p)

  pub level-same : (g h : ℕ) → g < n → h < n → same n fact g h ≡ true → level n fact g ≡ level n fact h
  unfolding level weight
  level-same g h l k e =
      let s = same-both n fact P g h e in
      omega (
        arith,
        tally-mono (λ x. first_of n fact x && lies n fact x g) (λ x. first_of n fact x && lies n fact x h) n (grows g h l k s.0),
        tally-mono (λ x. first_of n fact x && lies n fact x h) (λ x. first_of n fact x && lies n fact x g) n (grows h g k l s.1),
      )
