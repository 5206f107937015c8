-- Groups: the lowest member stands for all, and two pieces have the same one exactly where each is PART of the other. Assumes nothing.
use mathlib.Core.Path.{◌≡◌, sym}
use mathlib.Core.Bool.{Bool, true}
use Prim.Native.Nat.{ℕ, ◌<◌, ◌≤◌}
use native.Mathlib.Omega.{arith}
use borrow.Author.Tests.{eq-eqb}
use Rattle.lists.proofs.Bools.{and_both, both-and}
use Rattle.lists.proofs.Firsts.{Hit, hits}
use Rattle.groups.specs.Groups.{lies, same, lowest, first_of}
use Rattle.groups.proofs.Lying.{Pairs, lies-refl, lies-trans}

module _ (n : ℕ) (fact : ℕ → ℕ → Bool) (P : Pairs n fact) where
  pub same-both : (g h : ℕ) → same n fact g h ≡ true → (lies n fact g h ≡ true) × (lies n fact h g ≡ true)
  unfolding same
  same-both g h e = and_both (lies n fact g h) (lies n fact h g) e

  pub both-same : (g h : ℕ) → lies n fact g h ≡ true → lies n fact h g ≡ true → same n fact g h ≡ true
  unfolding same
  both-same g h a b = both-and a b

  pub same_refl : (g : ℕ) → g < n → same n fact g g ≡ true
  same_refl g l = both-same g g (lies-refl n fact P g l) (lies-refl n fact P g l)

  pub same_turn : (g h : ℕ) → same n fact g h ≡ true → same n fact h g ≡ true
  same_turn g h e = let b = same-both g h e in both-same h g b.1 b.0

  pub same-trans : (g m h : ℕ) → g < n → m < n → h < n → same n fact g m ≡ true → same n fact m h ≡ true → same n fact g h ≡ true
  same-trans g m h a b c e f =
      let x = same-both g m e in
      let y = same-both m h f in
      both-same g h (lies-trans n fact P g m h a b c x.0 y.0) (lies-trans n fact P h m g c b a y.1 x.1)

  hit : (g : ℕ) → g < n → (h : ℕ) → h < n → same n fact g h ≡ true → Hit (same n fact g) 0 (lowest n fact g) h
  unfolding lowest
  hit g l h k e = hits (same n fact g) 0 n h (omega arith) (omega arith) e

  -- the lowest member is a member, and no member is lower
  pub lowest-member : (g : ℕ) → g < n → same n fact g (lowest n fact g) ≡ true
  lowest-member g l = (hit g l g l (same_refl g l)).0

  pub lowest-le : (g h : ℕ) → g < n → h < n → same n fact g h ≡ true → lowest n fact g ≤ h
  lowest-le g h l k e = (hit g l h k e).2

  pub lowest-at-most : (g : ℕ) → g < n → lowest n fact g ≤ g
  lowest-at-most g l = lowest-le g g l l (same_refl g l)

  pub lowest-below : (g : ℕ) → g < n → lowest n fact g < n
  lowest-below g l = omega (arith, lowest-at-most g l)

  pub lowest-up : (g : ℕ) → g < n → lies n fact g (lowest n fact g) ≡ true
  lowest-up g l = (same-both g (lowest n fact g) (lowest-member g l)).0

  pub lowest-down : (g : ℕ) → g < n → lies n fact (lowest n fact g) g ≡ true
  lowest-down g l = (same-both g (lowest n fact g) (lowest-member g l)).1

  -- one group, one lowest member; and the other way
  pub same-lowest : (g h : ℕ) → g < n → h < n → same n fact g h ≡ true → lowest n fact g ≡ lowest n fact h
  same-lowest g h l k e =
      let a = lowest-below g l in
      let b = lowest-below h k in
      omega (
        arith,
        lowest-le g (lowest n fact h) l b (same-trans g h (lowest n fact h) l k b e (lowest-member h k)),
        lowest-le h (lowest n fact g) k a (same-trans h g (lowest n fact g) k l a (same_turn g h e) (lowest-member g l)),
      )

  pub group-of-lowest : (g h : ℕ) → g < n → h < n → lowest n fact g ≡ lowest n fact h → same n fact g h ≡ true
  group-of-lowest g h l k e =
      let b = lowest-below h k in
      same-trans g (lowest n fact h) h l b k (rw e at (lowest-member g l)) (same_turn h (lowest n fact h) (lowest-member h k))

  pub lowest-own : (g : ℕ) → g < n → lowest n fact (lowest n fact g) ≡ lowest n fact g
  lowest-own g l = sym (same-lowest g (lowest n fact g) l (lowest-below g l) (lowest-member g l))

  pub lowest-first : (g : ℕ) → g < n → first_of n fact (lowest n fact g) ≡ true
  unfolding first_of
  lowest-first g l = eq-eqb (lowest n fact (lowest n fact g)) (lowest n fact g) (lowest-own g l)
