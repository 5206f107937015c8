-- A set of facts whose containers are lower than their parts, with the joins to piece 0, is a book. Assumes nothing.
use mathlib.Core.Path.{◌≡◌, refl}
use mathlib.Core.Logic.{◌⊎◌, inl, inr}
use mathlib.Core.Bool.{Bool, true, false, not, ◌&&◌}
use Prim.Native.Nat.{ℕ, ◌<◌}
use native.Mathlib.Omega.{arith}
use lib.Dec.{eqb, ltb}
use borrow.Author.Tests.{eqb-true, eq-eqb, ltb-true, lt-ltb}
use Rattle.lists.specs.Any.{any_below}
use Rattle.lists.proofs.Bools.{or-either, and_both}
use Rattle.lists.proofs.Anys.{below-find}
use Rattle.index.specs.Pairs.{joined, Book}
use Rattle.lists.proofs.Numbers.{which}

module _ (n : ℕ) (fact : ℕ → ℕ → Bool) (some : 0 < n) (lower : (p c : ℕ) → fact p c ≡ true → c < p) (piece : (p c : ℕ) → fact p c ≡ true → p < n) where
  both : (p c : ℕ) → joined n fact p c ≡ true → (c < p) × (p < n)
  unfolding joined
  both p c e = go (or-either (fact p c) join e)
    where
      join : Bool
      join = eqb c 0 && (ltb 0 p && (ltb p n && not (any_below (fact p) n)))

      go : (fact p c ≡ true) ⊎ (join ≡ true) → (c < p) × (p < n)
      go (inl f) = (lower p c f, piece p c f)
      go (inr j) =
          let a = and_both (eqb c 0) (ltb 0 p && (ltb p n && not (any_below (fact p) n))) j in
          let b = and_both (ltb 0 p) (ltb p n && not (any_below (fact p) n)) a.1 in
          let d = and_both (ltb p n) (not (any_below (fact p) n)) b.1 in
          omega (arith, eqb-true c 0 a.0, ltb-true 0 p b.0, ltb-true p n d.0)

  held : (p : ℕ) → 0 < p → p < n → (c : ℕ) × (joined n fact p c ≡ true)
  unfolding joined
  held p pos l = go (which (any_below (fact p) n))
    where
      go : (any_below (fact p) n ≡ true) ⊎ (any_below (fact p) n ≡ false) → (c : ℕ) × (joined n fact p c ≡ true)
      go (inl e) = let f = below-find (fact p) n e in (f.0, rw f.2)
      go (inr e) = pick (which (fact p 0))
        where
          pick : (fact p 0 ≡ true) ⊎ (fact p 0 ≡ false) → (c : ℕ) × (joined n fact p c ≡ true)
          pick (inl f) = (0, rw f)
          pick (inr f) = (0, rw (f, eq-eqb 0 0 refl, lt-ltb 0 p pos, lt-ltb p n l, e))

  pub joined-book : Book n (joined n fact)
  joined-book = record {
    some = some;
    level = λ p. p;
    lower = λ p c e. (both p c e).0;
    fits = λ p l. l;
    whole = λ p c e. omega (arith, both p c e);
    below = λ p c e. omega (arith, (both p c e).0);
    piece = λ p c e. (both p c e).1;
    held = held;
  }
