-- Stored facts as bits. Assumes nothing.
use Prim.Native.Nat.{ℕ}
use mathlib.Core.Path.{◌≡◌}
use mathlib.Core.Logic.{◌⊎◌, inl, inr}
use mathlib.Core.Bool.{Bool, true, false, ◌&&◌, false≢true}
use mathlib.Core.List.{List, Memᴰ}
use borrow.Author.Tests.{eqb-true}
use lib.Dec.{eqb}
use Rattle.lists.proofs.Bools.{and_both, both-and, or-either, left_or, right_or, eqb-self}
use Rattle.rules.specs.Fact.{Fact, kind, left, right, fact_of}
use Rattle.rules.proofs.Facts.{storing-find, storing-hit}
use Rattle.rules.proofs.Paths.{Either, as_is, swapped}
use Rattle.records.specs.declared.Record.{Record}
use Rattle.records.proofs.Accepted.{says-left, says-right}
use Rattle.closure.specs.Stored.{stored_bit}

pub turn : {fs : List Fact} {R : ℕ → ℕ → Fact} {x y : ℕ} → Either fs R x y → Either fs R y x
turn (as_is m) = swapped m
turn (swapped m) = as_is m

-- a fact has its own pieces
same : (k x y : ℕ) → (eqb (left (fact_of k x y)) x && eqb (right (fact_of k x y)) y) ≡ true
same k x y =
    let r : Record = record { kind = k; origin = 0; a = x; b = y } in
    rw (says-left r, says-right r) (both-and (eqb-self x) (eqb-self y))

module _ (fs : List Fact) where
  -- in one order
  pub straight-find : (k : ℕ) (x y : ℕ) → stored_bit fs k true false x y ≡ true → Memᴰ (fact_of k x y) fs
  unfolding stored_bit
  straight-find k x y e = let s = storing-find fs k _ e in pick s.0 s.1 s.2 (or-either _ _ s.3)
    where
      pick : (a b : ℕ) → Memᴰ (fact_of k a b) fs → ((eqb a x && eqb b y) ≡ true) ⊎ (false ≡ true) → Memᴰ (fact_of k x y) fs
      pick a b m (inl t) = let h = and_both _ _ t in rw (eqb-true a x h.0, eqb-true b y h.1) at m
      pick a b m (inr t) = absurd (false≢true t)

  pub straight-hit : (k : ℕ) (x y : ℕ) (swaps : Bool) → kind (fact_of k x y) ≡ k → Memᴰ (fact_of k x y) fs → stored_bit fs k true swaps x y ≡ true
  unfolding stored_bit
  straight-hit k x y swaps q m =
      storing-hit fs k _ (fact_of k x y) m q (left_or _ (same k x y))

  -- in either order
  pub either-find : (k : ℕ) (x y : ℕ) → stored_bit fs k true true x y ≡ true → Either fs (fact_of k) x y
  unfolding stored_bit
  either-find k x y e = let s = storing-find fs k _ e in pick s.0 s.1 s.2 (or-either _ _ s.3)
    where
      pick : (a b : ℕ) → Memᴰ (fact_of k a b) fs → ((eqb a x && eqb b y) ≡ true) ⊎ ((eqb a y && eqb b x) ≡ true) → Either fs (fact_of k) x y
      pick a b m (inl t) = let h = and_both _ _ t in as_is (rw (eqb-true a x h.0, eqb-true b y h.1) at m)
      pick a b m (inr t) = let h = and_both _ _ t in swapped (rw (eqb-true a y h.0, eqb-true b x h.1) at m)

  pub swapped-hit : (k : ℕ) (x y : ℕ) (straight : Bool) → kind (fact_of k y x) ≡ k → Memᴰ (fact_of k y x) fs → stored_bit fs k straight true x y ≡ true
  unfolding stored_bit
  swapped-hit k x y straight q m =
      storing-hit fs k _ (fact_of k y x) m q
      (right_or (straight && (eqb (left (fact_of k y x)) x && eqb (right (fact_of k y x)) y)) (same k y x))

  pub either-hit : (k : ℕ) {x y : ℕ} → ((a b : ℕ) → kind (fact_of k a b) ≡ k) → Either fs (fact_of k) x y → stored_bit fs k true true x y ≡ true
  either-hit k {x} {y} q (as_is m) = straight-hit k x y true (q x y) m
  either-hit k {x} {y} q (swapped m) = swapped-hit k x y true (q y x) m
