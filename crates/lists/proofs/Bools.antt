-- Boolean tests and what their truth says. Assumes nothing.
use Prim.Native.Nat.{ℕ}
use mathlib.Core.Path.{◌≡◌, refl, sym}
use mathlib.Core.Logic.{◌⊎◌, inl, inr}
use mathlib.Core.Bool.{Bool, true, false, not, ◌&&◌, ◌||◌, false≢true}
use borrow.Author.Tests.{eq-eqb}
use lib.Dec.{eqb}

pub and_both : (a b : Bool) → (a && b) ≡ true → (a ≡ true) × (b ≡ true)
and_both true b e = (refl, e)
and_both false b e = absurd (false≢true e)

pub both-and : {a b : Bool} → a ≡ true → b ≡ true → (a && b) ≡ true
both-and p q = rw (p, q)

pub and-false : (a : Bool) → (a && false) ≡ false
and-false true = refl
and-false false = refl

pub or-either : (a b : Bool) → (a || b) ≡ true → (a ≡ true) ⊎ (b ≡ true)
or-either true b e = inl refl
or-either false b e = inr e

pub or-neither : (a b : Bool) → (a || b) ≡ false → (a ≡ false) × (b ≡ false)
or-neither true b e = absurd (false≢true (sym e))
or-neither false b e = (refl, e)

pub left_or : {a : Bool} (b : Bool) → a ≡ true → (a || b) ≡ true
left_or b p = rw p

pub right_or : (a : Bool) {b : Bool} → b ≡ true → (a || b) ≡ true
right_or true q = refl
right_or false q = q

pub eqb-self : (g : ℕ) → eqb g g ≡ true
eqb-self g = eq-eqb g g refl

-- a test is true or false, with the equation
pub data Known (b : Bool) : Type 0 where
  is_true : b ≡ true → Known b
  is_false : b ≡ false → Known b

pub known : (b : Bool) → Known b
known true = is_true refl
known false = is_false refl

-- two tests that are true at the same time are equal
pub same_truth : (a b : Bool) → (a ≡ true → b ≡ true) → (b ≡ true → a ≡ true) → a ≡ b
same_truth true true f g = refl
same_truth true false f g = absurd (false≢true (f refl))
same_truth false true f g = absurd (false≢true (g refl))
same_truth false false f g = refl

-- what is not true is false
pub not-true : (b : Bool) → (b ≡ true → ⊥) → b ≡ false
not-true true h = absurd (h refl)
not-true false h = refl

pub not-is-true : (b : Bool) → not b ≡ true → b ≡ false
not-is-true true h = absurd (false≢true h)
not-is-true false h = refl

pub not-is-false : (b : Bool) → not b ≡ false → b ≡ true
not-is-false true h = refl
not-is-false false h = absurd (false≢true (sym h))
