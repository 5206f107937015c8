-- A row of a product, gathered bit by bit, and the rows of a product one after the other. Assumes nothing.
use mathlib.Core.Path.{◌≡◌, refl, sym, ap, ◌∙◌}
use mathlib.Core.List.{List}
use mathlib.Core.Bool.{Bool, ◌||◌, ◌&&◌, or-false, or_assoc, or_comm}
use Prim.Native.Nat.{ℕ, ◌+◌, ◌<◌, ◌≤◌}
use native.Mathlib.Numerals.{add-one}
use native.Mathlib.Omega.{arith}
use Rattle.lists.specs.Any.{any_below}
use Rattle.lists.proofs.Anys.{below-pass}
use Rattle.lists.proofs.Searches.{Sought}
use Rattle.matrices.specs.Matrix.{bit_of, through, Joins, United, Gathered}

-- bit y of row r of the product, by the x below k alone
abbrev pub part : List ℕ → List ℕ → ℕ → ℕ → ℕ → Bool
part a b r k y = any_below (λ x. bit_of a r x && bit_of b x y) k

pub gather_none : (m a b : List ℕ) (r : ℕ) → Joins m m r (part a b r 0)
unfolding any_below
gather_none m a b r = record { row = λ j h. sym (or-false (bit_of m r j)); other = λ q j h n. refl }

pub gather-all : (m m' a b : List ℕ) (r k : ℕ) → k ≡ 2048 → Joins m m' r (part a b r k) → Gathered m m' a r b
unfolding through
gather-all m m' a b r k e J = record { row = λ j l. J.row j l ∙ ap (λ (v : ℕ). bit_of m r j || part a b r v j) e; other = J.other }

module _ (a b : List ℕ) (r from x : ℕ) (S : Sought (bit_of a r) from 2048 x) where
  passed : (y : ℕ) → part a b r x y ≡ part a b r from y
  passed y = below-pass (λ v. bit_of a r v && bit_of b v y) from x S.from (λ q g l. ap (λ (t : Bool). t && bit_of b q y) (S.before q g l))

  pub gather-done : (m m' : List ℕ) → 2048 ≤ x → Joins m m' r (part a b r from) → Gathered m m' a r b
  gather-done m m' h J =
      gather-all m m' a b r x (omega (arith, S.upto)) (record { row = λ j l. J.row j l ∙ ap (λ (t : Bool). bit_of m r j || t) (sym (passed j)); other = J.other })

  pub gather-more : (m m' m'' : List ℕ) → x < 2048 → Joins m m' r (part a b r from) → United m' m'' r b x → Joins m m'' r (part a b r (x + 1))
  unfolding any_below
  gather-more m m' m'' h J U =
      record {
        row = λ j l.
            U.row j l ∙ ap (λ (t : Bool). t || bit_of b x j) (J.row j l) ∙ or_assoc (bit_of m r j) (part a b r from j) (bit_of b x j)
            ∙ ap (λ (t : Bool). bit_of m r j || t) (or_comm (part a b r from j) (bit_of b x j) ∙ sym (grown j));
        other = λ q j l n. U.other q j l n ∙ J.other q j l n;
      }
    where
      grown : (j : ℕ) → part a b r (x + 1) j ≡ (bit_of b x j || part a b r from j)
      grown j =
          ap (λ (k : ℕ). part a b r k j) (add-one x) ∙ ap (λ (t : Bool). (t && bit_of b x j) || part a b r x j) (S.hit h)
          ∙ ap (λ (t : Bool). bit_of b x j || t) (passed j)

-- ---- row after row
