-- A sweep, row by row. Assumes nothing.
use Prim.Native.Nat.{ℕ, ◌+◌, ◌<◌, ◌≤◌}
use mathlib.Core.Path.{◌≡◌, sym, ap, ◌∙◌}
use mathlib.Core.Logic.{◌⊎◌, inl, inr}
use mathlib.Core.Bool.{Bool, true, ◌&&◌}
use mathlib.Core.List.{List}
use native.Mathlib.Decide.{ℕ_discrete}
use native.Mathlib.Omega.{arith}
use lib.ListN.{length, get_or, set}
use lib.Seq.{get_or-set_same, get_or-set_other}
use Rattle.lists.specs.Any.{any_below}
use Rattle.lists.proofs.Bools.{and_both, both-and, or-either, left_or, right_or}
use Rattle.lists.proofs.Anys.{below-find, below-hit}
use Rattle.matrices.specs.Matrix.{bit}
use Rattle.grids.specs.Grid.{bit_at, Gathered, Swept}
use Rattle.grids.proofs.Products.{In}

abbrev Transitive : (ℕ → ℕ → Bool) → Type 0
Transitive T = (g h k : ℕ) → g < 64 → h < 64 → k < 64 → T g h ≡ true → T h k ≡ true → T g k ≡ true

-- the rows below i are swept
pub record Sweeping (x r : List ℕ) (i : ℕ) : Type 0 where
  pub kept : In x (bit_at r)
  pub hit : (g h k : ℕ) → g < i → g < 64 → h < 64 → k < 64 → bit_at x g h ≡ true → bit_at x h k ≡ true → bit_at r g k ≡ true
  pub sound : (T : ℕ → ℕ → Bool) → Transitive T → In x T → In r T

pub none-swept : (x : List ℕ) → Sweeping x x 0
none-swept x = record { kept = λ g k a b e. e; hit = λ g h k l a b c e f. absurd (omega (arith, l)); sound = λ T t i. i }

pub all-swept : (x r : List ℕ) (i : ℕ) → 64 ≤ i → Sweeping x r i → Swept x r
all-swept x r i l s = record { kept = s.kept; hit = λ g h k a. s.hit g h k (omega arith) a; sound = s.sound }

module _ (x r : List ℕ) (i v : ℕ) (l : i < length r) (small : i < 64) (s : Sweeping x r i) (w : Gathered (get_or r i 0) (get_or r i 0) r v) where
  row_new : (k : ℕ) → bit_at (set r i v) i k ≡ bit v k
  unfolding bit_at
  row_new k = ap (λ (z : ℕ). bit z k) (get_or-set_same r i v 0 l)

  row_old : (g k : ℕ) → (g ≡ i → ⊥) → bit_at (set r i v) g k ≡ bit_at r g k
  unfolding bit_at
  row_old g k n = ap (λ (z : ℕ). bit z k) (get_or-set_other r i g v 0 n)

  -- a bit that stood stands
  grows : In r (bit_at (set r i v))
  unfolding bit_at
  grows g k a b e = pick (ℕ_discrete g i)
    where
      pick : Dec (g ≡ i) → bit_at (set r i v) g k ≡ true
      pick (yes q) = rw q (row_new k ∙ w k ∙ left_or _ (rw q at e))
      pick (no q) = row_old g k q ∙ e

  -- row i has the rows that it names
  joins : (h k : ℕ) → h < 64 → bit_at r i h ≡ true → bit_at r h k ≡ true → bit_at (set r i v) i k ≡ true
  unfolding bit_at
  joins h k b e f = row_new k ∙ w k ∙ right_or (bit (get_or r i 0) k) (below-hit (λ j. bit (get_or r i 0) j && bit_at r j k) 64 h b (both-and e f))

  stays : (T : ℕ → ℕ → Bool) → Transitive T → In r T → In (set r i v) T
  unfolding bit_at
  stays T t o g k a b e = pick (ℕ_discrete g i)
    where
      from : (bit_at r i k ≡ true) ⊎ (any_below (λ h. bit_at r i h && bit_at r h k) 64 ≡ true) → T i k ≡ true
      from (inl f) = o i k small b f
      from (inr f) =
          let m = below-find _ 64 f in
          let u = and_both _ _ m.2 in
          t i m.0 k small m.1 b (o i m.0 small m.1 u.0) (o m.0 k m.1 b u.1)

      pick : Dec (g ≡ i) → T g k ≡ true
      pick (yes q) = rw q (from (or-either _ _ (sym (w k) ∙ sym (row_new k) ∙ (rw q at e))))
      pick (no q) = o g k a b (sym (row_old g k q) ∙ e)

  pub swept-more : Sweeping x (set r i v) (i + 1)
  swept-more =
      record {
        kept = λ g k a b e. grows g k a b (s.kept g k a b e);
        hit = found;
        sound = λ T t o. stays T t (s.sound T t o);
      }
    where
      found :
          (g h k : ℕ) → g < i + 1 → g < 64 → h < 64 → k < 64 → bit_at x g h ≡ true → bit_at x h k ≡ true → bit_at (set r i v) g k ≡ true
      found g h k m a b c e f = pick (ℕ_discrete g i)
        where
          pick : Dec (g ≡ i) → bit_at (set r i v) g k ≡ true
          pick (yes q) = rw q (joins h k b (s.kept i h small b (rw q at e)) (s.kept h k b c f))
          pick (no q) = grows g k a c (s.hit g h k (omega (arith, q)) a b c e f)
