-- A cleared matrix has no bits. Assumes nothing.
use mathlib.Core.Path.{◌≡◌, ap, ◌∙◌}
use mathlib.Core.Bool.{false}
use mathlib.Core.List.{List, ◌++◌}
use Prim.Native.Nat.{ℕ, ◌+◌, ◌*◌, ◌/◌, ◌%◌, ◌<◌}
use native.Mathlib.Decide.{dec_lt}
use native.Mathlib.Omega.{arith}
use lib.ListN.{get_or, replicate, get_or-append, get_or-replicate, length-replicate, get_or-eq_default}
use Rattle.matrices.specs.Matrix.{bit, bit_of, Blank}
use Rattle.matrices.proofs.Laws.{bit-zero}

pub cleared : (k r i : ℕ) → bit_of (replicate k 0) r i ≡ false
unfolding bit_of
cleared k r i = ap (λ (x : ℕ). bit x (i % 64)) (zeros (r * 32 + i / 64)) ∙ bit-zero (i % 64)
  where
    zeros : (w : ℕ) → ◌≡◌ {A = ℕ} (get_or (replicate k 0) w 0) 0
    zeros w =
        elim (dec_lt w k) [
          | yes h ↦ get_or-replicate k w 0 0 h
          | no h ↦ get_or-eq_default (replicate k 0) 0 (omega (arith, length-replicate {A = ℕ} k 0))
        ]

pub blank : (n : ℕ) (m : List ℕ) → ((k : ℕ) → k < n * 32 → ◌≡◌ {A = ℕ} (get_or m k 0) 0) → Blank n m
unfolding bit_of
blank n m h = record { bits = λ r i a b. ap (λ (x : ℕ). bit x (i % 64)) (h (r * 32 + i / 64) (omega arith)) ∙ bit-zero (i % 64) }

-- and where that many words at the front are 0
pub blank_front : (n k : ℕ) (rest : List ℕ) → k ≡ n * 32 → Blank n (replicate k 0 ++ rest)
blank_front n k rest e =
    blank n _ (λ w h. let l : w < k = omega arith in get_or-append (replicate k 0) rest 0 w (omega (arith, length-replicate {A = ℕ} k 0)) ∙ get_or-replicate k w 0 0 l)
