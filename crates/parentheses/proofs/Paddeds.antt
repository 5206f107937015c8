-- A list that grows at the start of n elements: what a store past its end does.
-- Assumes nothing.
use mathlib.Core.Path.{◌≡◌, refl, ap}
use mathlib.Core.List.{List, [], ◌∷◌, ◌++◌}
use Prim.Native.Nat.{ℕ, suc, ◌+◌, ◌-◌, ◌≤◌, ◌<◌}
use native.Mathlib.Omega.{arith}
use lib.ListN.{length, set, replicate, length-append, length-replicate}
use Rattle.parentheses.specs.Padded.{padded}

module _ {A : Type 0} (d : A) where
  set-seam : (l r : List A) (x a : A) → set (l ++ (x ∷ r)) (length l) a ≡ (l ++ (a ∷ [])) ++ r
  set-seam [] r x a = refl
  set-seam (y ∷ l) r x a = ap (λ (t : List A). y ∷ t) (set-seam l r x a)

  module _ (n : ℕ) (l : List A) where
    pub padded-length : length l ≤ n → length (padded d n l) ≡ n
    unfolding padded
    padded-length h = rw (length-append l (replicate (n - length l) d), length-replicate (n - length l) d) (omega arith)

    -- a store at the end of what was written
    pub padded-more : (a : A) → length l < n → set (padded d n l) (length l) a ≡ padded d n (l ++ (a ∷ []))
    unfolding padded
    padded-more a h =
        let e : n - length l ≡ suc (n - (length l + 1)) = omega arith in
        rw (e, length-append l (a ∷ [])) (set-seam l (replicate (n - (length l + 1)) d) d a)
