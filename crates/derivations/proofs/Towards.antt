-- The hops towards k: the parents of a breadth-first search from k. Assumes nothing.
use Prim.Native.Nat.{ℕ, zero, suc, ◌≤◌, ◌<◌}
use mathlib.Core.Path.{◌≡◌, sym, ap, ◌∙◌}
use mathlib.Core.List.{List}
use native.Mathlib.Omega.{arith}
use native.Mathlib.Decide.{ℕ_discrete}
use lib.ListN.{length, get_or, replicate, length-replicate, get_or-replicate}
use Rattle.index.specs.Matrix.{pair_of}
use Rattle.index.specs.Steps.{Searched}
use Rattle.index.proofs.Joins.{low}
use Rattle.index.proofs.Queue.{met-is, is-met}
use Rattle.derivations.specs.Hops.{Way, arrived, onward, Met, Hopped}

-- what a fill leaves
pub filled-length : {l : List ℕ} (n v : ℕ) → l ≡ replicate n v → length l ≡ n
filled-length n v e = ap length e ∙ length-replicate n v

pub filled : {l : List ℕ} (n v : ℕ) → l ≡ replicate n v → (q : ℕ) → q < n → get_or l q 0 ≡ v
filled n v e q h = ap (λ (m : List ℕ). get_or m q 0) e ∙ get_or-replicate n q v 0 h

module _ (n : ℕ) (e : List ℕ) (k : ℕ) (hop : List ℕ) (small : n ≤ 2048) (S : Searched n (pair_of n e) k hop) where
  -- no longer than the level of the piece where it begins: each hop leads lower
  way_at : (m x : ℕ) → S.level x < m → x < n → Met hop x → (l : ℕ) × (l ≤ S.level x) × Way hop k x l
  way_at zero x h lx o = absurd (omega arith)
  way_at (suc m) x h lx o =
      elim (ℕ_discrete x k) [
        | yes q ↦ (0, omega arith, arrived q)
        | no q ↦
            let H = S.hung x lx q (met-is hop x o) in
            let w = way_at m (get_or hop x 0) (omega (arith, H.lower)) H.piece (is-met hop (get_or hop x 0) H.met) in
            (suc w.0, omega (arith, w.1, H.lower), onward {x = x} (omega arith) w.2)
      ]

  pub hopped : length hop ≡ 2048 → Hopped n e k hop
  hopped long =
      record {
        sized = long;
        start = is-met hop k S.start;
        parts = λ x y ly o lx t. is-met hop x (S.parts x y lx ly (low n e x y lx ly ∙ t) (met-is hop y o));
        ways = λ x lx o.
            let w = way_at (suc (S.level x)) x (omega arith) lx o in
            (w.0, omega (arith, w.1, S.fits x lx (met-is hop x o)), w.2);
        steps = λ x lx o q.
            let H = S.hung x lx q (met-is hop x o) in
            (H.piece, sym (low n e x (get_or hop x 0) lx H.piece) ∙ H.part);
      }
