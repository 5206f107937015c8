-- `storing::crown_where` meets its contract: the invariant is the part of row 0 passed. Assumes nothing.
use mathlib.Core.Path.{◌≡◌}
use mathlib.Core.Bool.{Bool, ◌&&◌}
use Prim.Native.Nat.{ℕ}
use lib.Dec.{eqb, ltb}
use lib.ListN.{length}
use Rattle.closure.specs.Tells.{Tells}
use Rattle.closure.specs.Closed.{Grown}
use Rattle.closure.proofs.storing.crown_where.Given as goal

abbrev pub invariant-loop-p : goal.invariant-loop-p
invariant-loop-p g l =
    (length l.e ≡ 65536) × ((test : ℕ → Bool) → Tells l.n (goal.F-post g l.on) test → Grown l.initial.e l.e (λ x y. eqb x 0 && (ltb 0 y && (ltb y l.p && test y))))
