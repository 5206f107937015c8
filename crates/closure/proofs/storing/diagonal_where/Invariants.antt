-- `storing::diagonal_where` meets its contract: the invariant is the part of the diagonal passed. Assumes nothing.
use mathlib.Core.Path.{◌≡◌}
use mathlib.Core.Bool.{Bool, ◌&&◌}
use Prim.Native.Nat.{ℕ}
use lib.Dec.{eqb, ltb}
use lib.ListN.{length}
use Rattle.closure.specs.Tells.{Tells}
use Rattle.closure.specs.Closed.{Grown}
use Rattle.closure.proofs.storing.diagonal_where.Given as goal

abbrev pub invariant-loop-i : goal.invariant-loop-i
invariant-loop-i g l =
    (length l.m ≡ 65536) × ((test : ℕ → Bool) → Tells l.n (goal.F-post g l.on) test → Grown l.initial.m l.m (λ x y. eqb x y && (ltb x l.i && test x)))
