-- `components::Path::visit` meets its contract. Assumes nothing.
use mathlib.Core.Path.{◌≡◌}
use mathlib.Core.Bool.{Bool, true}
use Prim.Native.Nat.{ℕ, ◌<◌, ◌≤◌, ◌-◌}
use lib.Dec.{eqb}
use lib.ListN.{get_or}
use Rattle.lists.specs.Tally.{tally}
use Rattle.matrices.specs.Matrix.{bit_of}
use Rattle.groups.specs.Search.{State, Room, state_of}
use Rattle.groups.proofs.Steps.{WalkOf, Entered}
use Rattle.groups.proofs.components.Path.+visit.Given as goal

abbrev pub decreases-visit : goal.decreases-visit
decreases-visit l = tally (λ x. eqb (get_or l.self.now.pos x 0) 2048) l.n

abbrev pub invariant-loop-w : goal.invariant-loop-w
invariant-loop-w l =
    Room l.self × ((l.w ≤ 2048) × (l.w < 2048 → bit_of l.e l.v l.w ≡ true))
    × ((small : l.n ≤ 2048) (S₀ : State) (gray : ℕ → Bool) → Entered l.n small l.e S₀ gray l.v (state_of l.initial.self) → WalkOf l.n small l.e S₀ (state_of l.self) l.v l.w gray)

abbrev pub decreases-loop-w : goal.decreases-loop-w
decreases-loop-w l = 2048 - l.w
