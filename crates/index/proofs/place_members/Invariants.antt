-- `index::place_members` meets its contract: the pieces below g have their places, and the rest is 0. Assumes nothing.
use mathlib.Core.Path.{◌≡◌}
use Prim.Native.Nat.{ℕ, ◌<◌, ◌≤◌}
use lib.ListN.{length, get_or}
use Rattle.index.proofs.place_members.Given as goal

abbrev pub invariant-loop-g : goal.invariant-loop-g
invariant-loop-g l =
    (l.g ≤ l.n) × (length l.places ≡ length l.initial.places) × ((k : ℕ) → k < l.g → get_or l.places k 0 ≡ get_or l.groups (get_or l.number k 0) 0) × ((k : ℕ) → l.g ≤ k → get_or l.places k 0 ≡ 0)
