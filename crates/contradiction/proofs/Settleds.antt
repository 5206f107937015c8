-- What is told of row 14: two contradictions that are the same have one place, and two indices the same counts. Assumes nothing.
use Prim.Native.Nat.{ℕ}
use mathlib.Core.Path.{◌≡◌, ap}
use Rattle.std.specs.Prelude.{Result, Ok, Err}
use Rattle.contradiction.specs.declared.row_14.Clash.{Clash}
use Rattle.contradiction.specs.Row14.{Settled, clashed_at, free_with}

place_or : {A : Type 0} → ℕ → Result A Clash → ℕ
place_or d (Ok _) = d
place_or d (Err k) = k.place

nodes_or : ℕ → Settled → ℕ
nodes_or d (Ok s) = s.nodes
nodes_or d (Err k) = d

shadows_or : ℕ → Settled → ℕ
shadows_or d (Ok s) = s.shadows
shadows_or d (Err k) = d

pub same-clash : {A : Type 0} {i j : ℕ} → clashed_at {A = A} i ≡ clashed_at j → i ≡ j
unfolding place_or
same-clash {i = i} e = ap (place_or i) e

pub free-nodes : {v h w k : ℕ} → free_with v h ≡ free_with w k → v ≡ w
unfolding nodes_or
free-nodes e = ap (nodes_or 0) e

pub free-shadows : {v h w k : ℕ} → free_with v h ≡ free_with w k → h ≡ k
unfolding shadows_or
free-shadows e = ap (shadows_or 0) e
