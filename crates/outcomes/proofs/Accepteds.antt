-- Two acceptances that are the same have the same counts. Assumes nothing.
use Prim.Native.Nat.{ℕ}
use mathlib.Core.Path.{◌≡◌, ap}
use Rattle.std.specs.Prelude.{Ok, Err}
use Rattle.outcomes.specs.Accepted.{Outcome, accepted_with}
use Rattle.outcomes.specs.Outcome.{piece_count, node_count, shadow_count}

module _ {n v h m w k : ℕ} (e : accepted_with n v h ≡ accepted_with m w k) where
  pub same-pieces : n ≡ m
  same-pieces = ap piece_count e

  pub same-nodes : v ≡ w
  same-nodes = ap node_count e

  pub same-shadows : h ≡ k
  same-shadows = ap shadow_count e
