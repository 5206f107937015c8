-- Facts about the pieces below n, of which there are at most 2,048. Assumes nothing.
use Rattle.std.specs.Prelude.{ℕ, ◌<◌, ◌≤◌, List}
use Rattle.rules.specs.Fact.{Fact, AllWithin}

pub record Bounded (n : ℕ) (fs : List Fact) : Type 0 where
  pub some : 0 < n
  pub fits : n ≤ 2048
  pub within : AllWithin n fs
