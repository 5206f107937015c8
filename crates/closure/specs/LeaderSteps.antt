-- What the steps that are lent together say. Assumes nothing.
use Rattle.std.specs.Prelude.{ℕ, List}
use Rattle.matrices.specs.Flow.{Sorted}
use Rattle.matrices.specs.Led.{Led}
use Rattle.matrices.specs.Matrix.{IsMatrix}
use Rattle.rules.specs.Fact.{Fact}
use Rattle.closure.specs.declared.LeaderSteps.{LeaderSteps}
use Rattle.closure.specs.Stepped.{Stepped}

-- rows may be joined along them
pub record Ordered (n : ℕ) (s : LeaderSteps) : Type 0 where
  pub matrix : IsMatrix s.e.now
  pub sorted : Sorted s.e.now n s.order.now
  pub led : Led n s.lead.now

abbrev pub SteppedBy : ℕ → List Fact → LeaderSteps → Type 0
SteppedBy n fs s = Stepped n fs s.e.now s.order.now s.lead.now
