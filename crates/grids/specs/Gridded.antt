-- What the grid call comes to, and the bits of its four grids. Assumes nothing.
use Rattle.records.specs.Refused.{refused_at}
use Rattle.outcomes.specs.Accepted.{Outcome, accepted_with}
use Rattle.std.specs.Prelude.{ℕ, ◌≡◌, Bool, true, false, List, [], ltb, Err, Ok}
use Rattle.rules.specs.Fact.{Fact, Within}
use Rattle.records.specs.Facts.{facts}
use Rattle.records.specs.Marked.{marked}
use Rattle.records.specs.declared.Refusal.TheVariants.{TooManyPieces}
use Rattle.outcomes.specs.Fresh.{fresh_call}
use Rattle.grids.specs.declared.rounds.Grids.{Grids}
use Rattle.grids.specs.Closed.{holds}
use Rattle.grids.specs.Answers.{claimed}

-- 16, behind the rows of the call that writes the index alone
abbrev pub sized : Bool → Outcome → Outcome
sized true o = refused_at TooManyPieces 0
sized false o = o

unfoldable pub by_size : Outcome → Outcome
by_size (Err r) = Err r
by_size (Ok n) = sized (ltb 64 n.pieces) (accepted_with n.pieces n.nodes n.shadows)

unfoldable pub grid_outcome : List ℕ → Outcome
grid_outcome s = by_size (fresh_call s [])

-- whether the bit of a claim is set: where it is about pieces of the book and follows from all facts, and nowhere for a refusal
unfoldable pub bit_for : List ℕ → Outcome → Fact → Bool
bit_for s (Ok n) f = claimed (marked s) n.pieces (facts s) f
bit_for s (Err r) f = false

-- no bit is set
abbrev pub Blank : Grids → Type 0
Blank g = (f : Fact) → Within 64 f → holds g f ≡ false

-- the outcome and every bit, from the book alone
pub record Gridded (s : List ℕ) (o : Outcome) (g : Grids) : Type 0 where
  pub outcome-is : o ≡ grid_outcome s
  pub bits : (f : Fact) → Within 64 f → holds g f ≡ bit_for s (grid_outcome s) f
