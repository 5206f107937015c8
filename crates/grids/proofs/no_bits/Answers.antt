use mathlib.Core.Path.{refl}
use Rattle.grids.proofs.Griddings.{no_bits}
use Rattle.grids.proofs.no_bits.Goals as goal

pub returns : goal.returns
returns c = no_bits _ refl refl refl refl
