-- `runs::extend` meets its contract. Assumes nothing.
use mathlib.Core.Path.{refl}
use native.Mathlib.Omega.{arith}
use Rattle.working.specs.Standing.{standing, extended}
use Rattle.working.proofs.Sixes.{at_most, within, next-within}
use Rattle.working.proofs.Fresh.{extended-length}
use Rattle.working.proofs.Written.{stands}
use Rattle.working.proofs.runs.extend.Goals as goal

pub returns : goal.returns
unfolding extended standing
returns c =
    stands _ c.args.run.now _ _ c.put_runs.ensures (extended-length c.args.area.now c.args.addition.now c.args.records (within _ _ (at_most _ c.requires.0) c.requires.1.0) c.requires.1.1) (next-within _ 49152 c.requires.0 refl) (omega arith)
