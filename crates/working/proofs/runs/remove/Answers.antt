-- `runs::remove` meets its contract. Assumes nothing.
use mathlib.Core.Path.{refl, ap, ◌∙◌}
use native.Mathlib.Omega.{arith}
use Rattle.lists.specs.Front.{front}
use Rattle.working.specs.Standing.{standing, without}
use Rattle.working.proofs.Sixes.{within, less-within, six-behind}
use Rattle.working.proofs.Fresh.{without-length}
use Rattle.working.proofs.RunsLaws.{gap_is}
use Rattle.working.proofs.Written.{stands}
use Rattle.working.proofs.runs.remove.Goals as goal

pub returns : goal.returns
unfolding without standing
returns c =
    let inside = within _ _ c.requires.1.0 c.requires.1.1 in
    stands _ c.args.run.now _ _ (c.put_runs.ensures ∙ ap (λ x. front x c.args.run.now) (gap_is c.args.area.now _ _ (six-behind _ _ c.requires.0) inside)) (without-length c.args.area.now c.args.records c.args.number inside c.requires.0) (less-within _ 49152 c.requires.1.0 refl) (omega arith)
