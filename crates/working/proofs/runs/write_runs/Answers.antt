-- `runs::write_runs` meets its contract. Assumes nothing.
use Rattle.working.proofs.RunsLaws.{runs-written}
use native.Mathlib.Omega.{arith}
use Rattle.std.proofs.lemmas.Grind.{common_steps}
use Rattle.working.proofs.runs.write_runs.Goals as goal

pub returns : goal.returns
returns c =
    runs-written c.args.first.now c.args.second.now c.args.out.now _ _ c.requires c.put_runs.ensures (grind (arith, common_steps))
