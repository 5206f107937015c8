-- `runs::put_runs` meets its contract. Assumes nothing.
use Rattle.working.proofs.RunsLaws.{runs-put}
use Rattle.working.proofs.runs.put_runs.Goals as goal

pub returns : goal.returns
returns c = runs-put c.args.first.now c.args.second.now c.args.out.now _ _ c.copy_to.ensures c.copy_to-2.ensures
