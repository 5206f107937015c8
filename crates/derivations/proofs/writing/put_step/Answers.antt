-- `writing::put_step` meets its contract: what is written reads back. Assumes nothing.
use Rattle.derivations.proofs.Puts.{step-put}
use Rattle.derivations.proofs.writing.put_step.Goals as goal

pub returns : goal.returns
returns c = let P = c.requires in step-put _ _ _ _ P.0 c.put_step.ensures P.1 P.2 P.3 P.4
