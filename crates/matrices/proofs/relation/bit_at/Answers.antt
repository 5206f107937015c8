use Rattle.matrices.specs.Matrix.{bit_of}
use Rattle.matrices.proofs.Laws.{and_one}
use Rattle.matrices.proofs.relation.bit_at.Goals as goal

pub returns : goal.returns
unfolding bit_of
returns c = and_one _ _
