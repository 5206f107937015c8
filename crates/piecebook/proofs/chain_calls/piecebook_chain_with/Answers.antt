-- `piecebook::chain_calls::piecebook_chain_with` meets its contract. Assumes nothing.
use Rattle.piecebook.proofs.Chaining.{chained-all}
use Rattle.piecebook.proofs.chain_calls.piecebook_chain_with.Goals as goal

pub shape_of-steps : goal.shape_of-steps
shape_of-steps c = c.write_chain-written.auto.steps

pub returns : goal.returns
returns c = chained-all _ _ _ _ _ _ c.write_chain-written.ensures c.chained.ensures
