-- `piecebook::chain_calls::piecebook_clash_with` meets its contract. Assumes nothing.
use Rattle.piecebook.proofs.Clashing.{clashed-all}
use Rattle.piecebook.proofs.chain_calls.piecebook_clash_with.Goals as goal

pub returns : goal.returns
returns c = clashed-all _ _ _ _ _ c.write_clash-written.ensures c.clashed.ensures
