-- `chain_pages::write_chain` meets its contract. Assumes nothing.
use native.Mathlib.Omega.{arith}
use Rattle.chain_pages.proofs.Chains.{chain-shown}
use Rattle.chain_pages.proofs.why.write_chain.Goals as goal

pub returns : goal.returns
returns c = chain-shown c.write_chain.ensures (omega arith) (omega (arith, c.write_chain.auto.steps))
