-- `chain_pages::write_clash` meets its contract. Assumes nothing.
use native.Mathlib.Omega.{arith}
use Rattle.chain_pages.proofs.Clashes.{clash-shown}
use Rattle.chain_pages.proofs.contradicted.write_clash.Goals as goal

pub returns : goal.returns
returns c = clash-shown c.write_clash.ensures (omega arith) (omega (arith, c.write_clash.auto.steps))
