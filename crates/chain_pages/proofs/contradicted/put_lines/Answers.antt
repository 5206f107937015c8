-- `contradicted::put_lines` meets its contract. Assumes nothing.
use Rattle.chain_pages.proofs.contradicted.put_lines.Goals as goal

pub returns : goal.returns
returns c = record { put = c.put_steps.ensures; bytes = λ j. (c.shared_slice_known-1.given j).fits }
