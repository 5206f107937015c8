-- `piecebook::texts::piecebook_read_text` meets its contract. Assumes nothing.
use native.Mathlib.Omega.{arith}
use Rattle.piecebook.proofs.Texting.{reads-records, reads-claims, reads-log, reads_none}
use Rattle.piecebook.proofs.texts.piecebook_read_text.Goals as goal

pub returns-in-0 : goal.returns-in-0
returns-in-0 c = reads-records _ c.in-0.is c.read_as.ensures

pub returns-in-1 : goal.returns-in-1
returns-in-1 c = reads-claims _ c.in-1.is c.read_as-in-1.ensures

pub returns-in-2 : goal.returns-in-2
returns-in-2 c = reads-log _ c.in-2.is c.read_as-in-2.ensures

pub returns-in_default : goal.returns-in_default
returns-in_default c = reads_none _ _ _ (omega arith) (omega arith) (omega arith)
