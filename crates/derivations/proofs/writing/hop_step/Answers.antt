-- `writing::hop_step` meets its contract: its test computes on each way out. Assumes nothing.
use borrow.Author.Tests.{eq-eqb, ne_eqb}
use Rattle.derivations.specs.Hops.{hop_step}
use Rattle.derivations.proofs.writing.hop_step.Goals as goal

pub returns-then-source-eq-NO_RECORD : goal.returns-then-source-eq-NO_RECORD
unfolding hop_step
returns-then-source-eq-NO_RECORD c = rw (eq-eqb _ _ c.if-source-eq-NO_RECORD.true)

pub returns : goal.returns
unfolding hop_step
returns c = rw (ne_eqb _ _ c.if-source-eq-NO_RECORD.false)
