-- `pages::put` meets its contract: the loop keeps that the bytes passed are put. Assumes nothing.
use Rattle.pages.proofs.Puts.{nothing, more, whole}
use Rattle.pages.proofs.put.Goals as goal

pub loop-byte-init : goal.loop-byte-init
loop-byte-init c = nothing

pub loop-byte-preserved : goal.loop-byte-preserved
loop-byte-preserved c = more _ _ c.loop-byte-test.true c.loop-byte.invariant c.put_byte-end.ensures

pub returns : goal.returns
returns c = whole _ _ c.loop-byte-test.false c.loop-byte.invariant
