-- `showing::rise` meets its contract: nothing, or the way and the joining step. Assumes nothing.
use native.Mathlib.Omega.{arith}
use Rattle.derivations.proofs.Commoning.{risen-some}
use Rattle.derivations.proofs.showing.rise.Goals as goal

pub put_step-requires : goal.put_step-requires
put_step-requires c =
    (omega (arith, c.requires.2, c.requires.4, c.write_part-top.ensures.edited.sized, c.write_part-top.ensures.few 2047 (omega arith) c.requires.8), omega (arith, c.requires.6, c.requires.7), omega (arith, c.requires.5, c.requires.7), omega (arith, c.requires.4, c.write_part-top.ensures.few 2047 (omega arith) c.requires.8), omega (arith, c.requires.4))

pub overflow_add-result : goal.overflow_add-result
overflow_add-result c = omega (arith, c.requires.4, c.write_part-top.ensures.few 2047 (omega arith) c.requires.8)

pub returns : goal.returns
returns c =
    risen-some c.requires.5 c.requires.6 c.requires.3 c.if-g-k.false c.requires.8 c.write_part-top.ensures c.put_step.ensures
