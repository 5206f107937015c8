use native.Mathlib.Omega.{arith}
use Prim.Native.Nat.{◌+◌}
use Rattle.matrices.specs.Matrix.{bit_of}
use Rattle.lists.proofs.Searches.{Sought, sought-next}
use Rattle.matrices.proofs.Products.{gather_none, gather-more, gather-done}
use Rattle.matrices.proofs.joins.gather.Goals as goal

pub loop-x-init : goal.loop-x-init
loop-x-init c = (0, sought-next _ 0 2048 _ (omega arith) c.next_bit-x.ensures, gather_none _ _ _ _)

pub loop-x-smaller : goal.loop-x-smaller
loop-x-smaller c =
    let next : Sought (bit_of c.args.a.now c.args.r) (c.loop-x.x + 1) 2048 c.next_bit-x-in-loop-x.result = sought-next _ _ 2048 _ (omega arith) c.next_bit-x-in-loop-x.ensures in
    omega (arith, next.from)

pub loop-x-preserved : goal.loop-x-preserved
loop-x-preserved c =
    let L = c.loop-x in
    let seek = L.invariant.1 in
    let next : Sought (bit_of c.args.a.now c.args.r) (c.loop-x.x + 1) 2048 c.next_bit-x-in-loop-x.result = sought-next _ _ 2048 _ (omega arith) c.next_bit-x-in-loop-x.ensures in
    (L.x + 1, next, gather-more _ _ _ _ _ seek _ _ _ (omega arith) L.invariant.2 c.union_row.ensures)

pub returns : goal.returns
returns c = let I = c.loop-x.invariant in gather-done _ _ _ _ _ I.1 _ _ (omega arith) I.2
