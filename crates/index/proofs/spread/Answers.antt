-- `index::spread` meets its contract: the parts of c below `p` are met, and `p` is the next one.
-- Assumes nothing.
use Prim.Native.Nat.{◌+◌}
use native.Mathlib.Omega.{arith}
use Rattle.lists.proofs.Bounds.{inside, nearer, next-in}
use Rattle.index.proofs.Fits.{low_small, fits_one, fits-twice}
use Rattle.index.proofs.Nexts.{next-part}
use Rattle.index.specs.Matrix.{pair_of}
use Rattle.index.proofs.Queue.{Spreading, spread-start, spread-next, spread-take, spread-room, spread-met, spread-done}
use Rattle.index.proofs.spread.Goals as goal
use Rattle.index.proofs.spread.Goals.{then-parent-p-eq-NONE, else-parent-p-eq-NONE}

pub loop-p-init : goal.loop-p-init
loop-p-init c =
    let N = next-part _ _ _ 0 _ c.requires.2 c.requires.1 (omega arith) c.next_bit-p.ensures in
    (N.upto, spread-next _ _ _ _ _ _ 0 _ _ _ _ (spread-start _ _ c.args.c c.args.parent.now c.args.order.now c.args.tail) N, N.hit)

pub offset_bounds-order-end : goal.offset_bounds-order-end
offset_bounds-order-end c =
    let L = c.loop-p in
    fits-twice _ (low_small _ (spread-room _ _ _ _ _ _ L.parent L.order L.end L.p L.invariant.1 c.loop-p-test.true c.if-parent-p-eq-NONE.true (L.invariant.2 c.loop-p-test.true) c.requires.1 c.requires.3 c.requires.4 c.requires.5))

pub bounds-order-end : goal.bounds-order-end
bounds-order-end c =
    let L = c.loop-p in
    omega (arith, spread-room _ _ _ _ _ _ L.parent L.order L.end L.p L.invariant.1 c.loop-p-test.true c.if-parent-p-eq-NONE.true (L.invariant.2 c.loop-p-test.true) c.requires.1 c.requires.3 c.requires.4 c.requires.5, L.invariant.1.ord_length, c.requires.4)

pub overflow_add-end : goal.overflow_add-end
overflow_add-end c =
    let L = c.loop-p in
    fits_one _ (low_small _ (spread-room _ _ _ _ _ _ L.parent L.order L.end L.p L.invariant.1 c.loop-p-test.true c.if-parent-p-eq-NONE.true (L.invariant.2 c.loop-p-test.true) c.requires.1 c.requires.3 c.requires.4 c.requires.5))

pub loop-p-smaller : goal.loop-p-smaller
loop-p-smaller c =
    let L = c.loop-p in
    let N = next-part _ _ _ (L.p + 1) _ c.requires.2 c.requires.1 (next-in _ _ _ c.loop-p-test.true c.requires.1) c.next_bit-p-in-loop-p.ensures in
    nearer _ _ _ (inside _ _ _ c.loop-p-test.true c.requires.1) N.from

pub loop-p-preserved : goal.loop-p-preserved
loop-p-preserved c =
    let L = c.loop-p in
    let J = c.if-parent-p-eq-NONE in
    let N = next-part _ _ _ (L.p + 1) _ c.requires.2 c.requires.1 (next-in _ _ _ c.loop-p-test.true c.requires.1) c.next_bit-p-in-loop-p.ensures in
    let S : Spreading c.args.n (pair_of c.args.n c.args.edges.now) c.args.c c.args.parent.now c.args.order.now c.args.tail J.parent J.order J.end (L.p + 1) = elim J.branch [
      | then-parent-p-eq-NONE w ↦ rw (w.parent-is, w.order-is, w.end-is) (spread-take _ _ _ _ _ _ L.parent L.order L.end L.p L.invariant.1 c.loop-p-test.true w.if-parent-p-eq-NONE.true (L.invariant.2 c.loop-p-test.true) c.requires.1 c.requires.3 c.requires.4 c.requires.5)
      | else-parent-p-eq-NONE w ↦ rw (w.parent-is, w.order-is, w.end-is) (spread-met _ _ _ _ _ _ L.p L.parent L.order L.end L.invariant.1 w.if-parent-p-eq-NONE.false)
    ] in
    (N.upto, spread-next _ _ _ _ _ _ (L.p + 1) _ _ _ _ S N, N.hit)

pub returns : goal.returns
returns c =
    let L = c.loop-p in
    spread-done _ _ _ _ _ _ L.parent L.order L.end L.p L.invariant.1 c.loop-p-test.false (inside _ _ _ c.requires.2 c.requires.1)
