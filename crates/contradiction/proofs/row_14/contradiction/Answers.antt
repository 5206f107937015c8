-- `row_14::contradiction` meets its contract: the invariant is `Halving`. Assumes nothing.
use native.Mathlib.Omega.{arith}
use Prim.Native.Nat.{◌+◌, ◌*◌, ◌/◌, ◌≤◌}
use lib.ListN.{length}
use Rattle.contradiction.proofs.Halving.{run-bounded, halving-start, halving-high, halving-low, halving-done}
use Rattle.contradiction.proofs.row_14.contradiction.Goals as goal

pub loop-low-init : goal.loop-low-init
loop-low-init c = halving-start _ _ _ c.requires.0 c.requires.1.whole c.requires.2

pub contradicts-requires : goal.contradicts-requires
contradicts-requires c =
    let L = c.loop-low in
    let s = c.args.book.now in
    let mid = (L.low + L.high) / 2 in
    let up = L.invariant.upto in
    let fits : 6 * mid ≤ length s = omega arith in
    (run-bounded s mid fits c.requires.0, c.requires.1)

pub loop-low-preserved-then-contradicts : goal.loop-low-preserved-then-contradicts
loop-low-preserved-then-contradicts c =
    let L = c.loop-low in
    let mid = (L.low + L.high) / 2 in
    halving-high _ _ _ L.low L.high mid L.invariant _ c.contradicts.ensures (omega arith) (omega arith) c.if-contradicts.true

pub loop-low-preserved : goal.loop-low-preserved
loop-low-preserved c =
    let L = c.loop-low in
    let mid = (L.low + L.high) / 2 in
    halving-low _ _ _ L.low L.high mid L.invariant _ c.contradicts.ensures (omega arith) (omega arith) c.if-contradicts.false

pub returns : goal.returns
returns c =
    let L = c.loop-low in
    halving-done _ _ _ L.low L.high c.requires.0 c.requires.1.whole (omega arith) L.invariant
