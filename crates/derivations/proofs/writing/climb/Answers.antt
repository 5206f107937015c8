-- `writing::climb` meets its contract: the loop keeps `Climbing`. Assumes nothing.
use mathlib.Core.Path.{sym, subst}
use native.Mathlib.Omega.{arith}
use Rattle.derivations.specs.Written.{Put}
use Rattle.derivations.proofs.Hopping.{hop-fits, fits-at}
use Rattle.derivations.proofs.Climbing.{climb-room, climb-next, climb-done}
use Rattle.derivations.proofs.writing.climb.Goals as goal

pub offset_bounds-hop-x : goal.offset_bounds-hop-x
offset_bounds-hop-x c = let r = climb-room c.loop-x.invariant.0 c.loop-x.invariant.1 c.loop-x-test.true in omega (arith, r.0)

pub bounds-hop-x : goal.bounds-hop-x
bounds-hop-x c =
    let r = climb-room c.loop-x.invariant.0 c.loop-x.invariant.1 c.loop-x-test.true in omega (arith, r.0, c.requires.0)

pub offset_bounds-source-x : goal.offset_bounds-source-x
offset_bounds-source-x c = let r = climb-room c.loop-x.invariant.0 c.loop-x.invariant.1 c.loop-x-test.true in omega (arith, r.0)

pub bounds-source-x : goal.bounds-source-x
bounds-source-x c =
    let r = climb-room c.loop-x.invariant.0 c.loop-x.invariant.1 c.loop-x-test.true in omega (arith, r.0, c.requires.1)

pub put_step-requires : goal.put_step-requires
put_step-requires c =
    let r = climb-room c.loop-x.invariant.0 c.loop-x.invariant.1 c.loop-x-test.true in let f = fits-at (sym c.hop_step.ensures) (hop-fits _ _ _ (omega (arith, r.0)) (omega (arith, c.type_inv.hop c.loop-x.x, c.from-y.ensures)) (omega (arith, c.type_inv.source c.loop-x.x, c.from-t.ensures))) in (omega (arith, c.loop-x.invariant.1.edited.sized, r.1, c.requires.2, c.requires.4), f.0, f.1, f.2, f.3)

pub overflow_add-i : goal.overflow_add-i
overflow_add-i c =
    let r = climb-room c.loop-x.invariant.0 c.loop-x.invariant.1 c.loop-x-test.true in omega (arith, r.1, c.requires.4)

pub put_step-requires-in-loop-x : goal.put_step-requires-in-loop-x
put_step-requires-in-loop-x c =
    let r = climb-room c.loop-x.invariant.0 c.loop-x.invariant.1 c.loop-x-test.true in (omega (arith, c.put_step.ensures.edited.sized, c.loop-x.invariant.1.edited.sized, r.1, c.requires.2, c.requires.4), omega (arith, c.requires.5), (omega (arith, c.type_inv.hop c.loop-x.x, c.from-y.ensures)), omega (arith, r.1, c.requires.4), omega (arith, r.1, c.requires.4))

pub overflow_add-i-in-loop-x : goal.overflow_add-i-in-loop-x
overflow_add-i-in-loop-x c =
    let r = climb-room c.loop-x.invariant.0 c.loop-x.invariant.1 c.loop-x-test.true in omega (arith, r.1, c.requires.4)

pub loop-x-smaller : goal.loop-x-smaller
loop-x-smaller c = let r = climb-room c.loop-x.invariant.0 c.loop-x.invariant.1 c.loop-x-test.true in omega (arith, r.1)

pub loop-x-preserved : goal.loop-x-preserved
loop-x-preserved c =
    let r = climb-room c.loop-x.invariant.0 c.loop-x.invariant.1 c.loop-x-test.true in (c.loop-x.invariant.0, climb-next c.loop-x.invariant.0 c.loop-x.invariant.1 c.loop-x-test.true (omega (arith, c.loop-x.invariant.1.more, c.requires.3)) _ _ c.from-y.ensures c.from-t.ensures (subst (Put _ _ _) c.hop_step.ensures c.put_step.ensures) c.put_step-in-loop-x.ensures)

pub returns : goal.returns
returns c = climb-done c.loop-x.invariant.0 c.loop-x.invariant.1 c.loop-x-test.false
