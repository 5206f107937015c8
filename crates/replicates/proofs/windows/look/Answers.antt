use mathlib.Core.Path.{◌≡◌, refl}
use native.Mathlib.Omega.{arith}
use Rattle.replicates.proofs.Looks.{look_none, look-more, look-all}
use Rattle.replicates.proofs.windows.look.Goals as goal

pub loop-j-init : goal.loop-j-init
loop-j-init c =
    let e = c.oldest_of-oldest.ensures in
    (omega (arith, e), rw e (look_none _ _ _ (omega arith)))

pub loop-j-preserved : goal.loop-j-preserved
loop-j-preserved c =
    (omega arith, rw c.see-seen.ensures (look-more _ _ _ c.loop-j.invariant.1 c.loop-j.invariant.0 _ _ refl refl (rw (c.from.ensures, c.from-piece.ensures) at c.test.ensures)))

pub returns : goal.returns
returns c =
    let e : c.loop-j.j ≡ c.args.q = omega arith in
    look-all _ _ _ _ (rw e at c.loop-j.invariant.1)
