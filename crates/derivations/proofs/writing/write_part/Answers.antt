-- `writing::write_part` meets its contract: a step of its own where there is no hop, else the first hop and the way up from there. Assumes nothing.
use mathlib.Core.Path.{sym, subst}
use native.Mathlib.Omega.{arith}
use Rattle.derivations.specs.Written.{Put}
use Rattle.derivations.proofs.Hopping.{hop-fits, fits-at}
use Rattle.derivations.proofs.Climbing.{reaches-next, first-shown, contained-itself, contained-above}
use Rattle.derivations.proofs.writing.write_part.Goals as goal

pub returns-then-g-k : goal.returns-then-g-k
returns-then-g-k c = contained-itself c.if-g-k.true c.put_step.ensures

pub put_step-requires-2 : goal.put_step-requires-2
put_step-requires-2 c =
    let f = fits-at (sym c.hop_step.ensures) (hop-fits _ _ _ (omega (arith, c.requires.4)) (omega (arith, c.type_inv.hop c.args.g, c.from-y.ensures)) (omega (arith, c.type_inv.source c.args.g, c.from-t.ensures))) in (omega (arith, c.requires.2, c.requires.3), f.0, f.1, f.2, f.3)

pub climb-requires : goal.climb-requires
climb-requires c =
    (c.requires.0, c.requires.1, omega (arith, c.put_step-2.ensures.edited.sized, c.requires.2), omega arith, omega (arith, c.requires.3), c.requires.4, reaches-next _ c.requires.5 c.if-g-k.false c.from-y.ensures, first-shown _ _ _ c.put_step-2.ensures c.hop_step.ensures)

pub returns : goal.returns
returns c =
    contained-above c.if-g-k.false c.requires.5 _ _ c.from-y.ensures c.from-t.ensures (subst (Put _ _ _) c.hop_step.ensures c.put_step-2.ensures) c.climb.ensures
