-- `derivations::kinds::chain_outside` meets its contract. Assumes nothing.
use mathlib.Core.Path.{sym, ◌∙◌}
use mathlib.Core.Bool.{false≢true}
use Rattle.derivations.proofs.Grounds.{setting, telling}
use Rattle.derivations.proofs.Chaining.{outside-parts, outside-chained}
use Rattle.derivations.proofs.kinds.chain_outside.Goals as goal

pub returns-in_default : goal.returns-in_default
returns-in_default c = absurd (false≢true (sym c.in_default.ensures ∙ (outside-parts c.requires.0 c.requires.1 c.requires.2 c.requires.3).1))

pub show_outside-requires : goal.show_outside-requires
show_outside-requires c =
    let u = c.requires.3 in let w = c.in-Some.ensures in (setting c.requires.0, u.grounded, u.shown, w.grounded, w.shown, telling c.requires.0, w.unmarked, u.left, u.right, w.left, w.right, c.requires.1, c.requires.2, (outside-parts c.requires.0 c.requires.1 c.requires.2 u).0, w.first, w.second, c.requires.4)

pub returns : goal.returns
returns c = outside-chained c.requires.0 c.requires.1 c.requires.2 c.requires.3 c.in-Some.ensures c.show_outside.ensures
