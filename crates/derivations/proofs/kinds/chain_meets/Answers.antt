-- `derivations::kinds::chain_meets` meets its contract. Assumes nothing.
use Rattle.derivations.proofs.Grounds.{setting, telling}
use Rattle.derivations.proofs.Chaining.{meets-chained}
use native.Mathlib.Omega.{arith}
use Rattle.derivations.proofs.kinds.chain_meets.Goals as goal

pub show_meeting-requires : goal.show_meeting-requires
show_meeting-requires c =
    let w = c.in-Some.ensures in (setting c.requires.0, telling c.requires.0, w.grounded, w.shown, w.unmarked, w.left, w.right, c.requires.1, c.requires.2, w.first, w.second, c.requires.3, omega arith)

pub returns : goal.returns
returns c = meets-chained c.requires.0 c.requires.1 c.requires.2 c.in-Some.ensures c.show_meeting.ensures
