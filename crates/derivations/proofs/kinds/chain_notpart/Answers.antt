-- `derivations::kinds::chain_notpart` meets its contract. Assumes nothing.
use Rattle.derivations.proofs.Grounds.{setting, marks-out, marks-silent, notpart-none}
use Rattle.derivations.proofs.Chaining.{chained-none, notpart-routed, notpart-chained}
use native.Mathlib.Omega.{arith}
use Rattle.derivations.proofs.kinds.chain_notpart.Goals as goal

pub chain_outside_void-requires : goal.chain_outside_void-requires
chain_outside_void-requires c =
    let m = marks-out c.requires.0 _ _ _ c.marks_tell.ensures c.if-marks_tell.true in (c.requires.0, c.requires.1, c.requires.2, m.0, m.1, c.requires.3)

pub show_fact-requires : goal.show_fact-requires
show_fact-requires c =
    let w = c.in-Some.ensures in (setting c.requires.0, w.grounded, w.shown, notpart-routed c.requires.0 c.requires.1 c.requires.2 w, c.requires.3, omega arith)

pub returns-in-Some : goal.returns-in-Some
returns-in-Some c = notpart-chained c.requires.0 c.requires.1 c.requires.2 c.in-Some.ensures c.show_fact.ensures

pub returns-in_default-find_witness : goal.returns-in_default-find_witness
returns-in_default-find_witness c =
    chained-none c.requires.0 (notpart-none c.requires.0 c.requires.1 c.requires.2 (marks-silent c.requires.0 _ _ _ c.marks_tell.ensures c.if-marks_tell.false) c.in_default.ensures c.in_default-find_witness.ensures)
