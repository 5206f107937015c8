-- `chain_writing::write_whole` meets its contract. Assumes nothing.
use borrow.Author.Rules.{rules}
use native.Mathlib.Omega.{arith}
use mathlib.Core.Path.{sym}
use Rattle.records.proofs.Keeps.{picked_all}
use Rattle.records.proofs.Accepted.{accepted, accepted-pieces, kind-of, claim-ends}
use Rattle.contradiction.proofs.SettlingLaws.{settleable}
use Rattle.chain_writing.proofs.Replies.{by-marks, ground-of}
use Rattle.chain_writing.proofs.Singles.{single-follows, single-denied}
use Rattle.chain_writing.proofs.write_whole.Goals as goal

pub find_single-requires : goal.find_single-requires
find_single-requires c =
    let A = accepted _ _ c.requires.0 in let w = claim-ends c.args.claim c.requires.5 in (accepted-pieces A, w.0, w.1, A.few)

pub put_step-requires : goal.put_step-requires
put_step-requires c = omega (arith, c.requires.6)

pub returns-in-Some : goal.returns-in-Some
returns-in-Some c =
    single-follows _ _ _ _ c.requires.6 c.requires.0 c.requires.3 c.requires.4 c.requires.5 c.put_step.ensures c.in-Some.ensures

pub overflow_sub-opposite : goal.overflow_sub-opposite
overflow_sub-opposite c = let z = kind-of _ c.requires.4 in omega (arith, z.1)

pub find_single-requires-2 : goal.find_single-requires-2
find_single-requires-2 c =
    let A = accepted _ _ c.requires.0 in let w = claim-ends c.args.claim c.requires.5 in (accepted-pieces A, w.0, w.1, A.few)

pub put_step-requires-in-Some-find_single : goal.put_step-requires-in-Some-find_single
put_step-requires-in-Some-find_single c = omega (arith, c.requires.6)

pub returns-in-Some-find_single : goal.returns-in-Some-find_single
returns-in-Some-find_single c =
    single-denied _ _ _ _ c.requires.6 c.requires.0 c.requires.3 c.requires.4 c.requires.5 c.put_step-in-Some-find_single.ensures (by-marks _ _ _ c.requires.1 c.requires.2).is c.in-Some-find_single.ensures

pub edges-requires : goal.edges-requires
edges-requires c = ((settleable _ _ c.requires.0).bounded, search rules)

pub write_found-requires : goal.write_found-requires
write_found-requires c =
    (ground-of _ _ _ _ _ c.requires.0 c.requires.1 (sym (picked_all _ _ c.requires.3)) c.requires.2 c.edges.ensures, c.requires.4, c.requires.5, c.requires.6)

pub returns : goal.returns
returns c = c.write_found.ensures
