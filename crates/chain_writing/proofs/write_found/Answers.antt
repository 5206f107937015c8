-- `chain_writing::write_found` meets its contract. Assumes nothing.
use Rattle.chain_writing.proofs.Replies.{says-follows, says-denied, says-open}
use Rattle.records.proofs.Accepted.{kind-of, claim-ends}
use native.Mathlib.Omega.{arith}
use Rattle.chain_writing.proofs.write_found.Goals as goal

pub chain_for-m-requires : goal.chain_for-m-requires
chain_for-m-requires c = let w = claim-ends c.args.claim c.requires.2 in (c.requires.0, w.0, w.1, c.requires.3)

pub returns-then-m-gt0 : goal.returns-then-m-gt0
returns-then-m-gt0 c = says-follows _ _ _ _ c.requires.3 c.if-m-gt0.true c.chain_for-m.ensures

pub overflow_sub-opposite : goal.overflow_sub-opposite
overflow_sub-opposite c = let z = kind-of c.args.claim c.requires.1 in omega (arith, z.1)

pub chain_for-k-requires : goal.chain_for-k-requires
chain_for-k-requires c =
    let w = claim-ends c.args.claim c.requires.2 in (c.requires.0, w.0, w.1, omega (arith, c.requires.3, c.chain_for-m.auto))

pub returns-then-k-gt0 : goal.returns-then-k-gt0
returns-then-k-gt0 c =
    says-denied _ _ _ _ c.requires.3 c.requires.1 (omega arith) c.chain_for-m.ensures c.if-k-gt0.true c.chain_for-k.ensures

pub returns : goal.returns
returns c =
    says-open _ _ _ _ c.requires.3 c.requires.1 (omega arith) c.chain_for-m.ensures (omega arith) c.chain_for-k.ensures
