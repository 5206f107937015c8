-- `clash::write_behind` meets its contract. Assumes nothing.
use mathlib.Core.Path.{sym}
use native.Mathlib.Omega.{arith}
use lib.Seq.{length-take-le}
use Rattle.clash.proofs.Places.{room, short}
use Rattle.clash.proofs.Inner.{claim-kind, run-bounded, run-ground, run-behind}
use borrow.Author.Rules.{rules}
use Rattle.clash.proofs.write_behind.Goals as goal

pub silence-requires : goal.silence-requires
silence-requires c = omega (arith, short c.requires.0.clashes)

pub slice_bounds-copy-end : goal.slice_bounds-copy-end
slice_bounds-copy-end c = omega (arith, short c.requires.0.clashes)

pub slice_bounds-run-end : goal.slice_bounds-run-end
slice_bounds-run-end c = sym (length-take-le _ _ (omega (arith, short c.requires.0.clashes)))

pub settle_run-requires : goal.settle_run-requires
settle_run-requires c = (run-bounded c.requires.0.clashes c.requires.0.count c.silence.ensures, c.requires.0.void.0)

pub edges-requires : goal.edges-requires
edges-requires c = (run-bounded c.requires.0.clashes c.requires.0.count c.silence.ensures, search rules)

pub claim_at-claim-requires : goal.claim_at-claim-requires
claim_at-claim-requires c = room c.requires.0.clashes

pub overflow_sub-opposite : goal.overflow_sub-opposite
overflow_sub-opposite c = omega (arith, claim-kind c.requires.0.clashes c.requires.0.count c.silence.ensures c.claim_at-claim.ensures)

pub chain_for-requires : goal.chain_for-requires
chain_for-requires c =
    let G = run-ground c.requires.0.clashes c.requires.0.count c.silence.ensures c.claim_at-claim.ensures c.requires.0.void c.settle_run.result c.settle_run.ensures c.edges.ensures in (G.0, G.1, G.2, c.requires.1)

pub returns : goal.returns
returns c =
    run-behind c.requires.0.clashes c.requires.0.count c.silence.ensures c.claim_at-claim.ensures c.requires.1 c.chain_for.ensures
