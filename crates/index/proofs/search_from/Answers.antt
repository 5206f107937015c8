-- `index::search_from` meets its contract: the rounds of the search, one for each piece of the queue.
-- Assumes nothing.
use mathlib.Core.Path.{◌∙◌}
use native.Mathlib.Omega.{arith}
use lib.ListN.{length-set}
use Rattle.index.proofs.Rounds.{round-start, round-next, head-met}
use Rattle.index.proofs.search_from.Goals as goal

pub loop-head-init : goal.loop-head-init
loop-head-init c =
    let R = round-start _ _ _ c.args.parent.now c.args.order.now c.requires.2 (omega (arith, c.requires.1, c.requires.3)) (omega (arith, c.requires.1, c.requires.4)) c.requires.5 c.requires.1 in
    (length-set c.args.parent.now _ _ ∙ c.requires.3, length-set c.args.order.now _ _ ∙ c.requires.4, R)

pub spread-tail-requires : goal.spread-tail-requires
spread-tail-requires c =
    let L = c.loop-head in
    (c.requires.0, c.requires.1, rw c.from-c.ensures (head-met _ _ _ L.parent L.order L.head L.tail L.invariant.2 c.loop-head-test.true).0, L.invariant.0, L.invariant.1, omega (arith, L.invariant.2.count, c.requires.1))

pub loop-head-preserved : goal.loop-head-preserved
loop-head-preserved c =
    let L = c.loop-head in
    let S = rw c.from-c.ensures at c.spread-tail.ensures in
    (S.par_length ∙ L.invariant.0, S.ord_length ∙ L.invariant.1, round-next _ _ _ L.parent L.order L.head L.tail L.invariant.2 c.loop-head-test.true _ _ _ S c.requires.2)
