-- `verdicts::clashes` meets its contract: the invariant is that no record passed is contradicted. Assumes nothing.
use native.Mathlib.Omega.{arith}
use borrow.Author.Rules.{rules}
use Prim.Native.Nat.{◌/◌}
use mathlib.Core.Path.{◌≡◌, sym, ap, ◌∙◌}
use lib.ListN.{length}
use Rattle.lists.specs.Any.{any_below}
use Rattle.records.specs.Record.{record_at}
use Rattle.closure.specs.Void.{void_of}
use Rattle.verdicts.specs.Opposed.{opposed}
use Rattle.verdicts.proofs.Answering.{clashing-none, clashing-more, clashing-found, clashing-asks, clashing}
use Rattle.verdicts.proofs.clashes.Goals as goal

pub loop-i-init : goal.loop-i-init
loop-i-init c = clashing-none _ _ _ _

pub opposes-requires : goal.opposes-requires
opposes-requires c =
    (search rules, search rules, search rules, clashing-asks _ c.requires.3 c.loop-i.i _ c.record_at.ensures (omega arith))

pub returns-then-opposes : goal.returns-then-opposes
returns-then-opposes c =
    clashing _ _ _ _ _ (clashing-found _ _ _ _ c.loop-i.i _ _ c.record_at.ensures c.opposes.ensures c.if-opposes.true (omega arith))

pub loop-i-preserved : goal.loop-i-preserved
loop-i-preserved c =
    clashing-more _ _ _ _ _ _ _ c.record_at.ensures c.opposes.ensures c.if-opposes.false c.loop-i.invariant

pub returns : goal.returns
returns c =
    let L = c.loop-i in
    let e : L.i ≡ length c.args.run.now / 6 = omega arith in
    clashing _ _ _ _ _ (sym (ap (any_below (λ j. opposed (void_of c.args.voids.now) c.args.d.now c.args.t.now (record_at c.args.run.now j))) (sym e) ∙ L.invariant))
