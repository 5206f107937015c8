-- `containment::ends_by` meets its contract: as many places have their ends as ones were read. Assumes nothing.
use borrow.Author.Count.{below_none}
use mathlib.Core.Path.{refl, sym, ap, ◌∙◌}
use Prim.Native.Nat.{◌*◌, ◌<◌}
use native.Mathlib.Omega.{arith}
use lib.ListN.{length}
use Rattle.lists.specs.Tally.{num}
use Rattle.parentheses.specs.Bits.{bits}
use Rattle.parentheses.proofs.Ranks.{rank-zero, rank-le, rank-suc, rank-one}
use Rattle.parentheses.proofs.PackedLaws.{bits-length}
use Rattle.parentheses.proofs.Subtrees.{after-le}
use Rattle.containment.proofs.Ends.{ends_more, ended-more}
use Rattle.containment.proofs.ends_by.Goals as goal
use Rattle.containment.proofs.ends_by.Goals.{then-get, else-get}

pub loop-q-init : goal.loop-q-init
loop-q-init c = (omega arith, omega arith, refl, rank-zero _, below_none _)

pub overflow_cast-ends : goal.overflow_cast-ends
overflow_cast-ends c =
    let b = bits c.args.parens.now in
    omega (arith, c.end_of.ensures, after-le b c.loop-q.q, rank-le b (length b), bits-length c.args.parens.now, c.requires.1)

pub loop-q-preserved : goal.loop-q-preserved
loop-q-preserved c =
    let L = c.loop-q in
    let J = c.if-get in
    let more : c.loop-q.p < 8 * length c.args.parens.now = ends_more (bits c.args.parens.now) L.p L.q (8 * length c.args.parens.now) L.invariant.3 (omega (arith, c.requires.2, c.loop-q-test.true)) L.invariant.1 in (
      elim J.branch [ then-get w ↦ omega arith | else-get w ↦ omega arith ],
      omega (arith, more),
      J.auto.ends ∙ L.invariant.2,
      elim J.branch [
        | then-get w ↦ omega (arith, rank-one (bits c.args.parens.now) L.p (sym c.get.ensures ∙ w.if-get.true), L.invariant.3)
        | else-get w ↦ omega (arith, rank-suc (bits c.args.parens.now) L.p, L.invariant.3, ap num (sym c.get.ensures ∙ w.if-get.false))
      ],
      elim J.branch [
        | then-get w ↦ rw (w.ends-is, w.q-is) (ended-more (bits c.args.parens.now) L.ends L.q _ (omega (arith, L.auto.ends, c.requires.0, c.loop-q-test.true)) w.end_of.ensures L.invariant.4)
        | else-get w ↦ rw (w.ends-is, w.q-is) L.invariant.4
      ],
    )
