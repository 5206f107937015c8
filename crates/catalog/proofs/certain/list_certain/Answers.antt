-- `certain::list_certain` meets its contract: the invariant is that the pieces below x are listed. Assumes nothing.
use Prim.Native.Nat.{◌+◌}
use mathlib.Core.Path.{ap, sym, ◌∙◌}
use native.Mathlib.Omega.{arith}
use native.Mathlib.Numerals.{add-one}
use borrow.Author.Rules.{rules}
use Rattle.closure.specs.Void.{void_of}
use Rattle.lists.specs.Passing.{passing}
use Rattle.catalog.specs.Tells.{told}
use Rattle.lists.proofs.Passed.{passing-hit, passing-miss}
use Rattle.areas.proofs.Lists.{listed-none, listed_same, listed_more}
use Rattle.catalog.proofs.certain.list_certain.Goals as goal
use Rattle.catalog.proofs.certain.list_certain.Goals.{then-is_certain, else-is_certain}

pub loop-x-init : goal.loop-x-init
loop-x-init c = (search rules, listed-none _ _)

pub loop-x-preserved : goal.loop-x-preserved
loop-x-preserved c =
    let A = c.args in
    let L = c.loop-x in
    let p = told (void_of A.voids.now) A.d.now A.t.now A.m.now A.kind A.g in
    elim c.if-is_certain.branch [
      | then-is_certain w ↦
          let e = passing-hit p L.x (sym c.is_certain.ensures ∙ w.if-is_certain.true) in
          (omega arith, rw (w.list-is, w.count-is) (listed_more (L.x + 1) L.x (ap (passing p) (add-one L.x) ∙ e) (omega arith) L.invariant.1))
      | else-is_certain w ↦
          let e = passing-miss p L.x (sym c.is_certain.ensures ∙ w.if-is_certain.false) in
          (omega arith, rw (w.list-is, w.count-is) (listed_same (L.x + 1) (ap (passing p) (add-one L.x) ∙ e) L.invariant.1))
    ]
