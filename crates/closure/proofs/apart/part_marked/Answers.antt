-- `closure::apart::part_marked` meets its contract: the invariant is the marks of the pieces passed. Assumes nothing.
use mathlib.Core.Path.{ap}
use mathlib.Core.Bool.{Bool, ◌&&◌}
use lib.Dec.{eqb}
use Rattle.closure.specs.Void.{void_of}
use Rattle.closure.proofs.Grows.{grown-same, grown-two}
use Rattle.closure.proofs.Aparts.{marked_more}
use borrow.Author.Rules.{rules}
use Rattle.closure.proofs.apart.part_marked.Goals as goal

pub loop-i-preserved : goal.loop-i-preserved
unfolding void_of
loop-i-preserved c =
    let L = c.loop-i in
    let void = void_of c.args.voids.now in
    let on = c.has-on.ensures in (
      search rules,
      search rules,
      grown-same (marked_more void L.i)
          (grown-two
          (grown-two L.invariant.2 (grown-same (λ x y. ap (λ (v : Bool). v && (eqb 0 x && eqb L.i y)) on) c.insert_where.ensures))
          (grown-same (λ x y. ap (λ (v : Bool). v && (eqb L.i x && eqb 0 y)) on) c.insert_where-in-loop-i.ensures)),
    )
