-- `compare::lay_together` meets its contract. Assumes nothing.
use Prim.Native.Nat.{ℕ}
use mathlib.Core.Path.{sym, ap, subst, ◌∙◌}
use mathlib.Core.Bool.{not}
use mathlib.Core.List.{List}
use lib.Seq.{length-take-le}
use Rattle.rules.specs.Follows.{clash}
use Rattle.records.specs.Facts.{facts}
use Rattle.records.specs.Marked.{marked}
use Rattle.compare.specs.Judging.{Judgeable}
use Rattle.compare.proofs.lay_together.Goals as goal

pub slice_bounds-run-end : goal.slice_bounds-run-end
slice_bounds-run-end c = c.join-end.ensures.fits

pub slice_bounds-are_consistent-end : goal.slice_bounds-are_consistent-end
slice_bounds-are_consistent-end c = sym (length-take-le _ _ c.join-end.ensures.fits)

pub are_consistent-requires : goal.are_consistent-requires
are_consistent-requires c =
    let P = c.requires in
    subst (λ (x : List ℕ). Judgeable x c.args.n) (sym (c.join-end.ensures.front.are P.1 P.2)) P.0

pub returns : goal.returns
returns c =
    let P = c.requires in
    c.are_consistent.ensures ∙ ap (λ (x : List ℕ). not (clash (marked x) c.args.n (facts x))) (c.join-end.ensures.front.are P.1 P.2)
