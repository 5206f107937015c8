-- `groups::number_groups` meets its contract. Assumes nothing.
use mathlib.Core.Path.{◌≡◌, sym, ap, ◌∙◌}
use Prim.Native.Nat.{ℕ}
use native.Mathlib.Omega.{arith}
use lib.ListN.{length, get_or}
use Rattle.groups.proofs.Ranking.{rank-none, rank-new, rank-old, old-head}
use Rattle.groups.proofs.number_groups.Goals as goal
use Rattle.groups.proofs.number_groups.Goals.{then-t-eq-NONE, else-t-eq-NONE}

pub loop-g-init : goal.loop-g-init
loop-g-init c =
    ((c.requires.few, omega arith, omega arith, c.requires.numbers, c.requires.leads, c.fill.ensures.len ∙ c.requires.heads), rank-none c.args.n (λ x. get_or c.args.done.now x 0) _ _ _ (length c.args.heads.now) (omega (arith, c.requires.few, c.requires.heads)) (c.fill.ensures.after (λ y e. e)))

pub bounds-number-from : goal.bounds-number-from
bounds-number-from c =
    let L = c.loop-g in
    let l = c.loop-g-test.true in
    let f : get_or L.heads c.from-f.result 0 ≡ get_or L.heads (get_or c.args.done.now L.g 0) 0 = ap (λ (j : ℕ). get_or L.heads j 0) c.from-f.ensures in
    omega (arith, f, c.from.ensures, (old-head c.args.n (λ x. get_or c.args.done.now x 0) L.number L.lead L.heads L.k L.g L.invariant.1 l c.requires.few (c.requires.small L.g l) (omega (arith, L.invariant.0)) (omega (arith, L.invariant.0)) (omega (arith, L.invariant.0)) (λ q. c.if-t-eq-NONE.false (f ∙ q))).1, L.invariant.0)

pub loop-g-preserved : goal.loop-g-preserved
loop-g-preserved c =
    let L = c.loop-g in
    let J = c.if-t-eq-NONE in
    let l = c.loop-g-test.true in
    let f : get_or L.heads c.from-f.result 0 ≡ get_or L.heads (get_or c.args.done.now L.g 0) 0 = ap (λ (j : ℕ). get_or L.heads j 0) c.from-f.ensures in (
      (c.requires.few, omega arith, elim J.branch [ then-t-eq-NONE w ↦ omega arith | else-t-eq-NONE w ↦ omega arith ], J.auto.number ∙ L.invariant.0.3, J.auto.lead ∙ L.invariant.0.4, J.auto.heads ∙ L.invariant.0.5),
      elim J.branch [
        | then-t-eq-NONE w ↦ rw (w.number-is, w.lead-is, w.heads-is, w.k-is, c.from-f.ensures)
            (rank-new c.args.n (λ x. get_or c.args.done.now x 0) L.number L.lead L.heads L.k L.g L.invariant.1 l c.requires.few (c.requires.small L.g l) (omega (arith, L.invariant.0)) (omega (arith, L.invariant.0)) (omega (arith, L.invariant.0)) (sym f ∙ w.if-t-eq-NONE.true))
        | else-t-eq-NONE w ↦ rw (w.number-is, w.lead-is, w.heads-is, w.k-is, w.from.ensures)
            (rank-old c.args.n (λ x. get_or c.args.done.now x 0) L.number L.lead L.heads L.k L.g L.invariant.1 l c.requires.few (c.requires.small L.g l) (omega (arith, L.invariant.0)) (omega (arith, L.invariant.0)) (omega (arith, L.invariant.0)) _ f w.if-t-eq-NONE.false)
      ],
    )
