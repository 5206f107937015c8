use borrow.Author.Rules.{rules}
use native.Mathlib.Omega.{arith}
use mathlib.Core.Path.{◌≡◌, ◌∙◌}
use Prim.Native.Nat.{◌<◌}
use Rattle.containment.proofs.Rows.{leader-leads, filled_more}
use Rattle.containment.proofs.within.fill_all.Goals as goal

pub fill-requires : goal.fill-requires
fill-requires c =
    let L = c.loop-g in
    let R = c.requires.1 in
    let s = R.setting in
    let b : L.g < s.n = omega (arith, R.count) in
    let T = L.invariant.2 s R.count R.leads R.from in
    let h = leader-leads s L.g _ b (c.leader_of-h.ensures ∙ R.leads.1 L.g b) in
    (omega arith, record { setting = s; below = h.0; leads = h.1; from = λ r a d. T.from r d })

pub loop-g-preserved : goal.loop-g-preserved
loop-g-preserved c =
    let L = c.loop-g in (
      search rules,
      search rules,
      λ s e M F.
          let T = L.invariant.2 s e M F in
          let b : L.g < s.n = omega arith in
          let is = c.leader_of-h.ensures ∙ M.1 L.g b in
          let h = leader-leads s L.g _ b is in
          filled_more s _ _ _ _ is b T (c.fill.ensures s (λ r a d. T.from r d) h.0 h.1),
    )

pub returns : goal.returns
returns c =
    λ s e L F.
    let k : c.loop-g.g ≡ c.args.n = omega arith in
    rw k at (c.loop-g.invariant.2 s e L F)
