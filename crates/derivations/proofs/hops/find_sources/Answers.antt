-- `hops::find_sources` meets its contract: the loop keeps the sources among the records passed. Assumes nothing.
use Prim.Native.Nat.{ℕ}
use mathlib.Core.Path.{subst, sym, ap, ◌∙◌}
use mathlib.Core.Bool.{false≢true}
use native.Mathlib.Omega.{arith}
use lib.ListN.{get_or}
use Rattle.derivations.specs.Sources.{Says}
use Rattle.derivations.proofs.Sourcing.{part-said, says-part, said-ends, part_small, sources-skip, sources-store}
use Rattle.derivations.proofs.hops.find_sources.Goals as goal
use Rattle.derivations.proofs.hops.find_sources.Goals.{then-r-eq-PART+then-lets+then-from-r, else-r-eq-PART, else-r-eq-PART-via-then-r-eq-PART+then-lets+else-from-r, else-r-eq-PART-via-then-r-eq-PART+else-lets, else-r-eq-PART-via-else-r-eq-PART}
use mathlib.Core.Path.{refl}

pub offset_bounds-hop-r : goal.offset_bounds-hop-r
offset_bounds-hop-r c = omega (arith, part_small _ _ _ c.loop-i-test.true _ c.record_at-r.ensures c.requires.3 c.if-r-eq-PART.true (sym c.lets.ensures ∙ c.if-lets.true))

pub bounds-hop-r : goal.bounds-hop-r
bounds-hop-r c = omega (arith, part_small _ _ _ c.loop-i-test.true _ c.record_at-r.ensures c.requires.3 c.if-r-eq-PART.true (sym c.lets.ensures ∙ c.if-lets.true), c.requires.0)

pub offset_bounds-source-r : goal.offset_bounds-source-r
offset_bounds-source-r c = omega (arith, part_small _ _ _ c.loop-i-test.true _ c.record_at-r.ensures c.requires.3 c.if-r-eq-PART.true (sym c.lets.ensures ∙ c.if-lets.true))

pub bounds-source-r : goal.bounds-source-r
bounds-source-r c = omega (arith, part_small _ _ _ c.loop-i-test.true _ c.record_at-r.ensures c.requires.3 c.if-r-eq-PART.true (sym c.lets.ensures ∙ c.if-lets.true), c.loop-i.invariant.sized)

pub loop-i-preserved : goal.loop-i-preserved
loop-i-preserved c =
    elim c.if-r-eq-PART.branch [
      | then-r-eq-PART+then-lets+then-from-r w ↦
          let l = sym w.lets.ensures ∙ w.if-lets.true in
          rw w.source-is (sources-store _ _ _ _ _ c.loop-i.invariant _ _ refl (part_small _ _ _ c.loop-i-test.true _ c.record_at-r.ensures c.requires.3 w.if-r-eq-PART.true l) (subst (Says _ _ _ _) (sym w.if-from-r.true ∙ w.from.ensures) (part-said _ _ _ c.loop-i-test.true _ c.record_at-r.ensures w.if-r-eq-PART.true l)))
      | else-r-eq-PART w ↦
          rw w.source-is (elim w.else-r-eq-PART.branch [
            | else-r-eq-PART-via-then-r-eq-PART+then-lets+else-from-r v ↦
                sources-skip _ _ _ _ _ c.loop-i.invariant (λ x z. let q = said-ends _ _ _ c.loop-i-test.true _ c.record_at-r.ensures _ _ z in v.if-from-r.false (v.from.ensures ∙ ap (λ (u : ℕ). get_or c.args.hop.now u 0) q.0 ∙ sym q.1))
            | else-r-eq-PART-via-then-r-eq-PART+else-lets v ↦
                sources-skip _ _ _ _ _ c.loop-i.invariant (λ x z. false≢true (sym (sym v.lets.ensures ∙ v.if-lets.false) ∙ (says-part _ _ _ c.loop-i-test.true _ c.record_at-r.ensures _ _ z).1))
            | else-r-eq-PART-via-else-r-eq-PART v ↦
                sources-skip _ _ _ _ _ c.loop-i.invariant (λ x z. v.if-r-eq-PART.false (says-part _ _ _ c.loop-i-test.true _ c.record_at-r.ensures _ _ z).0)
          ])
    ]
