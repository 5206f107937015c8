-- The records of two accepted books together: which pieces they are about, and that they can be laid exactly when a model keeps them. Assumes nothing.
use Rattle.std.specs.Prelude.{Ok}
use Prim.Native.Nat.{ℕ, max, ◌*◌}
use mathlib.Core.Path.{◌≡◌, sym, ap, ap₂, ◌∙◌}
use mathlib.Core.Logic.{inl, inr, ◌↔◌}
use mathlib.Core.Bool.{true, not, ◌||◌}
use mathlib.Core.List.{List, ◌++◌}
use native.Mathlib.Omega.{arith}
use lib.ListN.{length}
use Rattle.lists.proofs.Bools.{not-true, not-is-true}
use Rattle.rules.specs.Derives.{Contradictory}
use Rattle.rules.specs.Follows.{clash}
use Rattle.rules.specs.Model.{Model, keeps_all}
use Rattle.rules.proofs.Models.{clash-iff}
use Rattle.rules.proofs.Sound.{no-model}
use Rattle.records.specs.Record.{records}
use Rattle.records.specs.Facts.{facts}
use Rattle.records.specs.Marked.{marked}
use Rattle.records.specs.Check.{book_check}
use Rattle.records.proofs.Orders.{found_before, found-behind, facts-found}
use Rattle.records.proofs.Marks.{marked_append}
use Rattle.records.proofs.Accepted.{accepted, accepted-positive, accepted-pieces}
use Rattle.closure.specs.Void.{Markable}
use Rattle.closure.specs.Bounded.{Bounded}
use Rattle.closure.proofs.VoidRows.{accepted-markable}
use Rattle.contradiction.proofs.SettlingLaws.{free-model, free-consistent}
use Rattle.compare.specs.Joint.{pieces, joint_run, consistent, either_marked}
use Rattle.compare.proofs.JointJoining.{either-marked, fact-split, joint-clash, joint-pieces, within}
use Rattle.compare.specs.Judging.{Judgeable}

module _ (s t : List ℕ) (a b : ℕ) (first : book_check s ≡ Ok a) (second : book_check t ≡ Ok b) where
  whole : length s ≡ 6 * records s
  whole = (accepted s a first).whole

  bounded : Bounded (max a b) (facts (s ++ t))
  bounded =
      let A = accepted s a first in
      let B = accepted t b second in
      record { some = omega (arith, accepted-positive A); fits = omega (arith, accepted-pieces A, accepted-pieces B); within = within s t a b first second }

  marks : Markable (s ++ t)
  marks =
      let A = accepted-markable (accepted s a first) in
      let B = accepted-markable (accepted t b second) in
      record {
        whole = marked_append s t whole 0 ∙ ap₂ ◌||◌ A.whole B.whole;
        small = λ g h. marked_append s t whole g ∙ ap₂ ◌||◌ (A.small g h) (B.small g h);
      }

  pub judgeable : Judgeable (s ++ t) (max a b)
  judgeable = record { bounded = bounded; markable = marks }

  pub laid-is : not (clash (marked (s ++ t)) (max a b) (facts (s ++ t))) ≡ consistent s t
  unfolding consistent
  laid-is =
      ap not (joint-clash s t whole (max a b) bounded.some marks.whole (within s t a b first second))
      ∙ ap (λ (n : ℕ). not (clash (marked (joint_run s t)) n (facts (joint_run s t)))) (joint-pieces s t a b first second)

  pub joint-consistent : consistent s t ≡ true → Contradictory (marked (s ++ t)) (pieces s t) (facts (s ++ t)) → ⊥
  joint-consistent e = rw (← joint-pieces s t a b first second) (free-consistent (s ++ t) bounded (marked (s ++ t)) marks.whole (sym (not-is-true _ (laid-is ∙ e))))

  -- they can be laid exactly when a model keeps all facts of both
  abbrev Kept : Type 0
  Kept = (M : Model (either_marked s t) (max a b)) × keeps_all M (facts s) × keeps_all M (facts t)

  apart-kept : (M : Model (marked (s ++ t)) (max a b)) → keeps_all M (facts (s ++ t)) → (M : Model (marked (s ++ t)) (max a b)) × keeps_all M (facts s) × keeps_all M (facts t)
  apart-kept M k = (
    M,
    λ f m. k f (facts-found s (s ++ t) (found_before s t whole) f m),
    λ f m. k f (facts-found t (s ++ t) (found-behind s t whole) f m),
  )

  both-kept : (M : Model (marked (s ++ t)) (max a b)) → keeps_all M (facts s) → keeps_all M (facts t) → keeps_all M (facts (s ++ t))
  both-kept M k l f m = elim (fact-split s t whole f m) [ inl h ↦ k f h | inr h ↦ l f h ]

  laid-models : (consistent s t ≡ true) ↔ ((M : Model (marked (s ++ t)) (max a b)) × keeps_all M (facts s) × keeps_all M (facts t))
  laid-models = (
    λ e. let m = free-model (s ++ t) bounded (marked (s ++ t)) marks.whole (sym (not-is-true _ (laid-is ∙ e))) in apart-kept m.0 m.1,
    λ x. sym laid-is ∙ ap not (not-true _ (λ e. no-model ((clash-iff (marked (s ++ t)) (max a b) (facts (s ++ t)) (within s t a b first second) bounded.some marks.whole).0 e) x.0 (both-kept x.0 x.1 x.2))),
  )

  pub laid-iff : (consistent s t ≡ true) ↔ Kept
  laid-iff = rw (either-marked s t whole) at laid-models
