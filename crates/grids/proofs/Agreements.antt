-- The bit of a claim is the question call's answer to it. Assumes nothing.
use Rattle.std.specs.Prelude.{Err, Ok}
use Rattle.outcomes.specs.Accepted.{Outcome, accepted_with}
use Prim.Native.Nat.{ℕ, ◌≤◌}
use mathlib.Core.Path.{◌≡◌, refl, sym, ap, subst, ◌∙◌}
use mathlib.Core.Bool.{Bool, true, false}
use mathlib.Core.List.{List, []}
use native.Mathlib.Omega.{arith}
use borrow.Author.Tests.{ltb-false}
use lib.Dec.{eqb, ltb}
use lib.ListN.{get_or}
use Rattle.rules.specs.Fact.{Fact, Within}
use Rattle.rules.specs.Verdict.{verdict}
use Rattle.records.specs.Record.{record_at}
use Rattle.records.specs.Facts.{facts}
use Rattle.records.specs.Marked.{marked}
use Rattle.records.specs.Check.{book_check}
use Rattle.records.proofs.Keeps.{picked_all}
use Rattle.records.proofs.Rows.{refused-positive}
use Rattle.records.specs.Claimed.{claimed}
use Rattle.outcomes.specs.Call.{outcome, left, indexed, Passed}
use Rattle.outcomes.specs.Fresh.{fresh_call}
use Rattle.outcomes.specs.Outcome.{number}
use Rattle.outcomes.proofs.Outcomes.{Told, told}
use Rattle.answers.proofs.Fresh.{fresh-sound}
use Rattle.outcomes.proofs.Kept.{claim-in, answer_at}
use Rattle.grids.specs.declared.rounds.Grids.{Grids}
use Rattle.grids.specs.Closed.{holds}
use Rattle.grids.specs.Answers.{Answers}
use Rattle.grids.specs.Gridded.{sized, by_size, grid_outcome, bit_for, Gridded}
use Rattle.grids.specs.Agree.{GridAgrees}
use Rattle.grids.proofs.Agrees.{bit-verdict}

-- accepted grids hold the answers of a book of at most 64 pieces
abbrev Filled : List ℕ → Grids → Type 0
Filled s g = (n : ℕ) × (book_check s ≡ Ok n) × (n ≤ 64) × Answers (marked s) n (facts s) g

module _ (s : List ℕ) (g : Grids) where
  by-size :
      (n v h : ℕ) (t : Bool) → ltb 64 n ≡ t → fresh_call s [] ≡ accepted_with n v h → number (sized t (accepted_with n v h)) ≡ 0
      → ((f : Fact) → Within 64 f → holds g f ≡ bit_for s (sized t (accepted_with n v h)) f) → Filled s g
  unfolding bit_for
  by-size n v h true q e z b = absurd (omega arith)
  by-size n v h false q e z b = (n, fresh-sound s e, ltb-false 64 n q, record { bits = b })

  by-outcome :
      (o : Outcome) → fresh_call s [] ≡ o → number (by_size o) ≡ 0 → ((f : Fact) → Within 64 f → holds g f ≡ bit_for s (by_size o) f) → Filled s g
  unfolding by_size
  by-outcome (Err r) e z b = absurd (refused-positive r.refusal z)
  by-outcome (Ok n) e z b = by-size n.pieces n.nodes n.shadows (ltb 64 n.pieces) refl e z b

  filled : (o : Outcome) → Gridded s o g → number o ≡ 0 → Filled s g
  unfolding grid_outcome
  filled o G z = by-outcome (fresh_call s []) refl (sym (ap number G.outcome-is) ∙ z) G.bits

pub grid-agrees : GridAgrees
unfolding left
grid-agrees s cs l o g G z y i h origin = pick (outcome s cs l) (told s cs l) y (filled s g o G z)
  where
    at : (m : ℕ) → Passed s cs l m → Filled s g → holds g (claimed cs i) ≡ eqb (get_or (indexed s cs m l).answers i 0) 1
    at m p (n, e, few, a) =
        let q = sym p.sound ∙ e in
        let k : m ≡ n = cc in
        let w : Within n (claimed cs i) = subst (λ (x : ℕ). Within x (claimed cs i)) k (claim-in s cs l m p i h) in
        bit-verdict (marked s) n (facts s) g few a (claimed cs i) w
        ∙ ap (λ (x : ℕ). eqb (verdict (marked s) x (facts s) (claimed cs i)) 1) (sym k)
        ∙ ap (λ (t : List ℕ). eqb (verdict (marked s) m (facts t) (claimed cs i)) 1) (sym (picked_all s (record_at cs i) origin))
        ∙ ap (λ (x : ℕ). eqb x 1) (sym (answer_at s cs l m p i h))

    pick : (r : Outcome) → Told s cs l r → number r ≡ 0 → Filled s g → holds g (claimed cs i) ≡ eqb (get_or (left s cs l r).answers i 0) 1
    pick (Ok n) t q f = at n.pieces t.0 f
    pick (Err r) t q f = absurd (refused-positive r.refusal q)
