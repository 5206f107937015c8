-- Each bit of accepted grids is the question call's answer to its claim. Assumes nothing.
use Rattle.std.specs.Prelude.{Err, Ok}
use Rattle.outcomes.specs.Accepted.{Outcome, accepted_with}
use Prim.Native.Nat.{ℕ, ◌+◌, ◌*◌, ◌<◌, max}
use mathlib.Core.Path.{◌≡◌, refl, sym, ap, ap₂, subst, ◌∙◌}
use mathlib.Core.Bool.{Bool, true, false}
use mathlib.Core.List.{List, []}
use native.Mathlib.Omega.{arith}
use borrow.Author.Tests.{lt-leb}
use lib.Dec.{leb, ltb}
use lib.ListN.{replicate}
use Rattle.lists.proofs.Bools.{and_both, not-true}
use Rattle.rules.specs.Fact.{Fact, PART, APART, MEETS, NOTPART, left, right, fact_of, Within}
use Rattle.records.specs.Record.{record_at}
use Rattle.records.specs.Pieces.{stated, largest}
use Rattle.records.specs.Refusal.{scan}
use Rattle.records.specs.Check.{claim_at, claims_check}
use Rattle.records.proofs.Accepted.{accepted}
use Rattle.records.proofs.Rows.{refused-positive}
use Rattle.outcomes.specs.Lent.{Lent, lent, short_lent}
use Rattle.records.specs.Claimed.{claimed}
use Rattle.outcomes.specs.Call as call
use Rattle.outcomes.specs.Fresh.{fresh_call}
use Rattle.outcomes.specs.Outcome.{number}
use Rattle.outcomes.proofs.Outcomes.{passed-outcome}
use Rattle.answers.proofs.Fresh.{fresh-is, fresh-sound, roomy-long}
use Rattle.grids.specs.Closed.{holds}
use Rattle.grids.specs.Answers as on
use Rattle.grids.specs.Loaded.{among}
use Rattle.grids.specs.Gridded.{sized, by_size, grid_outcome, bit_for}
use Rattle.grids.specs.EachBit.{claim_of, Asked, EachBit, EachBitAgrees}
use Rattle.grids.proofs.Facts.{among-lt}
use Rattle.grids.proofs.Agreements.{grid-agrees}

-- the claim of a bit is read as its fact
read_back : (f : Fact) → claimed (claim_of f) 0 ≡ f
unfolding claimed record_at fact_of
read_back (PART a b) = ap₂ PART (omega arith) (omega arith)
read_back (APART a b) = ap₂ APART (omega arith) (omega arith)
read_back (MEETS a b) = ap₂ MEETS (omega arith) (omega arith)
read_back (NOTPART a b) = ap₂ NOTPART (omega arith) (omega arith)

-- and passes the rows of claims
small : (n a b : ℕ) → a < n → b < n → leb n (max (a + 256 * 0) (b + 256 * 0)) ≡ false
small n a b l k = lt-leb n (max (a + 256 * 0) (b + 256 * 0)) (omega arith)

fits : (n : ℕ) (f : Fact) → Within n f → claims_check n (claim_of f) ≡ Ok tt
unfolding claims_check scan claim_at record_at stated largest
fits n (PART a b) w = rw (small n a b w.0 w.1)
fits n (APART a b) w = rw (small n a b w.0 w.1)
fits n (MEETS a b) w = rw (small n a b w.0 w.1)
fits n (NOTPART a b) w = rw (small n a b w.0 w.1)

-- where the grids are accepted the index call accepts the book
module _ (s : List ℕ) where
  abbrev Fresh : Type 0
  Fresh = (n v h : ℕ) × (fresh_call s [] ≡ accepted_with n v h) × (grid_outcome s ≡ accepted_with n v h)

  by-outcome : (o : Outcome) → fresh_call s [] ≡ o → number (by_size o) ≡ 0 → Fresh
  unfolding grid_outcome by_size
  by-outcome (Err r) e z = absurd (refused-positive r.refusal z)
  by-outcome (Ok n) e z = by-size (ltb 64 n.pieces) refl z
    where
      by-size : (t : Bool) → ltb 64 n.pieces ≡ t → number (sized t (accepted_with n.pieces n.nodes n.shadows)) ≡ 0 → Fresh
      by-size true q y = absurd (omega arith)
      by-size false q y = (n.pieces, n.nodes, n.shadows, e, ap by_size e ∙ ap (λ (t : Bool). sized t (accepted_with n.pieces n.nodes n.shadows)) q)

  fresh : number (grid_outcome s) ≡ 0 → Fresh
  unfolding grid_outcome
  fresh z = by-outcome (fresh_call s []) refl z

  -- and so does the question call with a claim that fits
  claim-accepted : {n v h : ℕ} → fresh_call s [] ≡ accepted_with n v h → (cs : List ℕ) (l : Lent) → short_lent cs l ≡ false → claims_check n cs ≡ Ok tt → call.outcome s cs l ≡ accepted_with n v h
  unfolding claims_check scan
  claim-accepted {n} e cs l long fit =
      let r = lent (replicate 2560 0) (replicate 1280 0) (replicate 8192 0) (replicate 2048 0) [] in
      let sound = fresh-sound s e in
      passed-outcome s cs l n (record { lent = long; sound = sound; fit = fit })
      ∙ sym (passed-outcome s [] r n (record { lent = roomy-long; sound = sound; fit = refl }))
      ∙ fresh-is s [] r roomy-long
      ∙ e

-- a bit about a piece that is not the book's
unset : (s : List ℕ) (n v h : ℕ) (f : Fact) → (Within n f → ⊥) → bit_for s (accepted_with n v h) f ≡ false
unfolding bit_for on.claimed
unset s n v h f w = not-true _ (λ t. w (among-lt n (left f) (right f) (and_both (among n (left f) (right f)) _ t).0))

pub each-bit-agrees : EachBitAgrees
unfolding record_at
each-bit-agrees s o g G z f inside = pick (fresh s (ap number (sym G.outcome-is) ∙ z))
  where
    asks : (n v h : ℕ) → fresh_call s [] ≡ accepted_with n v h → Within n f → (l : Lent) → short_lent (claim_of f) l ≡ false → Asked s g f l
    asks n v h e w l long =
        let a = claim-accepted s e (claim_of f) l long (fits n f w) in
        record {
          accepted = ap number a;
          agrees = ap (holds g) (sym (read_back f)) ∙ grid-agrees s (claim_of f) l o g G z (ap number a) 0 (omega arith) refl;
        }

    away : (n v h : ℕ) → grid_outcome s ≡ accepted_with n v h → (Within n f → ⊥) → holds g f ≡ false
    away n v h e w = G.bits f inside ∙ ap (λ (x : Outcome). bit_for s x f) e ∙ unset s n v h f w

    pick : Fresh s → EachBit s g f
    pick (n, v, h, e, q) =
        let k = (accepted s n (fresh-sound s e)).count in
        record {
          asked = λ w. asks n v h e (subst (λ (m : ℕ). Within m f) (sym k) w);
          beyond = λ w. away n v h q (λ x. w (subst (λ (m : ℕ). Within m f) k x));
        }
