-- A run that is kept fits the first 49,152 bytes of the area, and nothing behind them is written. Assumes nothing.
use Rattle.std.specs.Prelude.{Err, Ok}
use Rattle.outcomes.specs.Accepted.{Outcome, accepted_with}
use mathlib.Core.Path.{◌≡◌, refl, sym, ap, ◌∙◌}
use mathlib.Core.Bool.{Bool, true, false}
use mathlib.Core.List.{List, [], ◌++◌}
use Prim.Native.Nat.{ℕ, ◌≤◌}
use native.Mathlib.Nat.{add-zero}
use native.Mathlib.Omega.{arith}
use borrow.Author.Tests.{ltb-false}
use lib.Dec.{ltb}
use lib.ListN.{length, drop, length-append, length-drop}
use lib.Seq.{drop-append-add}
use Rattle.lists.specs.Front.{front}
use Rattle.records.specs.declared.Refusal.{Refusal}
use Rattle.records.proofs.Rows.{refused-positive}
use Rattle.records.proofs.Accepted.{accepted}
use Rattle.parentheses.specs.Padded.{padded}
use Rattle.parentheses.proofs.Paddeds.{padded-length}
use Rattle.outcomes.specs.Outcome.{number}
use Rattle.outcomes.specs.Fresh.{fresh_call}
use Rattle.outcomes.specs.One.{refuse_if}
use Rattle.answers.proofs.Fresh.{fresh-sound}
use Rattle.working.specs.declared.keeping.Working.{Working}
use Rattle.working.specs.Rows.{by_area, start_outcome, add_outcome, withdraw_outcome}
use Rattle.working.specs.Kept.{kept_area, image}
use Rattle.working.specs.Standing.{extended, without}
use Rattle.working.specs.Behind.{RunFits, Untouched, NeverBehind}
use Rattle.working.proofs.Sequences.{clash}

fits : (run : List ℕ) {n v h : ℕ} → fresh_call run [] ≡ accepted_with n v h → length run ≤ 49152
fits run {n} e = let A = accepted run n (fresh-sound run e) in omega (arith, A.few, A.whole)

pub run_fits : RunFits
run_fits run z = pick (fresh_call run []) refl z
  where
    pick : (o : Outcome) → fresh_call run [] ≡ o → number o ≡ 0 → length run ≤ 49152
    pick (Ok n) e q = fits run e
    pick (Err r) e q = absurd (refused-positive r.refusal q)

-- a row that does not refuse
past : (b : Bool) (x : Refusal) (below : Outcome) {n v h : ℕ} → refuse_if b x below ≡ accepted_with n v h → (b ≡ false) × (below ≡ accepted_with n v h)
unfolding refuse_if
past true x below e = absurd (clash e)
past false x below e = (refl, e)

-- rows 1 and 4
rows : (area : List ℕ) (k : ℕ) (below : Outcome) {n v h : ℕ} → by_area area k below ≡ accepted_with n v h → (49152 ≤ length area) × (below ≡ accepted_with n v h)
unfolding by_area
rows area k below e =
    let p = past (ltb (length area) 49152) _ _ e in
    (ltb-false (length area) 49152 p.0, (past (ltb 8192 k) _ _ p.1).1)

-- and one row more
more : (area : List ℕ) (k : ℕ) (b : Bool) (x : Refusal) (below : Outcome) {n v h : ℕ} → by_area area k (refuse_if b x below) ≡ accepted_with n v h
    → (49152 ≤ length area) × (below ≡ accepted_with n v h)
more area k b x below e = let p = rows area k _ e in (p.0, (past b x below p.1).1)

module _ (w : Working) (area run : List ℕ) (r : Outcome) (w' : Working) (area' : List ℕ) where
  written : (run : List ℕ) → length run ≤ 49152 → 49152 ≤ length area → Untouched area (front (image run) area)
  unfolding front image
  written run few long =
      let xs = padded 0 49152 run in
      let p : length xs ≡ 49152 = padded-length 0 49152 run few in
      record {
        as_long = omega (arith, p, length-append xs (drop (length xs) area), length-drop (length xs) area);
        behind = ap (λ (k : ℕ). drop k (xs ++ drop (length xs) area)) (sym p ∙ sym (add-zero (length xs))) ∙ drop-append-add xs (drop (length xs) area) 0 ∙ ap (λ (k : ℕ). drop k area) p;
      }

  by : (due : Outcome) → ((n v h : ℕ) → due ≡ accepted_with n v h → (49152 ≤ length area) × (fresh_call run [] ≡ accepted_with n v h)) → area' ≡ kept_area area (image run) due → Untouched area area'
  unfolding kept_area
  by (Ok n) good e = let g = good n.pieces n.nodes n.shadows refl in rw e (written run (fits run g.1) g.0)
  by (Err x) good e = rw e (record { as_long = refl; behind = refl })

pub never-behind : NeverBehind
unfolding start_outcome add_outcome withdraw_outcome
never-behind w area r w' area' =
    record {
      started = λ D. by w area [] r w' area' (start_outcome area) (λ n v h e. rows area 0 _ e) D.1.1;
      added = λ a D. by w area (extended area w.records a) r w' area' (add_outcome area w.records a) (λ n v h e. more area w.records _ _ _ e) D.1.1;
      withdrawn = λ i D. by w area (without area w.records i) r w' area' (withdraw_outcome area w.records i) (λ n v h e. more area w.records _ _ _ e) D.1.1;
    }
