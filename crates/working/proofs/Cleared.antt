-- A call with one claim on cleared buffers: a fresh call's outcome, and the answer byte. Assumes nothing.
use Rattle.outcomes.specs.Accepted.{Outcome}
use mathlib.Core.Path.{◌≡◌, refl, ap, ◌∙◌}
use mathlib.Core.List.{List, [], ◌∷◌}
use Prim.Native.Nat.{ℕ}
use native.Mathlib.Omega.{arith}
use lib.ListN.{length, get_or, replicate, length-replicate}
use Rattle.outcomes.specs.Lent.{unasked}
use Rattle.outcomes.specs.Call.{outcome, left}
use Rattle.outcomes.specs.Fresh.{fresh_call}
use Rattle.answers.proofs.Fresh.{long-lent, fresh-is}
use Rattle.working.specs.Rows.{answer_of}
use Rattle.working.proofs.Fresh.{answer-left}

pub on-cleared : (s c : List ℕ) → length c ≡ 6 → (o : Outcome) (a : List ℕ) → o ≡ outcome s c (unasked (0 ∷ [])) → a ≡ (left s c (unasked (0 ∷ [])) o).answers → (o ≡ fresh_call s c) × (get_or a 0 0 ≡ answer_of s c o)
on-cleared s c six o a d e =
    let long = long-lent c (replicate 2560 0) (replicate 1280 0) (replicate 8192 0) (replicate 2048 0) (0 ∷ []) (length-replicate {A = ℕ} 2560 0) (length-replicate {A = ℕ} 1280 0) (length-replicate {A = ℕ} 8192 0) (length-replicate {A = ℕ} 2048 0) (omega arith) in
    (d ∙ fresh-is s c (unasked (0 ∷ [])) long, ap (λ (x : List ℕ). get_or x 0 0) e ∙ answer-left s c (unasked (0 ∷ [])) six refl o)
