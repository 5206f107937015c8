-- Chains on document 01's session book and on a book with a mark, by computation: some that pass, and near misses. Assumes nothing.
use Prim.Native.Nat.{ℕ}
use mathlib.Core.Path.{◌≡◌, refl}
use mathlib.Core.Bool.{true, ◌&&◌, ◌||◌, not}
use mathlib.Core.List.{List, [], ◌∷◌, ◌++◌}
use Rattle.lists.specs.Any.{any}
use Rattle.rules.specs.Fact.{PART, APART, MEETS, NOTPART}
use Rattle.chain_format.specs.Step.{step_at, showing}
use Rattle.chain_format.specs.Citing.{Cited, fact, mark, none, marks_piece, marks_some}
use Rattle.chain_format.specs.Rule.{table, rule}
use Rattle.chain_format.specs.Justified.{some, named, cites, premised, keeps, justified, step_ok}
use Rattle.chain_format.specs.Chain.{all_ok, concludes, chain_ok}

abbrev pub step : ℕ → ℕ → ℕ → ℕ → ℕ → ℕ → List ℕ
step r k a b first second = r ∷ k ∷ a ∷ 0 ∷ b ∷ 0 ∷ first ∷ 0 ∷ second ∷ 0 ∷ []

abbrev pub session : List Cited
session =
    fact (PART 1 0)
    ∷ fact (PART 2 0)
    ∷ fact (PART 3 1)
    ∷ fact (PART 4 1)
    ∷ fact (PART 4 2)
    ∷ fact (PART 5 4)
    ∷ fact (APART 3 4)
    ∷ fact (MEETS 3 2)
    ∷ fact (NOTPART 2 1)
    ∷ []

-- 5 PART 4 and 4 PART 2 are records 5 and 4, 3 APART 4 is record 6
abbrev pub part : List ℕ
part = step 0 1 5 4 5 0 ++ (step 0 1 4 2 4 0 ++ step 1 1 5 2 0 1)

abbrev pub apart : List ℕ
apart = step 0 1 5 4 5 0 ++ (step 0 2 4 3 6 0 ++ step 2 2 3 5 0 1)

abbrev pub swapped : List ℕ
swapped = step 0 1 5 4 5 0 ++ (step 0 2 4 3 6 0 ++ step 2 2 3 5 1 0)

abbrev pub later : List ℕ
later = step 0 1 5 4 5 0 ++ (step 1 1 5 2 0 2 ++ step 0 1 4 2 4 0)

pub session-chains :
    (chain_ok 6 session (PART 5 2) part && (chain_ok 6 session (APART 5 3) apart && (chain_ok 6 session (MEETS 3 5) apart
    && not (any (λ c. chain_ok 6 session (PART 5 2) c) (swapped ∷ later ∷ apart ∷ [] ∷ []))))) ≡ true
unfolding chain_ok all_ok concludes step_ok justified keeps premised cites named some any rule table showing step_at
session-chains = refl

-- three pieces, of which record 1 marks piece 2; record 0 may not be cited
abbrev pub marked : List Cited
marked = none ∷ mark 2 ∷ []

-- 2 APART 1 and 2 PART 1 by the mark; 1 NOTPART 2 by 1 MEETS 1 and 2 APART 1
abbrev pub outside : List ℕ
outside = step 9 3 1 1 0 0 ++ (step 10 2 1 2 1 0 ++ step 8 4 1 2 0 1)

-- a marked piece does not meet itself, a piece that is not marked is not void, and record 0 is no mark
pub marked-chains :
    (chain_ok 3 marked (APART 1 2) (step 10 2 1 2 1 0) && (chain_ok 3 marked (PART 2 1) (step 11 1 2 1 1 0) && (chain_ok 3 marked (NOTPART 1 2) outside
    && not (any (λ c. chain_ok 3 marked (MEETS 2 2) c || (chain_ok 3 marked (PART 1 2) c || chain_ok 3 marked (APART 1 2) c))
    (step 9 3 2 2 0 0 ∷ step 11 1 1 2 1 0 ∷ step 10 2 1 2 0 0 ∷ step 10 2 1 2 1 1 ∷ step 0 1 1 2 0 0 ∷ []))))) ≡ true
unfolding chain_ok all_ok concludes step_ok justified keeps premised cites named some any rule table showing step_at marks_piece marks_some
marked-chains = refl
