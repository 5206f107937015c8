-- When a run of bytes is a chain behind the answer to a claim. Assumes nothing.
use Rattle.std.specs.Prelude.{ℕ, zero, suc, ◌-◌, ◌%◌, Bool, true, false, ◌&&◌, ◌||◌, List, [], ◌∷◌, ◌++◌, eqb, leb, length, get_or}
use Rattle.rules.specs.Fact.{Fact, opposite}
use Rattle.chain_format.specs.Citing.{Cited, fact, mark, none}
use Rattle.chain_format.specs.Step.{step_at, steps, shows}
use Rattle.chain_format.specs.Justified.{step_ok}

-- the first m steps are justified
unfoldable pub all_ok : ℕ → List Cited → List ℕ → ℕ → Bool
all_ok n es c zero = true
all_ok n es c (suc m) = step_ok n es c m && all_ok n es c m

-- the last step shows the claim or its opposite
unfoldable pub concludes : Fact → List ℕ → Bool
concludes f c = shows (step_at c (steps c - 1)) f || shows (step_at c (steps c - 1)) (opposite f)

-- whole steps, 1 to 16,400 of them, all justified, and a last step that answers
unfoldable pub chain_ok : ℕ → List Cited → Fact → List ℕ → Bool
chain_ok n es f c =
    eqb (length c % 10) 0 && ((leb 1 (steps c) && leb (steps c) 16400) && (all_ok n es c (steps c) && concludes f c))

-- the fact that is cited, if any; and those of the records that the first m steps cite
unfoldable pub fact_in : Cited → List Fact
fact_in (fact f) = f ∷ []
fact_in (mark g) = []
fact_in none = []

unfoldable pub cited_by : List Cited → List ℕ → ℕ → List Fact
cited_by es c zero = []
cited_by es c (suc m) = elim (eqb (step_at c m).rule 0) [ true ↦ fact_in (get_or es (step_at c m).first none) | false ↦ [] ] ++ cited_by es c m
