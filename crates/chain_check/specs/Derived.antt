-- What the steps that pass say: a derivation of what the last step shows, from the facts that they cite. Assumes nothing.
use Rattle.outcomes.specs.Accepted.{accepted_with}
use Rattle.std.specs.Prelude.{ℕ, ◌-◌, ◌≡◌, ◌⊎◌, true}
use mathlib.Core.List.{List, Memᴰ}
use Rattle.rules.specs.Fact.{Fact, opposite}
use Rattle.rules.specs.Derives.{Derives}
use Rattle.rules.specs.Verdict.{verdict}
use Rattle.records.specs.Record.{record_at}
use Rattle.records.specs.Facts.{saying, facts}
use Rattle.records.specs.Kept.{picked}
use Rattle.records.specs.Marked.{marked}
use Rattle.chain_format.specs.Step.{step_at, steps, shows}
use Rattle.chain_format.specs.Citing.{citing}
use Rattle.chain_format.specs.Chain.{cited_by}
use Rattle.chain_check.specs.Call.{asked, passes}

-- the one claim as a fact, and the facts that it picks
abbrev pub claim_in : List ℕ → Fact
claim_in cs = saying (record_at cs 0)

abbrev pub facts_for : List ℕ → List ℕ → List Fact
facts_for s cs = facts (picked s (record_at cs 0))

-- the last step shows a fact; and the facts that the steps cite
abbrev pub Concludes : List ℕ → Fact → Type 0
Concludes c f = shows (step_at c (steps c - 1)) f ≡ true

unfoldable pub cited_in : List ℕ → List ℕ → List ℕ → List Fact
cited_in s cs c = cited_by (citing (record_at cs 0) s) c (steps c)

-- the book and the claim are accepted; the last step shows the claim or its opposite, which has a derivation from the cited facts; these are among
-- the facts that the claim picks; so the answer is FOLLOWS or DENIED accordingly
pub record Proved (s cs c : List ℕ) : Type 0 where
  pub n : ℕ
  pub nodes : ℕ
  pub shadows : ℕ
  pub accepted : asked s cs ≡ accepted_with n nodes shadows
  pub last : Concludes c (claim_in cs) ⊎ Concludes c (opposite (claim_in cs))
  pub derives : (f : Fact) → Concludes c f → Derives (marked s) n (cited_in s cs c) f
  pub among : (f : Fact) → Memᴰ f (cited_in s cs c) → Memᴰ f (facts_for s cs)
  pub follows : Concludes c (claim_in cs) → verdict (marked s) n (facts_for s cs) (claim_in cs) ≡ 1
  pub denied : Concludes c (opposite (claim_in cs)) → verdict (marked s) n (facts_for s cs) (claim_in cs) ≡ 2

-- whoever wrote them
abbrev pub ChainDerives : Type 0
ChainDerives = (s cs c : List ℕ) → passes s cs c ≡ true → Proved s cs c
