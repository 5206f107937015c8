-- The check of a chain, of a book, a claim and lent steps, whoever wrote them. Assumes nothing.
use Rattle.outcomes.specs.Accepted.{Outcome, accepted_with}
use Rattle.std.specs.Prelude.{ℕ, ◌≡◌, Bool, false, List, Err, Ok}
use Rattle.records.specs.Record.{record_at}
use Rattle.records.specs.Facts.{saying}
use Rattle.records.specs.Check.{book_check}
use Rattle.outcomes.specs.Call.{by_runs}
use Rattle.outcomes.specs.One.{by_one}
use Rattle.chain_format.specs.Citing.{citing}
use Rattle.chain_format.specs.Chain.{chain_ok}

-- a book and its one claim
unfoldable pub asked : List ℕ → List ℕ → Outcome
asked s cs = by_one s cs (book_check s)

-- steps on a refused book or claim do not pass; on accepted ones of n pieces those pass that are a chain, citing what the claim lets them
unfoldable pub passing : List ℕ → List ℕ → List ℕ → Outcome → Bool
passing s cs c (Err r) = false
passing s cs c (Ok n) = chain_ok n.pieces (citing (record_at cs 0) s) (saying (record_at cs 0)) c

unfoldable pub passes : List ℕ → List ℕ → List ℕ → Bool
passes s cs c = passing s cs c (asked s cs)

-- what the check of an accepted book comes to, before it is said that it has no contradiction
abbrev pub Checked : ℕ → List ℕ → List ℕ → List ℕ → Bool → Type 0
Checked n s cs c r = (nodes shadows : ℕ) → by_runs s n ≡ accepted_with n nodes shadows → r ≡ passes s cs c
