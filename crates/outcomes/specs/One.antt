-- A book and its one claim: the book's rows, then 10 for other than 6 claim bytes, then the claim's rows and 14. Assumes nothing.
use Rattle.records.specs.Refused.{BookCheck, refused_at}
use Rattle.outcomes.specs.Accepted.{Outcome}
use Rattle.std.specs.Prelude.{ℕ, Bool, true, false, not, List, eqb, length, Err, Ok}
use Rattle.records.specs.Check.{claims_check}
use Rattle.records.specs.declared.Refusal.{Refusal}
use Rattle.records.specs.declared.Refusal.TheVariants.{ClaimsLength}
use Rattle.outcomes.specs.Call.{by_claims}

-- a row that refuses at place 0, or the rows below it
unfoldable pub refuse_if : Bool → Refusal → Outcome → Outcome
refuse_if true r below = refused_at r 0
refuse_if false r below = below

unfoldable pub by_one : List ℕ → List ℕ → BookCheck → Outcome
by_one s c (Err r) = Err r
by_one s c (Ok n) = refuse_if (not (eqb (length c) 6)) ClaimsLength (by_claims s n (claims_check n c))
