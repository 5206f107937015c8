-- What checks come to: what is accepted, or the first refusal and its place. Assumes nothing.
use Rattle.std.specs.Prelude.{ℕ, Option, Result, Err}
use Rattle.records.specs.declared.Record.{Record}
use Rattle.records.specs.declared.Refusal.{Refusal}
use Rattle.records.specs.declared.Refused.{Refused}

-- some rows of one thing
abbrev pub Finding : Type 0
Finding = Result (Unit {0}) Refusal

-- a book, accepted with its piece count
abbrev pub BookCheck : Type 0
BookCheck = Result ℕ Refused

-- a list of claims
abbrev pub ClaimsCheck : Type 0
ClaimsCheck = Result (Unit {0}) Refused

-- a claim that is read, if it is of a kind and an origin that a claim may have
abbrev pub Claim : Type 0
Claim = Option Record

abbrev pub refused_at : {A : Type 0} → Refusal → ℕ → Result A Refused
refused_at r i = Err (record { refusal = r; place = i })
