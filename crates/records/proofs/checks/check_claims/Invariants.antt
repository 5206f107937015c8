-- `checks::check_claims` meets its contract: the loop keeps what is left of the scan. Assumes nothing.
use Rattle.records.proofs.Claims.{ClaimsLeft}
use Rattle.records.proofs.checks.check_claims.Given as goal

abbrev pub invariant-loop-i : goal.invariant-loop-i
invariant-loop-i l = ClaimsLeft l.pieces l.claims l.i
