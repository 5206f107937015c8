-- `report::put_claims` meets its contract: the loop keeps that the first i lines are put. Assumes nothing.
use Rattle.pages.specs.Put.{Put}
use Rattle.report.specs.Session.{claim_lines}
use Rattle.report.proofs.put_claims.Given as goal

abbrev pub invariant-loop-i : goal.invariant-loop-i
invariant-loop-i l = Put l.initial.page l.at (claim_lines l.claims l.answers l.i) l.page l.end
