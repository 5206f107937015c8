-- `checks::check_claims` meets its contract: the loop keeps what is left of the scan. Assumes nothing.
use native.Mathlib.Omega.{arith}
use mathlib.Core.Path.{sym, ◌∙◌}
use Rattle.records.proofs.Claims.{uneven-claims, too-many-claims, first-claim, accepts-claims, refuses-form, refuses-piece, next-claim}
use Rattle.records.proofs.checks.check_claims.Goals as goal

pub returns-then-claims-ne0 : goal.returns-then-claims-ne0
returns-then-claims-ne0 c = rw c.at.ensures (uneven-claims _ _ (λ e. omega arith))

pub returns-then-n-gt-CLAIMS : goal.returns-then-n-gt-CLAIMS
returns-then-n-gt-CLAIMS c = rw c.at-then-n-gt-CLAIMS.ensures (too-many-claims _ _ (omega arith) (omega arith))

pub loop-i-init : goal.loop-i-init
loop-i-init c = first-claim _ _ (omega arith) (omega arith)

pub returns-in_default : goal.returns-in_default
returns-in_default c = rw c.at-in_default.ensures (refuses-form _ _ _ c.loop-i.invariant (omega arith) (sym c.in_default.is ∙ c.claim_at.ensures))

pub returns-then-pieces-largest_named : goal.returns-then-pieces-largest_named
returns-then-pieces-largest_named c =
    rw c.at-then-pieces-largest_named.ensures (refuses-piece _ _ _ c.loop-i.invariant (omega arith) (sym c.in-Some.is ∙ c.claim_at.ensures)
    (omega (arith, c.largest_named.ensures)))

pub loop-i-preserved : goal.loop-i-preserved
loop-i-preserved c =
    next-claim _ _ _ c.loop-i.invariant (omega arith) (sym c.in-Some.is ∙ c.claim_at.ensures)
    (omega (arith, c.largest_named.ensures))

pub returns : goal.returns
returns c = accepts-claims _ _ _ c.loop-i.invariant (omega arith)
