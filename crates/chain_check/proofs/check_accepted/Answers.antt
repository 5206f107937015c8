-- `chain_check::check_accepted` meets its contract. Assumes nothing.
use mathlib.Core.Path.{sym, ap, ◌∙◌}
use native.Mathlib.Omega.{arith}
use borrow.Author.Rules.{rules}
use Rattle.records.specs.Pieces.{stated}
use Rattle.records.proofs.Accepted.{accepted, accepted-pieces, accepted-claims}
use Rattle.closure.proofs.VoidRows.{accepted-markable}
use Rattle.chain_check.proofs.Asking.{passes-claim, passes-chain}
use Rattle.chain_check.proofs.check_accepted.Goals as goal

pub mark_voids-requires : goal.mark_voids-requires
mark_voids-requires c = (accepted-markable (accepted _ _ c.requires.0), search rules)

pub check_steps-requires : goal.check_steps-requires
check_steps-requires c =
    (accepted-pieces (accepted _ _ c.requires.0), c.mark_voids.ensures, ap stated c.record_at.ensures ∙ (accepted-claims _ _ (sym c.in-Ok.ensures)).kinds 0 (omega (arith, c.requires.1)))

pub returns-in-Err : goal.returns-in-Err
returns-in-Err c =
    λ nodes shadows e. passes-claim _ _ _ _ c.requires.0 c.requires.1 _ _ (sym c.in-Err.ensures)

pub returns-in-Ok : goal.returns-in-Ok
returns-in-Ok c =
    λ nodes shadows e. c.check_steps.ensures ∙ rw c.record_at.ensures (passes-chain _ _ _ _ c.requires.0 c.requires.1 (sym c.in-Ok.ensures) nodes shadows e)
