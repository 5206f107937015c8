-- `convert::settle` meets its contract. Assumes nothing.
use Rattle.closure.proofs.VoidRows.{no-voids}
use Rattle.convert.proofs.Writes.{no-marks, former-bounded}
use Rattle.convert.proofs.settle.Goals as goal

pub settle_alone-requires : goal.settle_alone-requires
settle_alone-requires c = (former-bounded _ _ c.requires, no-voids)

pub returns : goal.returns
returns c =
    let S = c.settle_alone.ensures.0 in record { free = λ q. rw no-marks at (S.free q).is; clash = λ p q. rw no-marks at (S.clash p q) }
