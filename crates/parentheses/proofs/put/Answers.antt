-- `parentheses::put` meets its contract.
-- Assumes nothing.
use Rattle.parentheses.proofs.Masks.{one_shl}
use Rattle.parentheses.proofs.PackedLaws.{bits_put}
use Rattle.parentheses.proofs.put.Goals as goal

pub returns : goal.returns
returns c = rw one_shl (bits_put c.args.bytes.now c.args.k c.requires)
