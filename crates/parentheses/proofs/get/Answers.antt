-- `parentheses::get` meets its contract.
-- Assumes nothing.
use mathlib.Core.Path.{ap, sym, ◌∙◌}
use Prim.Native.Nat.{ℕ}
use lib.Dec.{eqb}
use Rattle.parentheses.specs.Bits.{bit_of}
use Rattle.parentheses.proofs.Masks.{read}
use Rattle.parentheses.proofs.PackedLaws.{bits_at}
use Rattle.parentheses.proofs.get.Goals as goal

pub returns : goal.returns
unfolding bit_of
returns c = ap (λ (n : ℕ). eqb n 1) (read _ c.args.k) ∙ sym (bits_at c.args.bytes.now c.args.k c.requires)
