-- `containment::is_leaf` meets its contract: past the last bit there is none. Assumes nothing.
use mathlib.Core.Path.{sym, ap, ◌∙◌}
use mathlib.Core.Bool.{not, false}
use Prim.Native.Nat.{◌+◌, ◌*◌}
use native.Mathlib.Omega.{arith}
use lib.ListN.{length, get_or-eq_default}
use borrow.Author.Tests.{eq-eqb}
use Rattle.parentheses.specs.Bits.{bits}
use Rattle.parentheses.proofs.PackedLaws.{bits-length}
use Rattle.containment.proofs.is_leaf.Goals as goal

pub returns-then-next-parens : goal.returns-then-next-parens
returns-then-next-parens c =
    let a = c.args in
    eq-eqb (a.p + 1) (length a.parens.now * 8) c.if-next-parens.true
    ∙ sym (ap not (get_or-eq_default (bits a.parens.now) false {n = a.p + 1} (omega (arith, bits-length a.parens.now, c.if-next-parens.true))))
