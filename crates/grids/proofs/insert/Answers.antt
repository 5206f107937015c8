use borrow.Author.Rules.{rules}
use native.Mathlib.Omega.{arith}
use Rattle.matrices.proofs.Laws.{one_shl}
use Rattle.grids.proofs.Rows.{insert-bits}
use Rattle.grids.proofs.insert.Goals as goal

pub returns : goal.returns
returns c =
    rw (one_shl c.args.b (omega arith)) (record { bits = λ x y l m. insert-bits c.args.l c.args.a c.args.b x y (search rules) })
