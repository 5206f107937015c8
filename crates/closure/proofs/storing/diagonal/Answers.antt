-- `storing::diagonal` meets its contract: the test is true of every piece. Assumes nothing.
use borrow.Author.Rules.{rules}
use mathlib.Core.Path.{ap}
use mathlib.Core.Bool.{Bool, true, ◌&&◌, and-true}
use lib.Dec.{eqb, ltb}
use Rattle.closure.proofs.Grows.{grown-same}
use Rattle.closure.proofs.storing.diagonal.Goals as goal

pub returns : goal.returns
returns c = grown-same (λ x y. ap (λ (t : Bool). eqb x y && t) (and-true (ltb x c.args.n))) (c.diagonal_where.ensures (λ x. true) (record { at = λ i b l p. search rules }))
