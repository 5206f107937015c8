-- `storing::diagonal_unmarked` meets its contract: the test is that a piece is not marked. Assumes nothing.
use borrow.Author.Rules.{rules}
use mathlib.Core.Bool.{not}
use Rattle.closure.specs.Void.{void_of}
use Rattle.closure.proofs.storing.diagonal_unmarked.Goals as goal

pub returns : goal.returns
unfolding void_of
returns c = c.diagonal_where.ensures (λ x. not (void_of c.args.voids.now x)) (record { at = λ i b l p. search rules })
