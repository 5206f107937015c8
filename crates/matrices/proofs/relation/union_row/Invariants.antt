-- `relation::union_row` meets its contract: as many pairs of words are joined as were passed, two a turn. Assumes nothing.
use Prim.Native.Nat.{◌*◌}
use Rattle.matrices.proofs.Words.{Joined}
use Rattle.matrices.proofs.relation.union_row.Given as goal

abbrev pub invariant-loop-pair : goal.invariant-loop-pair
invariant-loop-pair l =
    Joined l.initial.dst l.dst l.src l.a l.b (2 * l.pair)
