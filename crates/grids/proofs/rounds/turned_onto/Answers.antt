use borrow.Author.Rules.{rules}
use Prim.Native.Nat.{ℕ, ◌<◌}
use mathlib.Core.Path.{◌≡◌}
use mathlib.Core.Bool.{◌||◌}
use native.Mathlib.Omega.{arith}
use Rattle.matrices.specs.Matrix.{bit}
use Rattle.grids.specs.Grid.{bit_at}
use Rattle.grids.proofs.Rows.{rows_more, turned-row}
use Rattle.grids.proofs.rounds.turned_onto.Goals as goal

pub loop-g-preserved : goal.loop-g-preserved
unfolding bit_at
loop-g-preserved c =
    (search rules, rows_more (λ a v. (k : ℕ) → k < 64 → bit v k ≡ (bit_at c.args.y a k || bit_at c.args.x k a)) c.loop-g.r c.loop-g.g _ (search rules) c.loop-g.invariant.1 (λ k l. turned-row c.args.y c.args.x _ k _ (c.column.ensures k l)))

pub returns : goal.returns
unfolding bit_at
returns c = record { bits = λ a k l m. c.loop-g.invariant.1 a (omega arith) k m }
