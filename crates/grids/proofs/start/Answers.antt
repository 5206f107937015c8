use borrow.Author.Rules.{rules}
use Prim.Native.Nat.{ℕ}
use mathlib.Core.Path.{◌≡◌}
use native.Mathlib.Omega.{arith}
use lib.ListN.{get_or-replicate}
use Rattle.matrices.specs.Matrix.{bit}
use Rattle.matrices.proofs.Laws.{one_shl}
use Rattle.rules.specs.Fact.{PART, APART, MEETS}
use Rattle.grids.specs.Loaded.{basic}
use Rattle.grids.proofs.Rows.{rows_more}
use Rattle.grids.proofs.Starts.{started, part-row, apart-row, meets-row}
use Rattle.grids.proofs.start.Goals as goal

pub loop-a-preserved : goal.loop-a-preserved
loop-a-preserved c =
    let a = c.loop-a.a in
    let marks = c.args.marks in
    let n = c.args.n in
    let all = c.pieces_below-all.result in
    let every = c.pieces_below-all.ensures in (
      (
        search rules,
        rows_more (λ x v. (k : ℕ) → bit v k ≡ basic (bit marks) n (PART x k)) c.loop-a.part a _ (search rules) c.loop-a.invariant.0.1
            (λ k. part-row marks n all every a k _ _ (c.chosen-whole.ensures k) (rw (one_shl a (omega arith)) at (c.chosen.ensures k))),
      ),
      (
        search rules,
        rows_more (λ x v. (k : ℕ) → bit v k ≡ basic (bit marks) n (APART x k)) c.loop-a.apart a _ (search rules) c.loop-a.invariant.1.1
            (λ k. apart-row marks n all every a k _ _ (c.chosen-whole.ensures k) (c.chosen-in-loop-a.ensures k)),
      ),
      (
        search rules,
        rows_more (λ x v. (k : ℕ) → bit v k ≡ basic (bit marks) n (MEETS x k)) c.loop-a.meets a _ (search rules) c.loop-a.invariant.2.1
            (λ k. meets-row marks n all every a k _ _ (c.live.ensures k) (c.chosen-in-loop-a-2.ensures k)),
      ),
    )

pub returns : goal.returns
returns c =
    let e : c.loop-a.a ≡ 64 = omega arith in
    let i = rw e at c.loop-a.invariant in
    started _ _ _ i.0 i.1 i.2 (λ x l. get_or-replicate 64 x 0 0 l)
