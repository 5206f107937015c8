use native.Mathlib.Omega.{arith}
use Prim.Native.Nat.{◌*◌, ◌+◌}
use mathlib.Core.Path.{sym, ◌∙◌}
use Rattle.lists.proofs.Firsts.{ended}
use Rattle.matrices.specs.Matrix.{bit_of}
use Rattle.matrices.proofs.Seeks.{word-empty, word-found}
use Rattle.matrices.proofs.relation.next_word.Goals as goal

pub returns-then-x-ne0 : goal.returns-then-x-ne0
returns-then-x-ne0 c =
    let A = c.args in
    let L = c.loop-i in
    word-found A.m.now A.r L.i (omega arith) (c.type_inv.m (A.r * 32 + L.i)).fits c.if-x-ne0.true ∙ sym L.invariant

pub loop-i-preserved : goal.loop-i-preserved
loop-i-preserved c =
    let A = c.args in
    let L = c.loop-i in
    L.invariant ∙ word-empty A.m.now A.r L.i (omega arith) c.if-x-ne0.false

pub returns : goal.returns
returns c =
    let L = c.loop-i in
    sym (L.invariant ∙ ended (bit_of c.args.m.now c.args.r) (L.i * 64) 2048 (omega arith))
