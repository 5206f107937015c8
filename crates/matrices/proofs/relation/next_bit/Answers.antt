use native.Mathlib.Omega.{arith}
use mathlib.Core.Path.{sym, refl, ◌∙◌}
use Prim.Native.Nat.{ℕ, ◌+◌, ◌*◌, ◌/◌, ◌%◌, ◌^◌}
use lib.ListN.{get_or}
use Rattle.lists.proofs.Firsts.{ended}
use Rattle.matrices.specs.Matrix.{bit_of}
use Rattle.matrices.proofs.Seeks.{rest-empty, rest-found}
use Rattle.matrices.proofs.relation.next_bit.Goals as goal

pub returns-then-from-ge-ROWS : goal.returns-then-from-ge-ROWS
returns-then-from-ge-ROWS c = sym (ended (bit_of c.args.m.now c.args.r) c.args.from 2048 (omega arith))

pub returns-then-x-ne0 : goal.returns-then-x-ne0
returns-then-x-ne0 c =
    let left : ℕ = let A = c.args in
    get_or A.m.now (A.r * 32 + A.from / 64) 0 / 2 ^ (A.from % 64) in
    let A = c.args in
    rest-found A.m.now A.r A.from left (omega arith) refl (c.type_inv.m (A.r * 32 + A.from / 64)).fits c.if-x-ne0.true

pub returns : goal.returns
returns c =
    let A = c.args in
    c.next_word.ensures ∙ sym (rest-empty A.m.now A.r A.from _ (omega arith) refl c.if-x-ne0.false)
