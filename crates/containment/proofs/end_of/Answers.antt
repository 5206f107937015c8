-- `containment::end_of` meets its contract. Assumes nothing.
use mathlib.Core.Path.{◌≡◌, sym, ap, ◌∙◌}
use Prim.Native.Nat.{◌+◌, ◌-◌, ◌*◌, ◌/◌, ◌<◌}
use native.Mathlib.Omega.{arith}
use lib.ListN.{length}
use Rattle.lists.proofs.Bools.{not-is-true}
use Rattle.parentheses.specs.Bits.{bits}
use Rattle.parentheses.specs.Rank.{rank}
use Rattle.parentheses.specs.Subtree.{after}
use Rattle.parentheses.specs.Close.{close}
use Rattle.parentheses.proofs.Ranks.{rank-le}
use Rattle.parentheses.proofs.PackedLaws.{bits-length}
use Rattle.parentheses.proofs.Founds.{some-found, none-found}
use Rattle.containment.proofs.Ends.{end-closed, end-unclosed, end-leaf}
use Rattle.containment.proofs.end_of.Goals as goal

pub overflow_add-result : goal.overflow_add-result
overflow_add-result c =
    let small : c.args.q.0 < 65536 = omega (arith, rank-le (bits c.args.parens.now) c.args.p, c.requires.0, c.requires.1, c.requires.3) in
    omega (arith, small)

pub returns-then-is_leaf : goal.returns-then-is_leaf
returns-then-is_leaf c =
    let in-bits : c.args.p < length (bits c.args.parens.now) = omega (arith, c.requires.0, bits-length c.args.parens.now) in
    end-leaf (bits c.args.parens.now) c.args.p in-bits c.requires.2 c.args.q.0 c.requires.3 (not-is-true _ (sym c.is_leaf.ensures ∙ c.if-is_leaf.true))

pub returns-in_default : goal.returns-in_default
returns-in_default c =
    let in-bits : c.args.p < length (bits c.args.parens.now) = omega (arith, c.requires.0, bits-length c.args.parens.now) in
    let l = c.args.parens.now in
    let u = none-found (8 * length l) (close (bits l) c.args.p) (sym c.find_close_by.ensures ∙ c.in_default.is) in
    let e : length l * 8 ≡ length (bits l) = omega (arith, bits-length l) in
    c.ones_before.ensures ∙ ap (rank (bits l)) e ∙ end-unclosed (bits l) c.args.p in-bits c.requires.2 c.args.q.0 c.requires.3 (omega (arith, bits-length l))

pub overflow_sub-result : goal.overflow_sub-result
overflow_sub-result c =
    let in-bits : c.args.p < length (bits c.args.parens.now) = omega (arith, c.requires.0, bits-length c.args.parens.now) in
    let shut : (c.args.p < c.in-Some.close) × (c.in-Some.close < 65536)
    × (c.args.q.0 + (c.in-Some.close - c.args.p + 1) / 2
    ≡ after (bits c.args.parens.now) c.args.q.0) = let l = c.args.parens.now in
    let u = some-found (8 * length l) (close (bits l) c.args.p) c.in-Some.close (sym c.find_close_by.ensures ∙ c.in-Some.is) in
    let e = end-closed (bits l) c.args.p in-bits c.requires.2 c.args.q.0 c.in-Some.close c.requires.3 u.0 (omega (arith, bits-length l)) in
    (e.0, omega (arith, c.requires.1), e.1) in
    omega (arith, shut.0)

pub overflow_add-result-2 : goal.overflow_add-result-2
overflow_add-result-2 c =
    let in-bits : c.args.p < length (bits c.args.parens.now) = omega (arith, c.requires.0, bits-length c.args.parens.now) in
    let shut : (c.args.p < c.in-Some.close) × (c.in-Some.close < 65536)
    × (c.args.q.0 + (c.in-Some.close - c.args.p + 1) / 2
    ≡ after (bits c.args.parens.now) c.args.q.0) = let l = c.args.parens.now in
    let u = some-found (8 * length l) (close (bits l) c.args.p) c.in-Some.close (sym c.find_close_by.ensures ∙ c.in-Some.is) in
    let e = end-closed (bits l) c.args.p in-bits c.requires.2 c.args.q.0 c.in-Some.close c.requires.3 u.0 (omega (arith, bits-length l)) in
    (e.0, omega (arith, c.requires.1), e.1) in
    omega (arith, shut.1)

pub overflow_add-result-3 : goal.overflow_add-result-3
overflow_add-result-3 c =
    let small : c.args.q.0 < 65536 = omega (arith, rank-le (bits c.args.parens.now) c.args.p, c.requires.0, c.requires.1, c.requires.3) in
    let in-bits : c.args.p < length (bits c.args.parens.now) = omega (arith, c.requires.0, bits-length c.args.parens.now) in
    let shut : (c.args.p < c.in-Some.close) × (c.in-Some.close < 65536)
    × (c.args.q.0 + (c.in-Some.close - c.args.p + 1) / 2
    ≡ after (bits c.args.parens.now) c.args.q.0) = let l = c.args.parens.now in
    let u = some-found (8 * length l) (close (bits l) c.args.p) c.in-Some.close (sym c.find_close_by.ensures ∙ c.in-Some.is) in
    let e = end-closed (bits l) c.args.p in-bits c.requires.2 c.args.q.0 c.in-Some.close c.requires.3 u.0 (omega (arith, bits-length l)) in
    (e.0, omega (arith, c.requires.1), e.1) in
    omega (arith, shut.1, small)

pub returns : goal.returns
returns c =
    let in-bits : c.args.p < length (bits c.args.parens.now) = omega (arith, c.requires.0, bits-length c.args.parens.now) in
    let shut : (c.args.p < c.in-Some.close) × (c.in-Some.close < 65536)
    × (c.args.q.0 + (c.in-Some.close - c.args.p + 1) / 2
    ≡ after (bits c.args.parens.now) c.args.q.0) = let l = c.args.parens.now in
    let u = some-found (8 * length l) (close (bits l) c.args.p) c.in-Some.close (sym c.find_close_by.ensures ∙ c.in-Some.is) in
    let e = end-closed (bits l) c.args.p in-bits c.requires.2 c.args.q.0 c.in-Some.close c.requires.3 u.0 (omega (arith, bits-length l)) in
    (e.0, omega (arith, c.requires.1), e.1) in
    shut.2
