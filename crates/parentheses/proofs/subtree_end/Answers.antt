-- `parentheses::subtree_end` meets its contract.
-- Assumes nothing.
use mathlib.Core.Path.{◌≡◌, sym, ap, ◌∙◌}
use Prim.Native.Nat.{◌*◌, ◌^◌, ◌%◌}
use borrow.Author.Rules.{rules}
use native.Mathlib.Omega.{arith}
use lib.ListN.{length}
use Rattle.parentheses.specs.Bits.{bits}
use Rattle.parentheses.specs.Rank.{rank, select}
use Rattle.parentheses.specs.Close.{close}
use Rattle.parentheses.proofs.PackedLaws.{bits-length}
use Rattle.parentheses.proofs.Founds.{some-found, none-found}
use Rattle.parentheses.proofs.Subtrees.{select-one, after-missing, after-unclosed, after-closed}
use Rattle.parentheses.proofs.subtree_end.Goals as goal

pub returns-in_default : goal.returns-in_default
returns-in_default c =
    let a = c.args in
    let l = a.bytes.now in
    let s = none-found (8 * length l) (select (bits l) a.place) (sym c.select.ensures ∙ c.in_default.is) in
    let e : length l * 2 ^ 3 % 2 ^ 64 ≡ length (bits l) = omega (arith, bits-length l) in
    c.ones_before.ensures ∙ ap (rank (bits l)) e ∙ sym (after-missing (bits l) a.place (omega (arith, bits-length l)))

pub find_close-requires : goal.find_close-requires
find_close-requires c =
    let a = c.args in
    let l = a.bytes.now in
    let o = c.in-Some.open in
    let s = some-found (8 * length l) (select (bits l) a.place) o (sym c.select.ensures ∙ c.in-Some.is) in
    (omega arith, search rules, rw (← s.0) (select-one (bits l) a.place (omega (arith, bits-length l))))

pub returns-in_default-find_close : goal.returns-in_default-find_close
returns-in_default-find_close c =
    let a = c.args in
    let l = a.bytes.now in
    let o = c.in-Some.open in
    let s = some-found (8 * length l) (select (bits l) a.place) o (sym c.select.ensures ∙ c.in-Some.is) in
    let q = none-found (8 * length l) (close (bits l) o) (sym c.find_close.ensures ∙ c.in_default-find_close.is) in
    let e : length l * 2 ^ 3 % 2 ^ 64 ≡ length (bits l) = omega (arith, bits-length l) in
    c.ones_before-in_default-find_close.ensures ∙ ap (rank (bits l)) e ∙ sym (after-unclosed (bits l) a.place (rw s.0 (omega (arith, bits-length l))))

pub ones_before-requires-2 : goal.ones_before-requires-2
ones_before-requires-2 c =
    let a = c.args in
    let l = a.bytes.now in
    let o = c.in-Some.open in
    let q = some-found (8 * length l) (close (bits l) o) c.in-Some-find_close.close (sym c.find_close.ensures ∙ c.in-Some-find_close.is) in
    omega arith

pub returns : goal.returns
returns c =
    let a = c.args in
    let l = a.bytes.now in
    let o = c.in-Some.open in
    let s = some-found (8 * length l) (select (bits l) a.place) o (sym c.select.ensures ∙ c.in-Some.is) in
    let r = c.in-Some-find_close.close in
    let q = some-found (8 * length l) (close (bits l) o) r (sym c.find_close.ensures ∙ c.in-Some-find_close.is) in
    c.ones_before-2.ensures ∙ after-closed (bits l) a.place o r s.0 q.0
