-- `reading::place_of` meets its contract. Assumes nothing.
use native.Mathlib.Omega.{arith}
use Prim.Native.Nat.{◌%◌, ℕ}
use mathlib.Core.Path.{◌≡◌, refl, sym, ap, ◌∙◌}
use lib.ListN.{length}
use Rattle.chain_pages.proofs.Finds.{place_here, place-next, place_none}
use Rattle.chain_pages.proofs.reading.place_of.Goals as goal

pub loop-i-init : goal.loop-i-init
loop-i-init c = refl

pub returns-then-table-i : goal.returns-then-table-i
returns-then-table-i c =
    c.low.ensures ∙ ap (λ (k : ℕ). k % 256) (sym (place_here c.args.table.now c.args.x c.loop-i.i (omega arith) c.if-table-i.true) ∙ c.loop-i.invariant)

pub loop-i-preserved : goal.loop-i-preserved
loop-i-preserved c = sym (place-next c.args.table.now c.args.x c.loop-i.i (omega arith) c.if-table-i.false) ∙ c.loop-i.invariant

pub returns : goal.returns
returns c =
    let e : length c.args.table.now ≡ c.loop-i.i = omega arith in
    c.low-2.ensures ∙ ap (λ (k : ℕ). k % 256) (e ∙ sym (place_none c.args.table.now c.args.x c.loop-i.i (omega arith)) ∙ c.loop-i.invariant)
