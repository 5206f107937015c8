-- `index::place_members` meets its contract: the pieces below g have their places, and the rest is 0. Assumes nothing.
use borrow.Author.Rules.{rules}
use mathlib.Core.Path.{◌≡◌, sym, ◌∙◌}
use Prim.Native.Nat.{ℕ}
use native.Mathlib.Omega.{arith}
use native.Mathlib.Decide.{dec_lt}
use lib.ListN.{length, get_or, get_or-eq_default}
use Rattle.lists.specs.Tab.{tab}
use Rattle.lists.proofs.Tabs.{tab-at, tab-length}
use Rattle.index.proofs.Packing.{by-places}
use Rattle.index.proofs.place_members.Goals as goal

pub returns : goal.returns
returns c =
    let L = c.loop-g in
    let f : ℕ → ℕ = λ g. get_or c.args.groups.now (get_or c.args.number.now g 0) 0 in
    let same : length L.places ≡ length c.args.places.now = search rules in
    rw same at (by-places 0 L.places (tab f 0 c.args.n) (omega (arith, tab-length f 0 c.args.n))
    (λ k l. elim (dec_lt k c.args.n) [ yes h ↦ L.invariant.2 k (omega arith) ∙ sym (tab-at f c.args.n k 0 h) | no h ↦ L.invariant.3 k (omega arith) ∙ sym (get_or-eq_default (tab f 0 c.args.n) 0 {n = k} (omega (arith, tab-length f 0 c.args.n))) ]))
