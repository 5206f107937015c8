-- `packed::lowest_of` meets its contract.
-- Assumes nothing.
use mathlib.Core.Path.{ap, ◌∙◌}
use mathlib.Core.List.{List}
use Prim.Native.Nat.{ℕ}
use lib.IntN.{ℤ, pos}
use lib.ListN.{get_or}
use mir.Syntax.{w8}
use mir.ValLaws.{to_z-of_z}
use Rattle.lists.proofs.Tabs.{tab-at}
use Rattle.parentheses.specs.Tables.{lowest_of}
use Rattle.parentheses.proofs.packed.lowest_of.Goals as goal

pub returns : goal.returns
returns c =
    let b = c.args.b in
    let t = c.args.table.now in
    to_z-of_z w8 (get_or t c.from.result (pos 0)) (record { sfits = c.result-1.given }) ∙ ap (λ (i : ℕ). get_or t i (pos 0)) c.from.ensures
    ∙ ap (λ (x : List ℤ). get_or x b (pos 0)) c.requires ∙ tab-at lowest_of 256 b (pos 0) c.ranges.b.fits
