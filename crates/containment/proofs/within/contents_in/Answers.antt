-- `within::contents_in` meets its contract: the tables are right, so the rows are. Assumes nothing.
use borrow.Author.Rules.{rules}
use native.Mathlib.Omega.{arith}
use mathlib.Core.Path.{sym, ◌∙◌}
use Prim.Native.Nat.{◌+◌, ◌/◌, ◌≤◌}
use lib.ListN.{length}
use lib.Seq.{length-take-le}
use Rattle.containment.specs.Filling.{All}
use Rattle.containment.proofs.Rows.{seeded-rows}
use Rattle.containment.proofs.Table.{cut-room, all-open, places-turn, marked-room, shadows-stand, Table, table}
use Rattle.containment.proofs.within.contents_in.Goals as goal

pub slice_bounds-subtree_ends-end : goal.slice_bounds-subtree_ends-end
slice_bounds-subtree_ends-end g c = sym (length-take-le ((c.args.nodes + 3) / 4) c.args.parens.now (cut-room _ _ _ _ _ _ _ c.requires.4))

pub subtree_ends-requires : goal.subtree_ends-requires
subtree_ends-requires g c =
    (search rules, omega (arith, c.requires.1, c.requires.2, length-take-le ((c.args.nodes + 3) / 4) c.args.parens.now (cut-room _ _ _ _ _ _ _ c.requires.4)), all-open _ _ _ _ _ _ _ c.requires.4)

pub number_nodes-requires : goal.number_nodes-requires
number_nodes-requires g c = (c.requires.0, places-turn _ _ _ _ _ _ _ c.requires.4 _ (search rules))

pub number_shadows-requires : goal.number_shadows-requires
number_shadows-requires g c = (search rules, marked-room _ _ _ _ _ _ _ c.requires.4, shadows-stand _ _ _ _ _ _ _ c.requires.4)

pub fill_all-requires : goal.fill_all-requires
fill_all-requires g c =
    let ends-room : c.args.nodes ≤ length c.subtree_ends.new.ends = search rules in
    let room : c.args.nodes ≤ length c.number_shadows.new.turned = search rules in
    let right : Table c.args.n c.args.parens.now c.args.marks.now c.args.shadows.now c.args.places.now c.args.lead.now
    c.subtree_ends.new.ends c.number_shadows.new.turned = table _ _ _ _ _ _ _ c.requires.4 c.requires.0 _ c.number_nodes.new.turned _ ends-room room
    c.subtree_ends.ensures c.number_nodes.ensures c.number_shadows.ensures in
    let begun : All right.setting c.seed.new.rows = let R = right in seeded-rows R.setting _ _ _ R.count R.leads c.seed.ensures in
    (c.seed.auto.rows ∙ c.requires.3, record { setting = right.setting; count = right.count; leads = right.leads; from = begun })

pub returns : goal.returns
returns g c =
    let ends-room : c.args.nodes ≤ length c.subtree_ends.new.ends = search rules in
    let room : c.args.nodes ≤ length c.number_shadows.new.turned = search rules in
    let right : Table c.args.n c.args.parens.now c.args.marks.now c.args.shadows.now c.args.places.now c.args.lead.now
    c.subtree_ends.new.ends c.number_shadows.new.turned = table _ _ _ _ _ _ _ c.requires.4 c.requires.0 _ c.number_nodes.new.turned _ ends-room room
    c.subtree_ends.ensures c.number_nodes.ensures c.number_shadows.ensures in
    let begun : All right.setting c.seed.new.rows = let R = right in seeded-rows R.setting _ _ _ R.count R.leads c.seed.ensures in
    let R = right in
    R.hold _ _ (c.fill_all.ensures R.setting R.count R.leads begun) c.share_rows.ensures
