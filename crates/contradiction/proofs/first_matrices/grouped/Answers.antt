-- `first_matrices::grouped` meets its contract: the search reads the stored PARTs. Assumes nothing.
use borrow.Author.Rules.{rules}
use Rattle.contradiction.proofs.GroupIndex.{edged, searchable}
use Rattle.contradiction.proofs.first_matrices.grouped.Goals as goal

pub group-requires : goal.group-requires
group-requires c = (searchable _ _ c.requires _ _ c.edges.ensures (search rules), search rules, search rules)

pub returns : goal.returns
returns c = c.group.ensures _ (edged _ _ c.requires _ c.edges.ensures)
