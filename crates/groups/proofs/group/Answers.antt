-- `groups::group` meets its contract. Assumes nothing.
use mathlib.Core.Path.{refl, ◌∙◌}
use Rattle.groups.specs.Search.{Searchable}
use Rattle.groups.proofs.Fits.{fit}
use Rattle.groups.proofs.Making.{arrangeable, grouped}
use Rattle.groups.proofs.group.Goals as goal

pub arrange-requires : goal.arrange-requires
arrange-requires c =
    let asked : Searchable c.args.n c.args.e.now 2048 = record { some = c.requires.0.some; few = c.requires.0.few; matrix = c.requires.0.matrix; sized = refl; crowned = c.requires.0.crowned } in
    arrangeable c.args.n c.args.e.now 2048 asked _ c.search-done.ensures _ _ _ c.number_groups-m.ensures (fit _ _ _ c.requires.0.few c.number_groups-m.auto.lead c.requires.1) _ (c.number_groups-m.auto.heads ∙ c.requires.2)

pub returns : goal.returns
returns c =
    let asked : Searchable c.args.n c.args.e.now 2048 = record { some = c.requires.0.some; few = c.requires.0.few; matrix = c.requires.0.matrix; sized = refl; crowned = c.requires.0.crowned } in
    let S = c.search-done.ensures in
    let K = c.number_groups-m.ensures in
    grouped c.args.n c.args.e.now 2048 asked _ S _ _ _ K _ 2048
    (arrangeable c.args.n c.args.e.now 2048 asked _ S _ _ _ K (fit _ _ _ c.requires.0.few c.number_groups-m.auto.lead c.requires.1) 2048 refl) c.arrange.ensures (fit _ _ _ c.requires.0.few (c.arrange.auto.order ∙ c.number_groups-m.auto.heads) c.requires.2)
