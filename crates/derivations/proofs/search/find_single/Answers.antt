-- `derivations::search::find_single` meets its contract. Assumes nothing.
use mathlib.Core.Path.{sym, ◌∙◌}
use Rattle.derivations.proofs.Singles.{single-top, single-cited}
use native.Mathlib.Omega.{arith}
use Rattle.derivations.proofs.search.find_single.Goals as goal

pub returns-then-shows : goal.returns-then-shows
returns-then-shows c = single-top c.requires.0 c.requires.1 c.requires.2 (sym c.shows.ensures ∙ c.if-shows.true)

pub returns-then-cites : goal.returns-then-cites
returns-then-cites c =
    single-cited c.requires.0 c.requires.1 c.requires.2 _ (omega (arith, c.requires.3, c.loop-i-test.true)) (sym c.cites.ensures ∙ c.if-cites.true)
