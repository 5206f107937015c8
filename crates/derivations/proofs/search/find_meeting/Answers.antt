-- `derivations::search::find_meeting` meets its contract. Assumes nothing.
use mathlib.Core.Path.{sym, subst}
use Rattle.derivations.specs.Found.{Meets}
use Rattle.derivations.proofs.Chaining.{met-common, met-sought}
use Rattle.derivations.proofs.search.find_meeting.Goals as goal

pub returns-in-Some : goal.returns-in-Some
returns-in-Some c =
    subst (Meets _ _ _ _ _) (sym c.meeting_in.ensures) (met-common c.requires.0 c.requires.1 c.requires.2 _ c.in-Some.ensures.0 c.in-Some.ensures.1)

pub returns : goal.returns
returns c = met-sought c.requires.0 c.requires.1 c.requires.2 _ c.in_default.ensures c.find_witness.ensures
