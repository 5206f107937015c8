-- `showing::show_meeting` meets its contract: of a common piece, or of two. Assumes nothing.
use Rattle.derivations.proofs.Commoning.{meets-routed, spans-joined}
use Rattle.derivations.proofs.showing.show_meeting.Goals as goal

pub show_fact-requires : goal.show_fact-requires
show_fact-requires c =
    (c.requires.0, c.requires.2, c.requires.3, meets-routed c.requires.5 c.requires.6 c.requires.7 c.requires.8 c.requires.9 c.requires.10, c.requires.11, c.requires.12)

pub returns : goal.returns
returns c = spans-joined c.requires.0 c.if-w.false c.requires.5 c.requires.6 c.show_fact.ensures
