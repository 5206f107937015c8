use mathlib.Core.Path.{◌∙◌}
use Rattle.piecebook.proofs.Listings.{counted-written, counted-refused}
use Rattle.piecebook.proofs.catalogs.counted_of.Goals as goal

pub returns-in-Ok : goal.returns-in-Ok
returns-in-Ok c = counted-written _ _ c.in-Ok.is

pub returns-in-Err : goal.returns-in-Err
returns-in-Err c = counted-refused _ _ _ _ c.in-Err.is (c.from.ensures ∙ c.refusal_number.ensures)
