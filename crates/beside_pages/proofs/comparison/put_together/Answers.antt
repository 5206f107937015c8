-- `beside_pages::put_together` meets its contract. Assumes nothing.
use Rattle.pages.proofs.Puts.{put_as}
use Rattle.beside_pages.proofs.ComparisonTexts.{laid, not-laid}
use Rattle.beside_pages.proofs.comparison.put_together.Goals as goal

pub returns-then-together : goal.returns-then-together
returns-then-together c = put_as (laid _ c.if-together.true) c.put.ensures

pub returns : goal.returns
returns c = put_as (not-laid _ c.if-together.false) c.put-2.ensures
