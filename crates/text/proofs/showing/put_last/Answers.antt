-- `text::showing::put_last` meets its contract. Assumes nothing.
use Rattle.pages.proofs.Puts.{chain, put_as}
use Rattle.text.proofs.Pages.{last-chosen}
use Rattle.text.proofs.showing.put_last.Goals as goal

pub returns-then-x-eq1 : goal.returns-then-x-eq1
returns-then-x-eq1 c =
    put_as (last-chosen _ _ _ c.if-x-eq1.true) (chain c.put_number-at.ensures (chain c.put-at.ensures c.put_byte.ensures))
