-- `beside_pages::put_entry` meets its contract. Assumes nothing.
use Rattle.pages.proofs.Puts.{chain, put_as}
use Rattle.beside_pages.proofs.LogTexts.{whole-line}
use Rattle.beside_pages.proofs.log.put_entry.Goals as goal

pub returns : goal.returns
returns c =
    put_as (whole-line _ _ _ _ _ _ c.from.ensures c.from-2.ensures) (chain c.put_number-at.ensures (chain c.put_number-at-2.ensures (chain c.put_number-at-3.ensures c.put_entry.ensures)))
