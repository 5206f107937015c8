-- `beside_pages::put_pair` meets its contract. Assumes nothing.
use Rattle.pages.proofs.Puts.{chain}
use Rattle.beside_pages.specs.ComparisonText.{pair_line}
use Rattle.beside_pages.proofs.comparison.put_pair.Goals as goal

pub returns : goal.returns
unfolding pair_line
returns c =
    chain c.put_number-at.ensures (chain c.put_kind-at.ensures (chain c.put_number-at-2.ensures (chain c.put_number-at-3.ensures (chain c.put_answer-at.ensures (chain c.put_answer-at-2.ensures c.put_agreement.ensures)))))
