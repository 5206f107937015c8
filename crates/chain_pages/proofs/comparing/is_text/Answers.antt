-- `comparing::is_text` meets its contract: the text ends where the page does. Assumes nothing.
use Rattle.chain_pages.specs.ChainText.{chain_text}
use Rattle.chain_pages.proofs.Passes.{passed-more, whole-page}
use Rattle.chain_pages.proofs.comparing.is_text.Goals as goal

pub returns : goal.returns
unfolding chain_text
returns c = whole-page _ _ _ (passed-more _ _ _ _ _ _ c.pass_answer-at.ensures c.pass_steps.ensures)
