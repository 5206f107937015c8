-- `lines::put_chain` meets its contract: one text behind the other. Assumes nothing.
use mathlib.Core.Path.{ap}
use Rattle.pages.proofs.Puts.{chain, put_as}
use Rattle.chain_pages.specs.ChainText.{chain_text}
use Rattle.chain_pages.specs.AnswerLine.{answer_line}
use Rattle.chain_pages.proofs.lines.put_chain.Goals as goal

pub returns : goal.returns
unfolding chain_text
returns c = chain (put_as (ap (answer_line _) c.from.ensures) c.put_answered-at.ensures) c.put_steps.ensures
