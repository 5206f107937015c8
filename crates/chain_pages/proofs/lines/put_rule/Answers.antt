-- `lines::put_rule` meets its contract: the code's table is the definition's. Assumes nothing.
use Rattle.chain_pages.proofs.lines.put_rule.Goals as goal

pub returns : goal.returns
returns c = rw (← c.from.ensures) c.put_entry.ensures
