-- `pages::put_entry` meets its contract: two texts, one behind the other. Assumes nothing.
use borrow.Author.Rules.{rules}
use Rattle.pages.proofs.Puts.{chain}
use Rattle.pages.proofs.put_entry.Goals as goal

pub returns : goal.returns
returns c = search (rules, chain)
