-- `change_pages::read_order` meets its contract. Assumes nothing.
use borrow.Author.Rules.{rules}
use mathlib.Core.Path.{sym, ◌∙◌}
use Rattle.change_pages.proofs.Orders.{order-wrong, order-text, order-edit}
use Rattle.change_pages.proofs.read_order.Goals as goal

pub returns-then-is_text : goal.returns-then-is_text
returns-then-is_text c = order-text _ _ _ _ c.read_words-said.ensures _ c.in-Ok.is (sym c.is_text.ensures ∙ c.if-is_text.true)

pub returns-in-Err : goal.returns-in-Err
returns-in-Err c = order-wrong _ _ _ _ c.read_words-said.ensures _ c.in-Err.is

pub returns-else-is_text : goal.returns-else-is_text
returns-else-is_text c =
    order-edit _ _ _ _ c.read_words-said.ensures _ c.in-Ok.is (sym c.is_text.ensures ∙ c.if-is_text.false) _ (search rules)
