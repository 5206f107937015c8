-- `lines::count` meets its contract: the code's list is the definition's, and there is nothing behind it. Assumes nothing.
use mathlib.Core.Path.{sym, ap, ◌∙◌}
use lib.ListN.{get_or, get_or-eq_default}
use Rattle.chain_pages.specs.StepLine as on
use Rattle.chain_pages.proofs.lines.count.Goals as goal

pub returns-then-i-lt12 : goal.returns-then-i-lt12
unfolding on.count
returns-then-i-lt12 c = ap (λ n. get_or on.counts n 0) c.from-i.ensures

pub returns-else-i-lt12 : goal.returns-else-i-lt12
unfolding on.count
returns-else-i-lt12 c = sym (get_or-eq_default on.counts 0 c.if-i-lt12.false) ∙ ap (λ n. get_or on.counts n 0) c.from-i.ensures
