-- `reading::read_step` meets its contract. Assumes nothing.
use mathlib.Core.Path.{◌∙◌}
use Rattle.chain_pages.proofs.Finds.{step-found}
use Rattle.chain_pages.proofs.reading.read_step.Goals as goal

pub returns : goal.returns
returns c =
    step-found _ _ _ _ _ _ c.byte.ensures c.kind_by-kind.ensures c.number_behind-a.ensures c.number_behind-b.ensures c.rule_at-rule.ensures (c.from-n.ensures ∙ c.count.ensures) c.number_if-first.ensures c.number_if-second.ensures
