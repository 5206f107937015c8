-- `commands::find` meets its contract, row by row. Assumes nothing.
use Rattle.std.proofs.Common.{sym, ◌∙◌}
use Rattle.commands.proofs.Names.{here, beyond, past}
use Rattle.commands.proofs.find.Goals as goal

pub returns-then-eq : goal.returns-then-eq
returns-then-eq c = sym (c.loop-name.invariant ∙ here _ _ _ _ c.loop-name-test.true (sym c.eq.ensures ∙ c.if-eq.true))

pub loop-name-preserved : goal.loop-name-preserved
loop-name-preserved c = c.loop-name.invariant ∙ beyond _ _ _ _ c.loop-name-test.true (sym c.eq.ensures ∙ c.if-eq.false)

pub returns : goal.returns
returns c = sym (c.loop-name.invariant ∙ past _ _ _ c.loop-name-test.false)
