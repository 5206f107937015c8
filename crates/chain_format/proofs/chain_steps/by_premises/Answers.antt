-- `chain_steps::by_premises` meets its contract: each rule at the only pieces of which it can hold. Assumes nothing.
use mathlib.Core.Path.{sym, ◌∙◌}
use Rattle.std.proofs.Common.{arith}
use Rattle.chain_format.proofs.Somes.{some-none}
use Rattle.chain_format.proofs.Asked.{unpremised}
use Rattle.chain_format.proofs.Solved.{solved-a, solved-b, solved-a', solved-b', solved-c', solved-d'}
use Rattle.chain_format.proofs.chain_steps.by_premises.Goals as goal

pub returns-in-1 : goal.returns-in-1
returns-in-1 c = c.by_rule.ensures ∙ solved-a _ _ _ _ c.in-1.is

pub returns-in-2 : goal.returns-in-2
returns-in-2 c = c.by_rule-in-2.ensures ∙ solved-b _ _ _ _ _ c.in-2.is c.other.ensures

pub returns-in-5 : goal.returns-in-5
returns-in-5 c = c.by_rule-in-5.ensures ∙ solved-a' _ _ _ _ c.in-5.is

pub returns-in-6 : goal.returns-in-6
returns-in-6 c = c.by_rule-in-6.ensures ∙ solved-b' _ _ _ _ c.in-6.is

pub returns-in-7 : goal.returns-in-7
returns-in-7 c = c.by_rule-in-7.ensures ∙ solved-c' _ _ _ _ _ c.in-7.is c.other-in-7.ensures

pub returns-in-8 : goal.returns-in-8
returns-in-8 c = c.by_rule-in-8.ensures ∙ solved-d' _ _ _ _ _ c.in-8.is c.other-in-8.ensures

pub returns-in_default : goal.returns-in_default
returns-in_default c =
    sym (some-none _ _ (unpremised _ _ _ c.args.s.rule (omega arith) (omega arith) (omega arith) (omega arith) (omega arith) (omega arith)))
