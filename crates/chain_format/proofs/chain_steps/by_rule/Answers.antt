-- `chain_steps::by_rule` meets its contract: at each rule its form. Assumes nothing.
use mathlib.Core.Path.{sym, ap, ◌∙◌}
use mathlib.Core.Bool.{Bool, ◌&&◌}
use Rattle.chain_format.specs.declared.steps.Step.{Step}
use Rattle.std.proofs.Common.{arith}
use Rattle.chain_format.specs.Step.{showing}
use Rattle.chain_format.specs.declared.chain_steps.Form.{Form}
use Rattle.chain_format.proofs.Asked.{asked-a, asked-b, asked-a', asked-b', asked-c', asked-d', unpremised}
use Rattle.chain_format.proofs.chain_steps.by_rule.Goals as goal
use Rattle.chain_format.proofs.chain_steps.by_rule.Goals.{in-1, in-2, in-5, in-6, in-7, in-8}

-- what `follows` ensures of a form
abbrev told : Step → Step → Step → Form → Bool
told s p q f =
    showing s f.2.0 f.2.1 f.2.2 && (showing p f.0.0 f.0.1 f.0.2 && showing q f.1.0 f.1.1 f.1.2)

pub returns-in_default : goal.returns-in_default
returns-in_default c =
    sym (unpremised _ _ _ c.args.s.rule (omega arith) (omega arith) (omega arith) (omega arith) (omega arith) (omega arith) _ _ _)

pub returns : goal.returns
returns c =
    let a = c.args in
    let f = told a.s a.p a.q in
    c.follows.ensures
    ∙ elim c.match-s.branch [
      | in-1 w ↦ ap f w.form-is ∙ asked-a _ _ _ _ _ _ _ (cc)
      | in-2 w ↦ ap f w.form-is ∙ asked-b _ _ _ _ _ _ _ (cc)
      | in-5 w ↦ ap f w.form-is ∙ asked-a' _ _ _ _ _ _ _ (cc)
      | in-6 w ↦ ap f w.form-is ∙ asked-b' _ _ _ _ _ _ _ (cc)
      | in-7 w ↦ ap f w.form-is ∙ asked-c' _ _ _ _ _ _ _ (cc)
      | in-8 w ↦ ap f w.form-is ∙ asked-d' _ _ _ _ _ _ _ (cc)
    ]
