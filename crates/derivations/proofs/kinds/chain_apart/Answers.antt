-- `derivations::kinds::chain_apart` meets its contract. Assumes nothing.
use mathlib.Core.Path.{refl, ◌∙◌}
use mathlib.Core.Logic.{inl, inr}
use Rattle.derivations.proofs.Grounds.{small, setting, void-read, apart_none}
use Rattle.derivations.proofs.Chaining.{chained-none, apart-marked, apart-routed, apart-chained}
use native.Mathlib.Omega.{arith}
use Rattle.derivations.proofs.kinds.chain_apart.Goals as goal

pub void_step-requires : goal.void_step-requires
void_step-requires c =
    let l = small c.requires.0 in (void-read c.requires.0 _ _ c.has.ensures ∙ c.if-has.true, c.requires.0.few, omega (arith, c.requires.1), omega (arith, c.requires.2), c.requires.3)

pub returns-then-has : goal.returns-then-has
returns-then-has c = apart-marked c.requires.0 c.requires.1 c.requires.2 _ (inl refl) c.void_step.ensures

pub void_step-requires-then-has-2 : goal.void_step-requires-then-has-2
void_step-requires-then-has-2 c =
    let l = small c.requires.0 in (void-read c.requires.0 _ _ c.has-2.ensures ∙ c.if-has-2.true, c.requires.0.few, omega (arith, c.requires.1), omega (arith, c.requires.2), c.requires.3)

pub returns-then-has-2 : goal.returns-then-has-2
returns-then-has-2 c = apart-marked c.requires.0 c.requires.1 c.requires.2 _ (inr refl) c.void_step-then-has-2.ensures

pub returns-in_default : goal.returns-in_default
returns-in_default c =
    chained-none c.requires.0 (apart_none c.requires.0 c.requires.1 c.requires.2 (void-read c.requires.0 _ _ c.has.ensures ∙ c.if-has.false) (void-read c.requires.0 _ _ c.has-2.ensures ∙ c.if-has-2.false) c.in_default.ensures)

pub show_fact-requires : goal.show_fact-requires
show_fact-requires c =
    let w = c.in-Some.ensures in (setting c.requires.0, w.grounded, w.shown, apart-routed c.requires.0 c.requires.1 c.requires.2 w, c.requires.3, omega arith)

pub returns : goal.returns
returns c =
    apart-chained c.requires.0 c.requires.1 c.requires.2 (void-read c.requires.0 _ _ c.has.ensures ∙ c.if-has.false) c.in-Some.ensures c.show_fact.ensures
