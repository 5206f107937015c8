-- `derivations::kinds::chain_part` meets its contract. Assumes nothing.
use mathlib.Core.Path.{sym, ◌∙◌}
use Rattle.rules.specs.Fact.{PART}
use Rattle.derivations.proofs.Grounds.{mark-there, setting, bit-inside, void-read, part_none}
use Rattle.derivations.proofs.Chaining.{chained-none, chained-some, part-marked}
use native.Mathlib.Omega.{arith}
use Rattle.derivations.proofs.kinds.chain_part.Goals as goal

pub unwrap-i-requires : goal.unwrap-i-requires
unwrap-i-requires c = mark-there _ _ _ (void-read c.requires.0 _ _ c.has.ensures ∙ c.if-has.true) c.find_mark.ensures

pub returns-then-has : goal.returns-then-has
returns-then-has c = part-marked c.requires.0 c.requires.1 c.requires.2 _ c.find_mark.ensures c.unwrap-i.ensures c.put_step.ensures

pub returns-then-not-test : goal.returns-then-not-test
returns-then-not-test c =
    chained-none c.requires.0 (part_none c.requires.0 c.requires.1 c.requires.2 (void-read c.requires.0 _ _ c.has.ensures ∙ c.if-has.false) (sym c.test.ensures ∙ c.if-not-test.true))

pub show_part-requires : goal.show_part-requires
show_part-requires c =
    (setting c.requires.0, c.requires.1, c.requires.2, bit-inside c.requires.0 c.requires.1 c.requires.2 (sym c.test.ensures ∙ c.if-not-test.false), c.requires.3, omega arith)

pub returns : goal.returns
returns c =
    chained-some c.requires.0 (PART _ _) (c.requires.1, c.requires.2) c.show_part.ensures.writes c.show_part.ensures.differ (omega arith)
