-- The line of a step is read back. Assumes nothing.
use Prim.Native.Nat.{ℕ, ◌≤◌, ◌<◌}
use mathlib.Core.Path.{◌≡◌, refl, ap, ◌∙◌}
use mathlib.Core.Bool.{true}
use mathlib.Core.List.{List, [], ◌∷◌, ◌++◌, append_assoc}
use lib.ListN.{get_or, get_or-append}
use Rattle.pages.specs.Decimal.{decimal}
use Rattle.text.specs.Number.{is_digit}
use Rattle.pages.specs.Entry.{entry}
use Rattle.sentences.specs.Words.{kind_name}
use Rattle.chain_format.specs.declared.steps.Step.{Step}
use Rattle.chain_pages.specs.StepLine.{grounds, count, step_line}
use Rattle.chain_pages.specs.Read.{after, num, kind_by, rule_in, step_in, left_in}
use Rattle.chain_pages.proofs.Gaps.{gaps, gaps-append, after_is, num-is}
use Rattle.chain_pages.proofs.Grounds.{KindRead, kind-read, RuleRead, rule-read, resting, Rested, rested, rule-peeked}

-- what every step of a chain that passes is like: what its line does not say is zero
pub record Plain (s : Step) : Type 0 where
  pub kind-low : 1 ≤ s.kind
  pub kind-high : s.kind ≤ 4
  pub known : s.rule < 12
  pub no-first : count s.rule ≡ 0 → s.first ≡ 0
  pub no_second : count s.rule ≤ 1 → s.second ≡ 0

pub record Small (s : Step) : Type 0 where
  pub a : s.a ≤ 65535
  pub b : s.b ≤ 65535
  pub first : s.first ≤ 65535
  pub second : s.second ≤ 65535

module _ (s : Step) (r : List ℕ) where
  abbrev ground : List ℕ
  ground = resting (entry s.rule grounds) s r (count s.rule)

  -- behind the step's number
  abbrev pub behind_number : List ℕ
  behind_number = 32 ∷ (kind_name s.kind ++ (32 ∷ (decimal s.a ++ (32 ∷ (decimal s.b ++ ground)))))

  pub line-is : (i : ℕ) → step_line i s ++ r ≡ decimal i ++ behind_number
  unfolding step_line
  line-is i = simp append_assoc

  module _ (p : Plain s) (m : Small s) where
    kind_ok : KindRead s.kind
    kind_ok = kind-read s.kind p.kind-low p.kind-high

    rule-ok : RuleRead s.rule
    rule-ok = rule-read s.rule p.known

    abbrev gap : List ℕ
    gap = 32 ∷ (kind_name s.kind ++ (32 ∷ []))

    gap-ok : gaps gap ≡ true
    unfolding gaps is_digit
    gap-ok = gaps-append (kind_name s.kind) (32 ∷ []) kind_ok.plain refl

    first-gap : behind_number ≡ gap ++ (decimal s.a ++ (32 ∷ (decimal s.b ++ ground)))
    first-gap = simp append_assoc

    after-a : after behind_number ≡ 32 ∷ (decimal s.b ++ ground)
    unfolding is_digit
    after-a = ap after first-gap ∙ after_is 32 (decimal s.b ++ ground) refl gap s.a gap-ok

    after-b : after (after behind_number) ≡ ground
    unfolding is_digit gaps
    after-b = ap after after-a ∙ after_is 32 _ refl (32 ∷ []) s.b refl

    num-a : num behind_number ≡ s.a
    unfolding is_digit
    num-a = ap num first-gap ∙ num-is 32 (decimal s.b ++ ground) refl gap s.a gap-ok m.a

    num-b : num (after behind_number) ≡ s.b
    unfolding is_digit gaps
    num-b = ap num after-a ∙ num-is 32 _ refl (32 ∷ []) s.b refl m.b

    kind-is : kind_by (get_or behind_number 1 0) ≡ s.kind
    kind-is = ap kind_by (get_or-append (kind_name s.kind) _ 0 0 kind_ok.some) ∙ kind_ok.by

    pub rest : Rested (entry s.rule grounds) s r (count s.rule)
    rest = rested (entry s.rule grounds) s r rule-ok.plain m.first m.second (count s.rule) rule-ok.few p.no-first p.no_second

    rule-is : rule_in (after (after behind_number)) ≡ s.rule
    rule-is = ap rule_in after-b ∙ rule-peeked s r s.rule rule-ok

    pub step-read : step_in behind_number ≡ s
    unfolding step_in
    step-read = rw (rule-is, after-b, num-a, num-b, kind-is, rest.first, rest.second)

    pub left-read : left_in behind_number ≡ rest.between ++ r
    unfolding left_in
    left-read = rw (rule-is, after-b) rest.left

    pub left-plain : gaps rest.between ≡ true
    left-plain = rest.plain
