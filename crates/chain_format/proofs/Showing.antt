-- What it says that a step shows a fact. Assumes nothing.
use Prim.Native.Nat.{ℕ, zero, suc, ◌-◌, ◌≤◌, ◌<◌}
use mathlib.Core.Path.{◌≡◌, refl, sym, ap, subst, ◌∙◌}
use mathlib.Core.Logic.{◌⊎◌, inl, inr}
use mathlib.Core.Bool.{Bool, true, ◌&&◌, false≢true}
use mathlib.Core.List.{List}
use native.Mathlib.Omega.{arith}
use lib.Dec.{eqb}
use borrow.Author.Tests.{eqb-true, eq-eqb}
use Rattle.lists.proofs.Bools.{and_both, both-and, or-either, left_or, right_or}
use Rattle.rules.specs.Fact.{Fact, PART, APART, MEETS, NOTPART, kind, left, right, fact_of, opposite, Within}
use Rattle.rules.specs.Derives.{Derives, apart-turn, meets-turn}
use Rattle.rules.proofs.Facts.{remake}
use Rattle.chain_format.specs.declared.steps.Step.{Step}
use Rattle.chain_format.specs.Step.{unordered, showing, shows}

-- the step's pieces are a and b, in this order or, of an unordered kind, in the other
pub data Ends (s : Step) (k a b : ℕ) : Type 0 where
  straight : s.a ≡ a → s.b ≡ b → Ends s k a b
  swapped : unordered k ≡ true → s.a ≡ b → s.b ≡ a → Ends s k a b

module _ (s : Step) (k a b : ℕ) where
  pub showing-kind : showing s k a b ≡ true → s.kind ≡ k
  unfolding showing
  showing-kind e = eqb-true _ _ (and_both (eqb s.kind k) _ e).0

  pub showing-ends : showing s k a b ≡ true → Ends s k a b
  unfolding showing
  showing-ends e = pick (or-either _ _ (and_both (eqb s.kind k) _ e).1)
    where
      pick : ((eqb s.a a && eqb s.b b) ≡ true) ⊎ ((unordered k && (eqb s.a b && eqb s.b a)) ≡ true) → Ends s k a b
      pick (inl h) = let p = and_both _ _ h in straight (eqb-true _ _ p.0) (eqb-true _ _ p.1)
      pick (inr h) =
          let u = and_both (unordered k) _ h in
          let p = and_both _ _ u.1 in
          swapped u.0 (eqb-true _ _ p.0) (eqb-true _ _ p.1)

  pub ends-show : s.kind ≡ k → Ends s k a b → showing s k a b ≡ true
  unfolding showing
  ends-show e (straight p q) = both-and (eq-eqb _ _ e) (left_or _ (both-and (eq-eqb _ _ p) (eq-eqb _ _ q)))
  ends-show e (swapped u p q) =
      both-and (eq-eqb _ _ e) (right_or (eqb s.a a && eqb s.b b) (both-and u (both-and (eq-eqb _ _ p) (eq-eqb _ _ q))))

-- a step about pieces below n shows only such facts
pub shown-within : {n : ℕ} (s : Step) (f : Fact) → s.a < n → s.b < n → shows s f ≡ true → Within n f
shown-within {n} s f l m e = pick (showing-ends s _ _ _ e)
  where
    pick : Ends s (kind f) (left f) (right f) → Within n f
    pick (straight p q) = (subst (λ x. x < n) p l, subst (λ x. x < n) q m)
    pick (swapped u p q) = (subst (λ x. x < n) q m, subst (λ x. x < n) p l)

-- two facts that one step shows follow from each other
module _ {void : ℕ → Bool} {n : ℕ} {fs : List Fact} where
  turned : (f : Fact) → unordered (kind f) ≡ true → Derives void n fs f → Derives void n fs (fact_of (kind f) (right f) (left f))
  unfolding fact_of
  turned (PART a b) u d = absurd (false≢true u)
  turned (APART a b) u d = apart-turn d
  turned (MEETS a b) u d = meets-turn d
  turned (NOTPART a b) u d = absurd (false≢true u)

  pub shown-same : (s : Step) (f g : Fact) → shows s f ≡ true → shows s g ≡ true → Derives void n fs f → Derives void n fs g
  shown-same s f g x y d = pick (showing-ends s _ _ _ x) (showing-ends s _ _ _ y)
    where
      k : kind g ≡ kind f
      k = sym (showing-kind s _ _ _ y) ∙ showing-kind s _ _ _ x

      same : left g ≡ left f → right g ≡ right f → Derives void n fs g
      same p q = subst (Derives void n fs) (let e = remake f in let h = remake g in let j = k in cc) d

      other : unordered (kind f) ≡ true → left g ≡ right f → right g ≡ left f → Derives void n fs g
      other u p q = subst (Derives void n fs) (let h = remake g in let j = k in cc) (turned f u d)

      pick : Ends s (kind f) (left f) (right f) → Ends s (kind g) (left g) (right g) → Derives void n fs g
      pick (straight p q) (straight v w) = same (sym v ∙ p) (sym w ∙ q)
      pick (straight p q) (swapped u v w) = other (ap unordered (sym k) ∙ u) (sym w ∙ q) (sym v ∙ p)
      pick (swapped u p q) (straight v w) = other u (sym v ∙ p) (sym w ∙ q)
      pick (swapped u p q) (swapped t v w) = same (sym w ∙ q) (sym v ∙ p)

-- a step shows the opposite of a fact of kind k by the number 5 - k
pub shows-opposite : (x : Step) (k a b : ℕ) → 1 ≤ k → k ≤ 4 → showing x (5 - k) a b ≡ shows x (opposite (fact_of k a b))
unfolding fact_of
shows-opposite x zero a b l h = absurd (omega arith)
shows-opposite x (suc zero) a b l h = refl
shows-opposite x (suc (suc zero)) a b l h = refl
shows-opposite x (suc (suc (suc zero))) a b l h = refl
shows-opposite x (suc (suc (suc (suc zero)))) a b l h = refl
shows-opposite x (suc (suc (suc (suc (suc k))))) a b l h = absurd (omega arith)
