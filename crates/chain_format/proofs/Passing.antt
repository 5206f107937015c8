-- What each way out of the check of a chain comes to. Assumes nothing.
use Prim.Native.Nat.{ℕ, zero, suc, ◌+◌, ◌-◌, ◌%◌, ◌≤◌, ◌<◌}
use mathlib.Core.Path.{◌≡◌, refl, sym, ap, ◌∙◌}
use mathlib.Core.Bool.{Bool, true, false, ◌&&◌}
use mathlib.Core.List.{List}
use native.Mathlib.Omega.{arith}
use native.Mathlib.Nat.{le_antisymm}
use native.Mathlib.Numerals.{add-one}
use native.Mathlib.Decide.{ℕ_discrete}
use lib.Dec.{leb}
use lib.ListN.{length}
use borrow.Author.Tests.{eq-eqb, ne_eqb, le-leb, lt-leb, leb-true}
use Rattle.lists.proofs.Bools.{and_both, both-and}
use Rattle.rules.specs.Fact.{Fact, PART, APART, MEETS, NOTPART, kind, left, right, opposite}
use Rattle.chain_format.specs.Citing.{Cited}
use Rattle.records.specs.declared.Record.{Record}
use Rattle.records.specs.Pieces.{stated}
use Rattle.records.specs.Facts.{saying}
use Rattle.records.proofs.Accepted.{says-kind, says-left, says-right}
use Rattle.chain_format.specs.declared.steps.Step.{Step}
use Rattle.chain_format.specs.Step.{step_at, steps, showing, shows}
use Rattle.chain_format.specs.Justified.{step_ok}
use Rattle.chain_format.specs.Chain.{all_ok, concludes, chain_ok}
use Rattle.chain_format.proofs.Computed.{shows-saying}

-- the steps, one after another
module _ (n : ℕ) (es : List Cited) (c : List ℕ) where
  pub all_none : all_ok n es c 0 ≡ true
  unfolding all_ok
  all_none = refl

  pub all_more : (i : ℕ) → all_ok n es c i ≡ true → step_ok n es c i ≡ true → all_ok n es c (i + 1) ≡ true
  unfolding all_ok
  all_more i a s = rw (add-one i) (both-and s a)

  stop : (a b : Bool) → b ≡ false → (a && b) ≡ false
  stop true b e = e
  stop false b e = refl

  pub all-stop : (i m : ℕ) → i < m → step_ok n es c i ≡ false → all_ok n es c m ≡ false
  unfolding all_ok
  all-stop i zero l e = absurd (omega arith)
  all-stop i (suc m) l e =
      elim (ℕ_discrete i m) [
        | yes q ↦ rw (ap (step_ok n es c) (sym q) ∙ e)
        | no q ↦ stop (step_ok n es c m) (all_ok n es c m) (all-stop i m (omega arith) e)
      ]

  pub all_done : (i m : ℕ) → i ≤ m → m ≤ i → all_ok n es c i ≡ true → all_ok n es c m ≡ true
  all_done i m l h a = ap (all_ok n es c) (le_antisymm h l) ∙ a

-- a claim's kind
pub kind-most : (r : Record) → stated r ≡ true → r.kind ≤ 4
unfolding stated
kind-most r t = leb-true _ _ (and_both (leb 1 r.kind) _ t).1

-- the opposite of what a claim says
opposite-kind : (s : Step) (f : Fact) → showing s (5 - kind f) (left f) (right f) ≡ shows s (opposite f)
opposite-kind s (PART a b) = refl
opposite-kind s (APART a b) = refl
opposite-kind s (MEETS a b) = refl
opposite-kind s (NOTPART a b) = refl

shows-opposite : (s : Step) (r : Record) → stated r ≡ true → showing s (5 - r.kind) r.a r.b ≡ shows s (opposite (saying r))
shows-opposite s r t = rw (says-kind r t, says-left r, says-right r) at (opposite-kind s (saying r))

module _ (n : ℕ) (es : List Cited) (c : List ℕ) where
  module _ (f : Fact) where
    pub ragged-steps : (length c % 10 ≡ 0 → ⊥) → false ≡ chain_ok n es f c
    unfolding chain_ok
    ragged-steps h = simp (ne_eqb (length c % 10) 0 h)

    module _ (w : length c % 10 ≡ 0) where
      pub no_steps : steps c < 1 → false ≡ chain_ok n es f c
      unfolding chain_ok
      no_steps h = simp (eq-eqb (length c % 10) 0 w, lt-leb 1 (steps c) h)

      module _ (l : 1 ≤ steps c) where
        pub many-steps : 16400 < steps c → false ≡ chain_ok n es f c
        unfolding chain_ok
        many-steps h = simp (eq-eqb (length c % 10) 0 w, le-leb 1 (steps c) l, lt-leb (steps c) 16400 h)

        module _ (h : steps c ≤ 16400) where
          counted : (all_ok n es c (steps c) && concludes f c) ≡ chain_ok n es f c
          unfolding chain_ok
          counted = simp (eq-eqb (length c % 10) 0 w, le-leb 1 (steps c) l, le-leb (steps c) 16400 h)

          pub bad-step : (i : ℕ) → i < steps c → step_ok n es c i ≡ false → false ≡ chain_ok n es f c
          bad-step i k e = (simp (all-stop n es c i (steps c) k e)) ∙ counted

          good-steps : all_ok n es c (steps c) ≡ true → concludes f c ≡ chain_ok n es f c
          good-steps a = (simp a) ∙ counted

  -- the last step, of justified ones
  module _ (r : Record) (t : stated r ≡ true) (w : length c % 10 ≡ 0) (l : 1 ≤ steps c) (h : steps c ≤ 16400) (a : all_ok n es c (steps c) ≡ true) (s : Step) (e : s ≡ step_at c (steps c - 1)) where
    pub ends-claim : showing s r.kind r.a r.b ≡ true → true ≡ chain_ok n es (saying r) c
    unfolding concludes
    ends-claim x =
        let y : shows (step_at c (steps c - 1)) (saying r) ≡ true = ap (λ (z : Step). shows z (saying r)) (sym e) ∙ sym (shows-saying s r t) ∙ x in
        (simp y) ∙ good-steps (saying r) w l h a

    pub ends-opposite : showing s r.kind r.a r.b ≡ false → showing s (5 - r.kind) r.a r.b ≡ chain_ok n es (saying r) c
    unfolding concludes
    ends-opposite x =
        let y : shows (step_at c (steps c - 1)) (saying r) ≡ false = ap (λ (z : Step). shows z (saying r)) (sym e) ∙ sym (shows-saying s r t) ∙ x in
        let z : showing s (5 - r.kind) r.a r.b ≡ shows (step_at c (steps c - 1)) (opposite (saying r)) = shows-opposite s r t ∙ ap (λ (z : Step). shows z (opposite (saying r))) e in
        z ∙ (simp y) ∙ good-steps (saying r) w l h a
