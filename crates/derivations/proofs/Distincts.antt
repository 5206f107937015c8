-- Runs of steps of which no two show the same, put together. Assumes nothing.
use Prim.Native.Nat.{ℕ, ◌+◌, ◌*◌, ◌≤◌, ◌<◌}
use mathlib.Core.Path.{◌≡◌, sym, ap, ap₂, subst, ◌∙◌}
use mathlib.Core.Logic.{◌⊎◌, inl, inr}
use mathlib.Core.Bool.{false, false≢true}
use mathlib.Core.List.{List}
use native.Mathlib.Omega.{arith}
use native.Mathlib.Decide.{dec_lt}
use Rattle.lists.proofs.Bools.{not-true}
use Rattle.chain_format.specs.declared.steps.Step.{Step}
use Rattle.chain_format.specs.Step.{step_at, unordered}
use Rattle.chain_format.specs.Twice.{alike, Differ}
use Rattle.chain_format.proofs.Showing.{Ends, straight, swapped, showing-kind, showing-ends}
use Rattle.derivations.specs.Written.{Edited, Put}
use Rattle.derivations.specs.Distinct.{Distinct}
use Rattle.derivations.proofs.Extending.{edited-kept}

-- ---- two steps

pub unlike-kind : (s t : Step) → (s.kind ≡ t.kind → ⊥) → alike s t ≡ false
unlike-kind s t o = not-true _ (λ e. o (showing-kind s t.kind t.a t.b e))

pub unlike-part : (s t : Step) → t.kind ≡ 1 → (s.a ≡ t.a → s.b ≡ t.b → ⊥) → alike s t ≡ false
unlike-part s t k o = not-true _ (λ e. pick (showing-ends s t.kind t.a t.b e))
  where
    pick : Ends s t.kind t.a t.b → ⊥
    pick (straight p q) = o p q
    pick (swapped u p q) = false≢true (ap unordered (sym k) ∙ u)

-- ---- runs

pub distinct_none : {Q : Step → Type 0} {c : List ℕ} {m : ℕ} → Distinct Q c m m
distinct_none = record { each = λ i l h. absurd (omega arith); differ = λ i j l h k. absurd (omega arith) }

pub distinct-one : {c c' : List ℕ} {i : ℕ} {s : Step} → Put c c' i s → Distinct (λ z. z ≡ s) c' i (i + 1)
distinct-one {c' = c'} {i = i} {s = s} p =
    record {
      each = λ j l h. let e : j ≡ i = omega arith in ap (step_at c') e ∙ p.step;
      differ = λ x y l h k. absurd (omega arith);
    }

pub distinct-weaken : {Q R : Step → Type 0} {c : List ℕ} {m m' : ℕ} → ((z : Step) → Q z → R z) → Distinct Q c m m' → Distinct R c m m'
distinct-weaken f d = record { each = λ i l h. f _ (d.each i l h); differ = d.differ }

-- later steps leave it as it is
pub distinct-kept : {Q : Step → Type 0} {c c' : List ℕ} {m m' low high : ℕ} → Edited c c' low high → 10 * m' ≤ low → Distinct Q c m m' → Distinct Q c' m m'
distinct-kept {Q} {c} {c'} {m} {m'} e l d =
    record {
      each = λ i a b. subst Q (sym (edited-kept e i (omega arith))) (d.each i a b);
      differ = λ i j a b h. ap₂ alike (edited-kept e i (omega arith)) (edited-kept e j (omega arith)) ∙ d.differ i j a b h;
    }

pub distinct-join :
    {Q R : Step → Type 0} {c : List ℕ} {m i j : ℕ} → m ≤ i → i ≤ j → ((z w : Step) → Q z → R w → alike z w ≡ false) → Distinct Q c m i → Distinct R c i j → Distinct (λ z. Q z ⊎ R z) c m j
distinct-join {Q} {R} {c} {m} {i} {j} lm li cross d f = record { each = each; differ = differ }
  where
    each : (x : ℕ) → m ≤ x → x < j → Q (step_at c x) ⊎ R (step_at c x)
    each x a b = elim (dec_lt x i) [ yes l ↦ inl (d.each x a l) | no l ↦ inr (f.each x (omega arith) b) ]

    differ : Differ c m j
    differ x y a b h =
        elim (dec_lt y i) [
          | yes l ↦ d.differ x y a b l
          | no l ↦
              elim (dec_lt x i) [
                | yes k ↦ cross _ _ (d.each x a k) (f.each y (omega arith) h)
                | no k ↦ f.differ x y (omega arith) b h
              ]
        ]
