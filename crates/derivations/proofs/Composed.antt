-- Writers one after another. Assumes nothing.
use Prim.Native.Nat.{ℕ, ◌+◌, ◌-◌, ◌*◌, ◌≤◌}
use mathlib.Core.Path.{◌≡◌, refl, ap, ◌∙◌}
use mathlib.Core.Bool.{true}
use mathlib.Core.List.{List}
use native.Mathlib.Omega.{arith}
use Rattle.rules.specs.Fact.{Fact}
use Rattle.chain_format.specs.Citing.{Cited}
use Rattle.chain_format.specs.declared.steps.Step.{Step}
use Rattle.chain_format.specs.Step.{step_at, shows}
use Rattle.chain_format.specs.Justified.{justified}
use Rattle.derivations.specs.Written.{Edited, Put}
use Rattle.derivations.specs.Shown.{Writes, Adds}
use Rattle.derivations.proofs.Puts.{edited-join}
use Rattle.derivations.proofs.Extending.{edited-kept, put-ok}

-- what a step shows it still shows after later ones are written
pub still-shown : {c c' : List ℕ} {low high : ℕ} → Edited c c' low high → (j : ℕ) → 10 * j + 10 ≤ low → (f : Fact) → shows (step_at c j) f ≡ true → shows (step_at c' j) f ≡ true
still-shown e j l f s = ap (λ (z : Step). shows z f) (edited-kept e j l) ∙ s

pub put-shown : {c c' : List ℕ} {i : ℕ} {s : Step} → Put c c' i s → (f : Fact) → shows s f ≡ true → shows (step_at c' i) f ≡ true
put-shown p f e = ap (λ (z : Step). shows z f) p.step ∙ e

module _ {n : ℕ} {es : List Cited} where
  pub adds_none : {f : Fact} {a : ℕ} {c : List ℕ} {m : ℕ} → shows (step_at c (m - 1)) f ≡ true → Adds n es f a c m c m
  adds_none e =
      record { more = omega arith; few = omega arith; edited = record { sized = refl; below = λ j l. refl; behind = λ j l. refl }; shown = e; ok = λ z. z }

  pub adds-some : {f : Fact} {a : ℕ} {c c' : List ℕ} {m m' : ℕ} → Writes n es f a c m c' m' → Adds n es f a c m c' m'
  adds-some x = let l = x.more in record { more = omega arith; few = x.few; edited = x.edited; shown = x.shown; ok = x.ok }

  pub writes-adds :
      {f g : Fact} {a b : ℕ} {c c' c'' : List ℕ} {m m' m'' : ℕ} → Writes n es f a c m c' m' → Adds n es g b c' m' c'' m'' → Writes n es g (a + b) c m c'' m''
  writes-adds {m = m} {m'' = m''} x y =
      let l = x.more in
      let h = y.more in
      record {
        more = omega arith;
        few = omega (arith, x.few, y.few);
        edited = edited-join (10 * m) (10 * m'') x.edited y.edited (omega arith) (omega arith) (omega arith) (omega arith);
        shown = y.shown;
        ok = λ z. y.ok (x.ok z);
      }

  pub writes-after :
      {f g : Fact} {a b : ℕ} {c c' c'' : List ℕ} {m m' m'' : ℕ} → Writes n es f a c m c' m' → Writes n es g b c' m' c'' m'' → Writes n es g (a + b) c m c'' m''
  writes-after x y = writes-adds x (adds-some y)

  pub writes-put :
      {f : Fact} {a : ℕ} {c c' c'' : List ℕ} {m m' : ℕ} {s : Step} → Writes n es f a c m c' m' → Put c' c'' m' s → justified n es m' s (step_at c' s.first) (step_at c' s.second) ≡ true
      → (g : Fact) → shows s g ≡ true → Writes n es g (a + 1) c m c'' (m' + 1)
  writes-put {c'' = c''} {m = m} {m' = m'} x p j g e =
      let l = x.more in
      let last : m' + 1 - 1 ≡ m' = omega arith in
      record {
        more = omega arith;
        few = omega (arith, x.few);
        edited = edited-join (10 * m) (10 * (m' + 1)) x.edited p.edited (omega arith) (omega arith) (omega arith) (omega arith);
        shown = ap (λ (i : ℕ). shows (step_at c'' i) g) last ∙ put-shown p g e;
        ok = λ z. put-ok n es p j (x.ok z);
      }

  -- one step by itself
  pub writes_one :
      {c c' : List ℕ} {m : ℕ} {s : Step} → Put c c' m s → justified n es m s (step_at c s.first) (step_at c s.second) ≡ true → (f : Fact) → shows s f ≡ true → Writes n es f 1 c m c' (m + 1)
  writes_one {c' = c'} {m = m} p j f e =
      let last : m + 1 - 1 ≡ m = omega arith in
      record {
        more = omega arith;
        few = omega arith;
        edited = record { sized = p.edited.sized; below = p.edited.below; behind = λ b l. p.edited.behind b (omega arith) };
        shown = ap (λ (i : ℕ). shows (step_at c' i) f) last ∙ put-shown p f e;
        ok = put-ok n es p j;
      }
