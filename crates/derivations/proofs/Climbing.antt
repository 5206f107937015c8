-- The way up, hop by hop. Assumes nothing.
use Prim.Native.Nat.{ℕ, suc, ◌+◌, ◌-◌, ◌*◌, ◌≤◌, ◌<◌}
use mathlib.Core.Path.{◌≡◌, refl, sym, ap, subst, ◌∙◌}
use mathlib.Core.Bool.{true}
use mathlib.Core.List.{List}
use native.Mathlib.Omega.{arith}
use lib.ListN.{get_or}
use Rattle.rules.specs.Fact.{PART}
use Rattle.chain_format.specs.Citing.{Cited}
use Rattle.chain_format.specs.declared.steps.Step.{Step}
use Rattle.chain_format.specs.Step.{step_at, shows}
use Rattle.chain_format.specs.Chain.{all_ok}
use Rattle.derivations.specs.Written.{Edited, Put}
use Rattle.derivations.specs.Hops.{Hop, Way, arrived, onward, Reaches, Sourced, hop_step}
use Rattle.derivations.specs.Distinct.{Distinct, Upward, begun, higher, Rank, Rising}
use Rattle.derivations.specs.Climbs.{Climbed, Contained}
use Rattle.derivations.proofs.Puts.{edited-join}
use Rattle.derivations.proofs.Extending.{edited-kept, put-ok}
use Rattle.derivations.proofs.Hopping.{stating, as-stated, hop-shows, hop-justified, itself-justified, joined-justified}
use Rattle.derivations.proofs.Distincts.{distinct_none, distinct-weaken}
use Rattle.derivations.proofs.Risings.{way-rank, rank-next, rising-next, rising-first}

-- a way that has not arrived goes on
abbrev Goes : List ℕ → ℕ → ℕ → ℕ → Type 0
Goes hop k x l = (m : ℕ) × (l ≡ suc m) × (x < 2048) × Way hop k (get_or hop x 0) m

pub goes_on : {hop : List ℕ} {k x l : ℕ} → Way hop k x l → (x ≡ k → ⊥) → Goes hop k x l
goes_on (arrived e) o = absurd (o e)
goes_on (onward {l = m} b w) o = (m, refl, b, w)

pub reaches-on : {hop : List ℕ} {k x most : ℕ} → Reaches hop k x most → (x ≡ k → ⊥) → Reaches hop k (get_or hop x 0) (most - 1) × (x < 2048)
reaches-on (l, few, w) o = let g = goes_on w o in ((g.0, omega arith, g.3), g.2)

pub reaches-next : {hop : List ℕ} {k x : ℕ} (y : ℕ) → Reaches hop k x 2047 → (x ≡ k → ⊥) → y ≡ get_or hop x 0 → Reaches hop k y 2047
reaches-next {hop} {k} y r o e = let n = (reaches-on r o).0 in (n.0, omega (arith, n.1), subst (λ u. Way hop k u n.0) (sym e) n.2)

pub first-shown : {c c₁ : List ℕ} {m : ℕ} {s : Step} (x y t : ℕ) → Put c c₁ m s → s ≡ hop_step x y t → shows (step_at c₁ (m + 1 - 1)) (PART x y) ≡ true
first-shown {c₁ = c₁} {m = m} x y t p e =
    let last : m + 1 - 1 ≡ m = omega arith in
    ap (λ (j : ℕ). shows (step_at c₁ j) (PART x y)) last ∙ ap (λ (s : Step). shows s (PART x y)) (p.step ∙ e) ∙ hop-shows x y t

-- after some hops the walk stands at x, and the last step shows g PART x
pub record Climbing (hop source : List ℕ) (k g x₀ : ℕ) (c₀ : List ℕ) (m : ℕ) (c : List ℕ) (i x : ℕ) : Type 0 where
  pub more : m ≤ i
  pub edited : Edited c₀ c (10 * m) (10 * i)
  pub left : (most : ℕ) → Reaches hop k x₀ most → (l : ℕ) × (i + 2 * l ≤ m + 2 * most) × Way hop k x l
  pub shown : shows (step_at c (i - 1)) (PART g x) ≡ true
  pub ok : (n : ℕ) (es : List Cited) → Sourced n es hop source k → x₀ < n → g < n → (x < n) × (all_ok n es c₀ m ≡ true → all_ok n es c i ≡ true)
  pub steps :
      (h r : ℕ) → Rank hop k x₀ h → Rank hop k g r → h < r → Upward hop k g x₀ → (l : ℕ) × (l ≤ h) × Rank hop k x l × Upward hop k g x × Distinct (Rising hop k g l h) c m i

module _ {hop source : List ℕ} {k g x₀ : ℕ} {c₀ : List ℕ} {m : ℕ} where
  pub climb-start : shows (step_at c₀ (m - 1)) (PART g x₀) ≡ true → Climbing hop source k g x₀ c₀ m c₀ m x₀
  climb-start s =
      record {
        more = omega arith;
        edited = record { sized = refl; below = λ j l. refl; behind = λ j l. refl };
        left = λ most r. (r.0, omega (arith, r.1), r.2);
        shown = s;
        ok = λ n es t l h. (l, λ a. a);
        steps = λ h r p q l u. (h, omega arith, p, u, distinct_none);
      }

  module _ (some : Reaches hop k x₀ 2047) {c : List ℕ} {i x : ℕ} (at : Climbing hop source k g x₀ c₀ m c i x) where
    -- there is room for two steps more
    pub climb-room : (x ≡ k → ⊥) → (x < 2048) × (i + 2 ≤ m + 4094)
    climb-room o = let r = at.left 2047 some in let w = goes_on r.2 o in (w.2, omega (arith, r.1, w.1))

    pub climb-next :
        (x ≡ k → ⊥) → 1 ≤ i → {c₁ c₂ : List ℕ} (y t : ℕ) → y ≡ get_or hop x 0 → t ≡ get_or source x 0 → Put c c₁ i (hop_step x y t) → Put c₁ c₂ (i + 1) (stating 1 g y (i - 1) i)
        → Climbing hop source k g x₀ c₀ m c₂ (i + 2) y
    climb-next o b {c₁} {c₂} y t e d p q =
        let h = at.more in
        let last : i + 2 - 1 ≡ i + 1 = omega arith in
        let hopped = edited-join (10 * m) (10 * (i + 2)) at.edited p.edited (omega arith) (omega arith) (omega arith) (omega arith) in
        let before : shows (step_at c₁ (i - 1)) (PART g x) ≡ true = ap (λ (s : Step). shows s (PART g x)) (edited-kept p.edited (i - 1) (omega arith)) ∙ at.shown in
        let now : shows (step_at c₁ i) (PART x y) ≡ true = ap (λ (s : Step). shows s (PART x y)) p.step ∙ hop-shows x y t in
        record {
          more = omega arith;
          edited = edited-join (10 * m) (10 * (i + 2)) hopped q.edited (omega arith) (omega arith) (omega arith) (omega arith);
          left = λ most r. let z = at.left most r in let w = goes_on z.2 o in (w.0, omega (arith, z.1, w.1), subst (λ u. Way hop k u w.0) (sym e) w.3);
          shown = ap (λ (j : ℕ). shows (step_at c₂ j) (PART g y)) last ∙ ap (λ (s : Step). shows s (PART g y)) q.step ∙ as-stated 1 g y (i - 1) i;
          ok = λ n es s l r.
              let z = at.ok n es s l r in
              let w = at.left 2047 some in
              let v = goes_on w.2 o in
              let f = s.each x v.0 z.0 o (subst (Way hop k x) v.1 w.2) in
              let fy : y < n = omega (arith, f.0) in
              let fact : Hop es x y t = subst (λ u. Hop es x u t) (sym e) (subst (Hop es x (get_or hop x 0)) (sym d) f.1) in
              let one = put-ok n es p (hop-justified n es i (step_at c (hop_step x y t).first) (step_at c (hop_step x y t).second) x y t z.0 fy fact) in
              let two = put-ok n es q (joined-justified n es (i + 1) (step_at c₁ (i - 1)) (step_at c₁ i) g x y (i - 1) i r fy (omega arith) (omega arith) before now) in
              let j : i + 1 + 1 ≡ i + 2 = omega arith in
              (fy, λ a. subst (λ u. all_ok n es c₂ u ≡ true) j (two (one (z.1 a))));
          steps = λ f r a b l u.
              let z = at.steps f r a b l u in
              let w = at.left 2047 some in
              let v = goes_on w.2 o in
              let way = subst (Way hop k x) v.1 w.2 in
              let s = rank-next z.2 o in
              let ry : Rank hop k y s.0 = subst (λ u. Rank hop k u s.0) (sym e) s.2 in
              let up : Upward hop k g y = higher z.3 o way e in
              let rx = subst (Rank hop k x) s.1 z.2 in
              let d = subst (λ l. Distinct (Rising hop k g l f) c m i) s.1 z.4 in
              (s.0, omega (arith, z.1, s.1), ry, up, rising-next t h (omega (arith, z.1, s.1)) (omega arith) rx ry b (omega (arith, z.1, s.1)) up p q d);
        }

    pub climb-done : x ≡ k → Climbed hop source k g x₀ c₀ m c i
    climb-done e =
        record {
          more = at.more;
          edited = at.edited;
          few = λ most r. omega (arith, (at.left most r).1);
          shown = subst (λ u. shows (step_at c (i - 1)) (PART g u) ≡ true) e at.shown;
          ok = λ n es s l r. (at.ok n es s l r).1;
          steps = λ f r a b l u.
              distinct-weaken
              (λ z d. record { part = d.part; rank = d.rank; at_least = omega arith; less = d.less; ranked = d.ranked; upward = d.upward })
              (at.steps f r a b l u).4;
        }

module _ {hop source : List ℕ} {k g : ℕ} {c c₁ : List ℕ} {m : ℕ} where
  -- g PART g
  pub contained-itself : g ≡ k → Put c c₁ m (stating 3 g g 0 0) → Contained hop source k g c m c₁ (m + 1)
  contained-itself e p =
      let last : m + 1 - 1 ≡ m = omega arith in
      record {
        more = omega arith;
        edited = record { sized = p.edited.sized; below = p.edited.below; behind = λ j l. p.edited.behind j (omega arith) };
        few = λ most l r. omega arith;
        shown =
            ap (λ (j : ℕ). shows (step_at c₁ j) (PART g k)) last ∙ ap (λ (s : Step). shows s (PART g k)) p.step
            ∙ ap (λ (u : ℕ). shows (stating 3 g g 0 0) (PART g u)) (sym e) ∙ as-stated 3 g g 0 0;
        ok = λ n es s l. put-ok n es p (itself-justified n es m (step_at c 0) (step_at c 0) g l);
        steps = λ o. absurd (o e);
      }

  -- the first hop, and the way up from there
  pub contained-above :
      (g ≡ k → ⊥) → Reaches hop k g 2047 → (y t : ℕ) → y ≡ get_or hop g 0 → t ≡ get_or source g 0 → Put c c₁ m (hop_step g y t) → {c₂ : List ℕ} {i : ℕ} → Climbed hop source k g y c₁ (m + 1) c₂ i
      → Contained hop source k g c m c₂ i
  contained-above o some y t e d p z =
      let h = z.more in
      record {
        more = omega arith;
        edited = edited-join (10 * m) (10 * _) p.edited z.edited (omega arith) (omega arith) (omega arith) (omega arith);
        few = λ most l r. omega (arith, z.few (most - 1) (subst (λ u. Reaches hop k u (most - 1)) (sym e) (reaches-on r o).0));
        shown = z.shown;
        ok = λ n es s l a.
            let v = goes_on some.2 o in
            let f = s.each g v.0 l o (subst (Way hop k g) v.1 some.2) in
            let fy : y < n = omega (arith, f.0) in
            let fact : Hop es g y t = subst (λ u. Hop es g u t) (sym e) (subst (Hop es g (get_or hop g 0)) (sym d) f.1) in
            z.ok n es s fy l (put-ok n es p (hop-justified n es m (step_at c (hop_step g y t).first) (step_at c (hop_step g y t).second) g y t l fy fact) a);
        steps = λ b.
            let v = goes_on some.2 o in
            let way = subst (Way hop k g) v.1 some.2 in
            let rg = way-rank way in
            let s = rank-next rg.1 o in
            let ry : Rank hop k y s.0 = subst (λ u. Rank hop k u s.0) (sym e) s.2 in
            let up : Upward hop k g y = begun o way e in
            rising-first t (omega arith) ry up p z.edited (z.steps s.0 rg.0 ry rg.1 (omega (arith, s.1)) up);
      }
