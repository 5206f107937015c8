-- The steps of a way up: no two show the same, since the ranks of its pieces fall. Assumes nothing.
use Prim.Native.Nat.{ℕ, suc, ◌+◌, ◌-◌, ◌*◌, ◌≤◌, ◌<◌}
use mathlib.Core.Path.{◌≡◌, refl, sym, ap, subst, ◌∙◌}
use mathlib.Core.Logic.{◌⊎◌, inl, inr}
use mathlib.Core.Bool.{Bool, true, false}
use mathlib.Core.List.{List}
use native.Mathlib.Omega.{arith}
use native.Mathlib.Decide.{ℕ_discrete}
use lib.Dec.{eqb}
use lib.ListN.{get_or}
use Rattle.chain_format.specs.declared.steps.Step.{Step}
use Rattle.chain_format.specs.Twice.{alike}
use Rattle.derivations.specs.Written.{Edited, Put}
use Rattle.derivations.specs.Hops.{Way, arrived, onward, hop_by, hop_step}
use Rattle.derivations.specs.Distinct.{Distinct, Upward, Rank, there, above, Rising}
use Rattle.derivations.proofs.Hopping.{stating}
use Rattle.derivations.proofs.Distincts.{unlike-part, distinct-one, distinct-weaken, distinct-kept, distinct-join}

-- a step says x PART y
abbrev Says : ℕ → ℕ → Step → Type 0
Says x y s = (s.kind ≡ 1) × (s.a ≡ x) × (s.b ≡ y)

hop-says : (x y source : ℕ) (s : Step) → s ≡ hop_step x y source → Says x y s
unfolding hop_step
hop-says x y source s e = subst (Says x y) (sym e) (pick (eqb source 65535))
  where
    pick : (b : Bool) → Says x y (hop_by b x y source)
    pick true = (refl, refl, refl)
    pick false = (refl, refl, refl)

joined_says : (g y i j : ℕ) (s : Step) → s ≡ stating 1 g y i j → Says g y s
joined_says g y i j s e = subst (Says g y) (sym e) (refl, refl, refl)

-- ---- ranks

pub rank_same : {hop : List ℕ} {k x l r : ℕ} → Rank hop k x l → Rank hop k x r → l ≡ r
rank_same (there e) (there f) = refl
rank_same (there e) (above o q) = absurd (o e)
rank_same (above o p) (there f) = absurd (o f)
rank_same (above o p) (above u q) = ap suc (rank_same p q)

pub way-rank : {hop : List ℕ} {k x l : ℕ} → Way hop k x l → (r : ℕ) × Rank hop k x r
way-rank (arrived e) = (0, there e)
way-rank {hop} {k} {x} (onward b w) = elim (ℕ_discrete x k) [ yes q ↦ (0, there q) | no q ↦ let z = way-rank w in (suc z.0, above q z.1) ]

-- the next piece has the next rank
pub rank-next : {hop : List ℕ} {k x l : ℕ} → Rank hop k x l → (x ≡ k → ⊥) → (r : ℕ) × (l ≡ suc r) × Rank hop k (get_or hop x 0) r
rank-next (there e) o = absurd (o e)
rank-next (above {l = r} u p) o = (r, refl, p)

-- two pieces of different ranks differ
apart : {hop : List ℕ} {k x y l r : ℕ} → Rank hop k x l → Rank hop k y r → r < l → x ≡ y → ⊥
apart {hop} {k} {x} {y} {l} {r} p q h e = omega (arith, rank_same (subst (λ u. Rank hop k u l) e p) q)

module _ {hop : List ℕ} {k g : ℕ} where
  -- a hop from x to y, and the step that joins it
  pub rising-next :
      {x y l h r : ℕ} (t : ℕ) {c c₁ c₂ : List ℕ} {m i : ℕ} → m ≤ i → l < h → h ≤ r → Rank hop k x (suc l) → Rank hop k y l → Rank hop k g r → suc l < r → Upward hop k g y → Put c c₁ i (hop_step x y t)
      → Put c₁ c₂ (i + 1) (stating 1 g y (i - 1) i) → Distinct (Rising hop k g (suc l) h) c m i → Distinct (Rising hop k g l h) c₂ m (i + 2)
  rising-next {x} {y} {l} {h} {r} t {c} {c₁} {c₂} {m} {i} lm lh lr rx ry rg lg up p q d =
      let j : i + 1 + 1 ≡ i + 2 = omega arith in
      distinct-weaken all
      (distinct-join (omega arith) (omega arith) joined
      (distinct-join (omega arith) (omega arith) hopped (distinct-kept q.edited (omega arith) (distinct-kept p.edited (omega arith) d))
      (distinct-weaken (hop-says x y t) (distinct-kept q.edited (omega arith) (distinct-one p))))
      (distinct-weaken (joined_says g y (i - 1) i) (subst (Distinct (λ s. s ≡ stating 1 g y (i - 1) i) c₂ (i + 1)) j (distinct-one q))))
    where
      before : (z w : Step) (v : ℕ) → Rising hop k g (suc l) h z → Says v y w → alike z w ≡ false
      before z w v a b = unlike-part z w b.0 (λ e f. apart a.ranked ry (omega (arith, a.at_least)) (f ∙ b.2))

      hopped : (z w : Step) → Rising hop k g (suc l) h z → Says x y w → alike z w ≡ false
      hopped z w a b = before z w x a b

      joined : (z w : Step) → Rising hop k g (suc l) h z ⊎ Says x y z → Says g y w → alike z w ≡ false
      joined z w (inl a) b = before z w g a b
      joined z w (inr a) b = unlike-part z w b.0 (λ e f. apart rg rx (omega arith) (sym b.1 ∙ sym e ∙ a.1))

      here : (v : ℕ) (z : Step) → Says v y z → Rising hop k g l h z
      here v z a =
          record {
            part = a.0;
            rank = l;
            at_least = omega arith;
            less = lh;
            ranked = subst (λ w. Rank hop k w l) (sym a.2) ry;
            upward = subst (Upward hop k g) (sym a.2) up;
          }

      all : (z : Step) → (Rising hop k g (suc l) h z ⊎ Says x y z) ⊎ Says g y z → Rising hop k g l h z
      all z (inl (inl a)) = record { part = a.part; rank = a.rank; at_least = omega (arith, a.at_least); less = a.less; ranked = a.ranked; upward = a.upward }
      all z (inl (inr a)) = here x z a
      all z (inr a) = here g z a

  -- the first hop, from g to y, and the way up from there
  pub rising-first :
      {y l : ℕ} (t : ℕ) {c c₁ c₂ : List ℕ} {m i high : ℕ} → m + 1 ≤ i → Rank hop k y l → Upward hop k g y → Put c c₁ m (hop_step g y t) → Edited c₁ c₂ (10 * (m + 1)) high
      → Distinct (Rising hop k g 0 l) c₂ (m + 1) i → Distinct (λ z. (z.kind ≡ 1) × Upward hop k g z.b) c₂ m i
  rising-first {y} {l} t {c} {c₁} {c₂} {m} {i} lm ry up p e d =
      distinct-weaken all (distinct-join (omega arith) (omega arith) first (distinct-weaken (hop-says g y t) (distinct-kept e (omega arith) (distinct-one p))) d)
    where
      first : (z w : Step) → Says g y z → Rising hop k g 0 l w → alike z w ≡ false
      first z w a b = unlike-part z w b.part (λ e f. apart ry b.ranked b.less (sym a.2 ∙ f))

      all : (z : Step) → Says g y z ⊎ Rising hop k g 0 l z → (z.kind ≡ 1) × Upward hop k g z.b
      all z (inl a) = (a.0, subst (Upward hop k g) (sym a.2) up)
      all z (inr b) = (b.part, b.upward)
