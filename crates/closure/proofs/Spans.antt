-- Rows pooled at their leaders, joined by steps between leaders, and shared: each row becomes the union of those that it is related to. Over one
-- relation, for both directions of containment. Assumes nothing.
use Prim.Native.Nat.{ℕ, ◌<◌, ◌≤◌}
use mathlib.Core.Path.{◌≡◌, sym, ap, ◌∙◌}
use mathlib.Core.Logic.{◌⊎◌, inl, inr}
use mathlib.Core.Bool.{Bool, true, ◌&&◌, ◌||◌, or-false}
use mathlib.Core.List.{List}
use native.Mathlib.Decide.{ℕ_discrete}
use native.Mathlib.Omega.{arith}
use borrow.Author.Tests.{eqb-true, eq-eqb}
use lib.Dec.{eqb}
use lib.ListN.{get_or}
use Rattle.lists.specs.Any.{any_below}
use Rattle.lists.proofs.Bools.{and_both, both-and, or-either, left_or, right_or, eqb-self, same_truth, not-true}
use Rattle.lists.proofs.Anys.{below-find, below-hit}
use Rattle.matrices.specs.Matrix.{bit_of}
use Rattle.matrices.specs.Flow.{Reached, Carried}
use Rattle.matrices.specs.Led.{Led, Pooled, Shared}

-- the relation d, which orders the pieces below n and holds between a piece and its leader, is made up of steps s between leaders
pub record Spanned (s d : ℕ → ℕ → Bool) (n : ℕ) (lead : List ℕ) : Type 0 where
  pub led : Led n lead
  pub inside : (h x : ℕ) → d h x ≡ true → (h < n) × (x < n)
  pub itself : (h : ℕ) → h < n → d h h ≡ true
  pub onward : (h x y : ℕ) → d h x ≡ true → d x y ≡ true → d h y ≡ true
  pub follower : (g : ℕ) → g < n → d (get_or lead g 0) g ≡ true
  pub leader : (g : ℕ) → g < n → d g (get_or lead g 0) ≡ true
  pub sound : (h p : ℕ) → h < n → p < n → s h p ≡ true → (get_or lead h 0 ≡ h) × (get_or lead p 0 ≡ p) × (d h p ≡ true)
  pub step : (h x : ℕ) → get_or lead h 0 ≡ h → get_or lead x 0 ≡ x → (h ≡ x → ⊥) → d h x ≡ true → (p : ℕ) × (p < n) × (s h p ≡ true) × (d p x ≡ true)

module _ (s d : ℕ → ℕ → Bool) (n : ℕ) (lead : List ℕ) (S : Spanned s d n lead) where
  -- two leaders so related
  abbrev leaders : ℕ → ℕ → Bool
  leaders h x = (eqb (get_or lead h 0) h && eqb (get_or lead x 0) x) && d h x

  -- what steps reach
  abbrev pub reaches : ℕ → ℕ → Bool
  reaches h x = eqb h x || leaders h x

  leaders-hit : {h x : ℕ} → get_or lead h 0 ≡ h → get_or lead x 0 ≡ x → d h x ≡ true → leaders h x ≡ true
  leaders-hit {h} {x} a b q = both-and (both-and (eq-eqb (get_or lead h 0) h a) (eq-eqb (get_or lead x 0) x b)) q

  leaders-find : {h x : ℕ} → leaders h x ≡ true → (get_or lead h 0 ≡ h) × (get_or lead x 0 ≡ x) × (d h x ≡ true)
  leaders-find {h} {x} q =
      let a = and_both (eqb (get_or lead h 0) h && eqb (get_or lead x 0) x) (d h x) q in
      let b = and_both (eqb (get_or lead h 0) h) (eqb (get_or lead x 0) x) a.0 in
      (eqb-true (get_or lead h 0) h b.0, eqb-true (get_or lead x 0) x b.1, a.1)

  pub steps-reach : Reached s n reaches
  steps-reach = record { step = λ h x l k. same_truth _ _ (λ q. to h x (or-either (eqb h x) (leaders h x) q)) (λ q. from h x l (or-either (eqb h x) (any_below (λ p. s h p && reaches p x) n) q)) }
    where
      to : (h x : ℕ) → (eqb h x ≡ true) ⊎ (leaders h x ≡ true) → (eqb h x || any_below (λ p. s h p && reaches p x) n) ≡ true
      to h x (inl q) = left_or _ q
      to h x (inr q) = pick (leaders-find q) (ℕ_discrete h x)
        where
          pick : (get_or lead h 0 ≡ h) × (get_or lead x 0 ≡ x) × (d h x ≡ true) → Dec (h ≡ x) → (eqb h x || any_below (λ p. s h p && reaches p x) n) ≡ true
          pick f (yes e) = left_or _ (eq-eqb h x e)
          pick f (no e) =
              let p = S.step h x f.0 f.1 e f.2 in
              let b = S.sound h p.0 (S.inside h x f.2).0 p.1 p.2 in
              right_or (eqb h x) (below-hit (λ p. s h p && reaches p x) n p.0 p.1 (both-and p.2 (right_or (eqb p.0 x) (leaders-hit b.1 f.1 p.3))))

      from : (h x : ℕ) → h < n → (eqb h x ≡ true) ⊎ (any_below (λ p. s h p && reaches p x) n ≡ true) → reaches h x ≡ true
      from h x l (inl q) = left_or _ q
      from h x l (inr q) =
          let p = below-find (λ p. s h p && reaches p x) n q in
          let b = and_both (s h p.0) (reaches p.0 x) p.2 in
          pick p.0 (S.sound h p.0 l p.1 b.0) (or-either (eqb p.0 x) (leaders p.0 x) b.1)
        where
          pick : (p : ℕ) → (get_or lead h 0 ≡ h) × (get_or lead p 0 ≡ p) × (d h p ≡ true) → (eqb p x ≡ true) ⊎ (leaders p x ≡ true) → reaches h x ≡ true
          pick p f (inl e) = right_or (eqb h x) (rw (eqb-true p x e) at (leaders-hit f.0 f.1 f.2))
          pick p f (inr e) = let g = leaders-find e in right_or (eqb h x) (leaders-hit f.0 g.1 (S.onward h p x f.2 g.2))

  module _ (m m₁ m₂ m₃ : List ℕ) (small : n ≤ 2048) (P : Pooled n lead m m₁) (C : Carried reaches n m₁ m₂) (H : Shared n lead m₂ m₃) where
    -- bit y of the rows that k is related to
    abbrev union : ℕ → ℕ → Bool
    union k y = any_below (λ x. d k x && bit_of m x y) 2048

    union-hit : (k y x : ℕ) → d k x ≡ true → bit_of m x y ≡ true → union k y ≡ true
    union-hit k y x q b = below-hit (λ x. d k x && bit_of m x y) 2048 x (omega (arith, (S.inside k x q).1)) (both-and q b)

    -- what a joined row has comes from a row that is related
    comes : (h k y : ℕ) → d h k ≡ true → y < 2048 → bit_of m₂ k y ≡ true → union h y ≡ true
    comes h k y q l b =
        let x = below-find (λ x. reaches k x && bit_of m₁ x y) 2048 (sym (C.row k y (S.inside h k q).1 l) ∙ b) in
        let r = and_both (reaches k x.0) (bit_of m₁ x.0 y) x.2 in
        pooled x.0 (S.onward h k x.0 q (related x.0 (or-either (eqb k x.0) (leaders k x.0) r.0))) (or-either _ _ (sym (P.bits x.0 y x.1 l) ∙ r.1))
      where
        related : (x : ℕ) → (eqb k x ≡ true) ⊎ (leaders k x ≡ true) → d k x ≡ true
        related x (inl e) = rw (← eqb-true k x e) (S.itself k (S.inside h k q).1)
        related x (inr e) = (leaders-find e).2

        pooled : (x : ℕ) → d h x ≡ true → (bit_of m x y ≡ true) ⊎ (any_below (λ g. eqb (get_or lead g 0) x && bit_of m g y) n ≡ true) → union h y ≡ true
        pooled x t (inl e) = union-hit h y x t e
        pooled x t (inr e) =
            let g = below-find (λ g. eqb (get_or lead g 0) x && bit_of m g y) n e in
            let f = and_both (eqb (get_or lead g.0 0) x) (bit_of m g.0 y) g.2 in
            let z = eqb-true (get_or lead g.0 0) x f.0 in
            union-hit h y g.0 (S.onward h x g.0 t (rw z at (S.follower g.0 g.1))) f.1

    -- what a related row has comes to the leader's
    arrives : (h x y : ℕ) → d h x ≡ true → bit_of m x y ≡ true → y < 2048 → bit_of m₂ (get_or lead h 0) y ≡ true
    arrives h x y q b l =
        let i = S.inside h x q in
        let k : get_or lead x 0 < 2048 = omega (arith, S.led.below x i.1) in
        let r = S.onward (get_or lead h 0) h (get_or lead x 0) (S.follower h i.0) (S.onward h x (get_or lead x 0) q (S.leader x i.1)) in
        C.row (get_or lead h 0) y (S.led.below h i.0) l
        ∙ below-hit (λ v. reaches (get_or lead h 0) v && bit_of m₁ v y) 2048 (get_or lead x 0) k
        (both-and (right_or (eqb (get_or lead h 0) (get_or lead x 0)) (leaders-hit (S.led.own h i.0) (S.led.own x i.1) r))
        (P.bits (get_or lead x 0) y k l
        ∙ right_or (bit_of m (get_or lead x 0) y) (below-hit (λ g. eqb (get_or lead g 0) (get_or lead x 0) && bit_of m g y) n x i.1 (both-and (eqb-self (get_or lead x 0)) b))))

    pub joined : Carried d n m m₃
    joined = record { row = λ h y l k. H.row h y l k ∙ same_truth _ _ (λ q. to h y l k (or-either _ _ q)) (λ q. from h y k (below-find (λ x. d h x && bit_of m x y) 2048 q)); other = beyond }
      where
        to : (h y : ℕ) → h < n → y < 2048 → (bit_of m₂ h y ≡ true) ⊎ (bit_of m₂ (get_or lead h 0) y ≡ true) → union h y ≡ true
        to h y l k (inl q) = comes h h y (S.itself h l) k q
        to h y l k (inr q) = comes h (get_or lead h 0) y (S.leader h l) k q

        from : (h y : ℕ) → y < 2048 → (x : ℕ) × (x < 2048) × ((d h x && bit_of m x y) ≡ true) → (bit_of m₂ h y || bit_of m₂ (get_or lead h 0) y) ≡ true
        from h y k (x, _, q) = let b = and_both (d h x) (bit_of m x y) q in right_or (bit_of m₂ h y) (arrives h x y b.0 b.1 k)

        -- no leader lies beyond
        beyond : (h y : ℕ) → n ≤ h → h < 2048 → y < 2048 → bit_of m₃ h y ≡ bit_of m h y
        beyond h y a b c =
            H.other h y a b c ∙ C.other h y a b c ∙ P.bits h y b c
            ∙ ap (λ (t : Bool). bit_of m h y || t)
            (not-true _
            (λ t.
            let g = below-find (λ g. eqb (get_or lead g 0) h && bit_of m g y) n t in
            let e = eqb-true (get_or lead g.0 0) h (and_both (eqb (get_or lead g.0 0) h) (bit_of m g.0 y) g.2).0 in
            omega (arith, S.led.below g.0 g.1)))
            ∙ or-false (bit_of m h y)
