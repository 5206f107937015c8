-- `lies` is reachability by steps up: reflexive, transitive, and exactly `Within`. Assumes nothing.
use mathlib.Core.Path.{◌≡◌, sym, ◌∙◌}
use mathlib.Core.Logic.{◌⊎◌, inl, inr, ◌↔◌}
use mathlib.Core.Bool.{Bool, true, ◌&&◌, ◌||◌}
use Prim.Native.Nat.{ℕ, zero, suc, ◌<◌, ◌≤◌}
use native.Mathlib.Omega.{arith}
use borrow.Author.Tests.{eqb-true, ltb-true, lt-ltb}
use lib.Dec.{eqb, ltb}
use Rattle.lists.proofs.Bools.{and_both, both-and, or-either, left_or, right_or, eqb-self}
use Rattle.rules.specs.Follows.{table, entry, rounds}
use Rattle.rules.proofs.Reach.{table_at, split, through, first}
use Rattle.index.specs.Pairs.{Within, self, step}
use Rattle.index.proofs.Below.{within-trans}
use Rattle.groups.specs.Groups.{lies}

-- what is asked of the stored pairs: they are of the pieces below n, and there is a piece
pub record Pairs (n : ℕ) (fact : ℕ → ℕ → Bool) : Type 0 where
  pub some : 0 < n
  pub within : (p c : ℕ) → fact p c ≡ true → (p < n) × (c < n)

-- one step up from a piece: to a stored container, or to piece 0 by rule (f)
unfoldable pub leads : ℕ → (ℕ → ℕ → Bool) → ℕ → ℕ → Bool
leads n fact g h = ltb g n && (eqb h 0 || fact g h)

module _ (n : ℕ) (fact : ℕ → ℕ → Bool) (P : Pairs n fact) where
  abbrev base : ℕ → ℕ → Bool
  base x y = eqb x y || (eqb y 0 || fact x y)

  pub leads-fact : (g h : ℕ) → fact g h ≡ true → leads n fact g h ≡ true
  unfolding leads
  leads-fact g h e = both-and (lt-ltb g n (P.within g h e).0) (right_or (eqb h 0) e)

  pub leads-top : (g : ℕ) → g < n → leads n fact g 0 ≡ true
  unfolding leads
  leads-top g l = both-and (lt-ltb g n l) (left_or (fact g 0) (eqb-self 0))

  pub leads-split : (g h : ℕ) → leads n fact g h ≡ true → (h ≡ 0) ⊎ (fact g h ≡ true)
  unfolding leads
  leads-split g h e = go (or-either (eqb h 0) (fact g h) (and_both (ltb g n) (eqb h 0 || fact g h) e).1)
    where
      go : (eqb h 0 ≡ true) ⊎ (fact g h ≡ true) → (h ≡ 0) ⊎ (fact g h ≡ true)
      go (inl t) = inl (eqb-true h 0 t)
      go (inr t) = inr t

  pub leads-in : (g h : ℕ) → leads n fact g h ≡ true → (g < n) × (h < n)
  leads-in g h e = (low, go (leads-split g h e))
    where
      low : g < n
      low = unfold leads in ltb-true g n (and_both (ltb g n) (eqb h 0 || fact g h) e).0

      go : (h ≡ 0) ⊎ (fact g h ≡ true) → h < n
      go (inl t) = omega (arith, P.some)
      go (inr t) = (P.within g h t).1

  leads-tail : (g h : ℕ) → leads n fact g h ≡ true → (eqb h 0 || fact g h) ≡ true
  unfolding leads
  leads-tail g h e = (and_both (ltb g n) (eqb h 0 || fact g h) e).1

  tail-leads : (g h : ℕ) → g < n → (eqb h 0 || fact g h) ≡ true → leads n fact g h ≡ true
  unfolding leads
  tail-leads g h l e = both-and (lt-ltb g n l) e

  pub lies-refl : (g : ℕ) → g < n → lies n fact g g ≡ true
  unfolding lies
  lies-refl g l = first n (table n base) n g g l l (table_at n base g g l l ∙ left_or (eqb g 0 || fact g g) (eqb-self g))

  pub lies-step : (g h : ℕ) → leads n fact g h ≡ true → lies n fact g h ≡ true
  unfolding lies
  lies-step g h e = let b = leads-in g h e in first n (table n base) n g h b.0 b.1 (table_at n base g h b.0 b.1 ∙ right_or (eqb g h) (leads-tail g h e))

  pub lies-trans : (g m h : ℕ) → g < n → m < n → h < n → lies n fact g m ≡ true → lies n fact m h ≡ true → lies n fact g h ≡ true
  unfolding lies
  lies-trans g m h a b c = through n (table n base) n (omega arith) g m h a c b

  pub lies_whole : (g : ℕ) → g < n → lies n fact g 0 ≡ true
  lies_whole g l = lies-step g 0 (leads-top g l)

  pub lies-fact : (g h : ℕ) → fact g h ≡ true → lies n fact g h ≡ true
  lies-fact g h e = lies-step g h (leads-fact g h e)

  pub within_in : {g h : ℕ} → Within (leads n fact) g h → g < n → h < n
  within_in self l = l
  within_in (step {g = g} {c = c} e w) l = within_in w (leads-in g c e).1

  pub within-lies : {g h : ℕ} → Within (leads n fact) g h → g < n → lies n fact g h ≡ true
  within-lies (self {g = g}) l = lies-refl g l
  within-lies (step {g = g} {c = c} {h = h} e w) l =
      let m = (leads-in g c e).1 in
      lies-trans g c h l m (within_in w m) (lies-step g c e) (within-lies w m)

  -- after each round
  shown : (k g h : ℕ) → k ≤ n → g < n → h < n → entry (rounds n k (table n base)) g h ≡ true → Within (leads n fact) g h
  unfolding rounds
  shown zero g h c l r e = go (or-either (eqb g h) (eqb h 0 || fact g h) (sym (table_at n base g h l r) ∙ e))
    where
      go : (eqb g h ≡ true) ⊎ ((eqb h 0 || fact g h) ≡ true) → Within (leads n fact) g h
      go (inl q) = rw (eqb-true g h q) self
      go (inr q) = step (tail-leads g h l q) self
  shown (suc k) g h c l r e = pick (shown k g h (omega arith) l r) (shown k g k (omega arith) l c) (shown k k h (omega arith) c r) (split n (table n base) k g h l r e)
    where
      t : ℕ → ℕ → Type 0
      t x y = entry (rounds n k (table n base)) x y ≡ true

      pick : (t g h → Within (leads n fact) g h) → (t g k → Within (leads n fact) g k) → (t k h → Within (leads n fact) k h) → t g h ⊎ (t g k × t k h) → Within (leads n fact) g h
      pick a b c (inl q) = a q
      pick a b c (inr q) = within-trans (b q.0) (c q.1)

  pub lies_within : (g h : ℕ) → g < n → h < n → lies n fact g h ≡ true → Within (leads n fact) g h
  unfolding lies
  lies_within g h l r e = shown n g h (omega arith) l r e

  -- THE THEOREM: `lies` is reachability in the book with rule (f)
  pub lies-iff : (g h : ℕ) → g < n → h < n → (lies n fact g h ≡ true) ↔ Within (leads n fact) g h
  lies-iff g h l r = (lies_within g h l r, λ w. within-lies w l)
