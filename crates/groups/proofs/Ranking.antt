-- Numbering the classes: one piece more. Assumes nothing.
use mathlib.Core.Path.{◌≡◌, refl, sym, ap, ◌∙◌}
use mathlib.Core.Logic.{◌⊎◌, inl, inr}
use mathlib.Core.Bool.{true, false}
use mathlib.Core.List.{List}
use Prim.Native.Nat.{ℕ, suc, ◌+◌, ◌<◌, ◌≤◌}
use native.Mathlib.Numerals.{add-one}
use native.Mathlib.Decide.{ℕ_discrete}
use native.Mathlib.Omega.{arith}
use borrow.Author.Tests.{eqb-true, eq-eqb, ne_eqb}
use lib.Dec.{eqb}
use lib.ListN.{length, get_or, set, replicate, get_or-replicate}
use lib.Seq.{get_or-set_same, get_or-set_other}
use Rattle.lists.specs.First.{first}
use Rattle.lists.specs.Tally.{tally}
use Rattle.lists.proofs.Firsts.{Hit, hits, first-is}
use Rattle.groups.specs.Ranks.{lowest_by, first_by, number_by}

-- one entry more of a list that f says
pub set_more : (f : ℕ → ℕ) (l : List ℕ) (g x : ℕ) → g < length l → x ≡ f g → ((h : ℕ) → h < g → get_or l h 0 ≡ f h) → (h : ℕ) → h < g + 1 → get_or (set l g x) h 0 ≡ f h
set_more f l g x room e old h a = go (ℕ_discrete h g)
  where
    go : Dec (h ≡ g) → get_or (set l g x) h 0 ≡ f h
    go (yes q) = rw q (get_or-set_same l g x 0 room ∙ e)
    go (no q) = get_or-set_other l g h x 0 q ∙ old h (omega arith)

module _ (n : ℕ) (done : ℕ → ℕ) where
  hit : (g h : ℕ) → h < n → done g ≡ done h → Hit (λ x. eqb (done g) (done x)) 0 (lowest_by n done g) h
  unfolding lowest_by
  hit g h l e = hits (λ x. eqb (done g) (done x)) 0 n h (omega arith) (omega arith) (eq-eqb (done g) (done h) e)

  -- one class, one lowest piece and one number
  pub same-lowest-by : (g h : ℕ) → done g ≡ done h → lowest_by n done g ≡ lowest_by n done h
  unfolding lowest_by
  same-lowest-by g h e = ap (λ (d : ℕ). first (λ x. eqb d (done x)) 0 n) e

  pub same-number-by : (g h : ℕ) → done g ≡ done h → number_by n done g ≡ number_by n done h
  unfolding number_by
  same-number-by g h e = ap (tally (first_by n done)) (same-lowest-by g h e)

  pub lowest-by-le : (g : ℕ) → g < n → lowest_by n done g ≤ g
  lowest-by-le g l = (hit g g l refl).2

  pub lowest-by-class : (g : ℕ) → g < n → done (lowest_by n done g) ≡ done g
  lowest-by-class g l = sym (eqb-true (done g) (done (lowest_by n done g)) (hit g g l refl).0)

  lowest-new : (g : ℕ) → g < n → ((h : ℕ) → h < g → done h ≡ done g → ⊥) → lowest_by n done g ≡ g
  unfolding lowest_by
  lowest-new g l none = first-is (λ x. eqb (done g) (done x)) 0 n g (omega arith) (omega arith) (λ q a b. ne_eqb (done g) (done q) (λ e. none q b (sym e))) (eq-eqb (done g) (done g) refl)

  -- of the pieces below g none has the number f, or some has, and `heads` has its leader
  abbrev pub Head : List ℕ → ℕ → ℕ → Type 0
  Head heads g f = ((get_or heads f 0 ≡ 2048) × ((h : ℕ) → h < g → done h ≡ f → ⊥)) ⊎ ((h : ℕ) × (h < g) × (done h ≡ f) × (get_or heads f 0 ≡ lowest_by n done h))

  -- the pieces below g are numbered, and k classes are met
  pub record Ranking (number lead heads : List ℕ) (k g : ℕ) : Type 0 where
    pub counted : k ≡ tally (first_by n done) g
    pub numbers : (h : ℕ) → h < g → get_or number h 0 ≡ number_by n done h
    pub leads : (h : ℕ) → h < g → get_or lead h 0 ≡ lowest_by n done h
    pub heads-are : (f : ℕ) → f < n → Head heads g f

  pub rank-none : (number lead heads : List ℕ) (room : ℕ) → n ≤ room → heads ≡ replicate room 2048 → Ranking number lead heads 0 0
  unfolding tally
  rank-none number lead heads room l e = record {
    counted = refl;
    numbers = λ h a. absurd (omega arith);
    leads = λ h a. absurd (omega arith);
    heads-are = λ f a. inl (ap (λ (o : List ℕ). get_or o f 0) e ∙ get_or-replicate room f 2048 0 (omega arith), λ h b. absurd (omega arith));
  }

  module _ (number lead heads : List ℕ) (k g : ℕ) (R : Ranking number lead heads k g) (l : g < n) (small : n ≤ 2048) (fits : done g < n) (ln : n ≤ length number) (ll : n ≤ length lead) (lo : n ≤ length heads) where
    is-new : get_or heads (done g) 0 ≡ 2048 → (h : ℕ) → h < g → done h ≡ done g → ⊥
    is-new e = go (R.heads-are (done g) fits)
      where
        go : Head heads g (done g) → (h : ℕ) → h < g → done h ≡ done g → ⊥
        go (inl q) = q.1
        go (inr (x, a, b, c)) = absurd (omega (arith, c, lowest-by-le x (omega arith)))

    is-old : (get_or heads (done g) 0 ≡ 2048 → ⊥) → (h : ℕ) × (h < g) × (done h ≡ done g) × (get_or heads (done g) 0 ≡ lowest_by n done h)
    is-old ne = go (R.heads-are (done g) fits)
      where
        go : Head heads g (done g) → (h : ℕ) × (h < g) × (done h ≡ done g) × (get_or heads (done g) 0 ≡ lowest_by n done h)
        go (inl q) = absurd (ne q.0)
        go (inr q) = q

    pub rank-new : get_or heads (done g) 0 ≡ 2048 → Ranking (set number g k) (set lead g g) (set heads (done g) g) (k + 1) (g + 1)
    rank-new e = record {
      counted = count (add-one k) (add-one g);
      numbers = set_more (number_by n done) number g k (omega arith) (sym own) R.numbers;
      leads = set_more (lowest_by n done) lead g g (omega arith) (sym low) R.leads;
      heads-are = λ f a. at f a (ℕ_discrete f (done g)) (R.heads-are f a);
    }
      where
        low : lowest_by n done g ≡ g
        low = lowest-new g l (is-new e)

        own : number_by n done g ≡ k
        own = unfold number_by in ap (tally (first_by n done)) low ∙ sym R.counted

        first-here : first_by n done g ≡ true
        first-here = unfold first_by in eq-eqb (lowest_by n done g) g low

        count : k + 1 ≡ suc k → g + 1 ≡ suc g → k + 1 ≡ tally (first_by n done) (g + 1)
        count p q = unfold tally in rw (q, first-here) (omega (arith, R.counted))

        at : (f : ℕ) → f < n → Dec (f ≡ done g) → Head heads g f → Head (set heads (done g) g) (g + 1) f
        at f a (yes q) w = inr (g, omega arith, sym q, ap (λ (j : ℕ). get_or (set heads (done g) g) j 0) q ∙ get_or-set_same heads (done g) g 0 (omega arith) ∙ sym low)
        at f a (no q) (inl w) = inl (get_or-set_other heads (done g) f g 0 q ∙ w.0, λ h b c. later h b c (ℕ_discrete h g))
          where
            later : (h : ℕ) → h < g + 1 → done h ≡ f → Dec (h ≡ g) → ⊥
            later h b c (yes z) = q (sym c ∙ ap done z)
            later h b c (no z) = w.1 h (omega arith) c
        at f a (no q) (inr (h, b, c, d)) = inr (h, omega arith, c, get_or-set_other heads (done g) f g 0 q ∙ d)

    -- the leader that `heads` has
    pub old-head : (get_or heads (done g) 0 ≡ 2048 → ⊥) → (get_or heads (done g) 0 ≡ lowest_by n done g) × (get_or heads (done g) 0 < g)
    old-head ne =
        let h = is-old ne in
        (h.3 ∙ same-lowest-by h.0 g h.2, omega (arith, h.1, h.3, lowest-by-le h.0 (omega (arith, h.1))))

    pub rank-old : (t : ℕ) → t ≡ get_or heads (done g) 0 → (t ≡ 2048 → ⊥) → Ranking (set number g (get_or number t 0)) (set lead g t) heads k (g + 1)
    rank-old t te ne = record {
      counted = count (add-one g);
      numbers = set_more (number_by n done) number g (get_or number t 0) (omega arith) (R.numbers t (omega (arith, o.1)) ∙ same-number-by t g (ap done (te ∙ o.0) ∙ lowest-by-class g l)) R.numbers;
      leads = set_more (lowest_by n done) lead g t (omega arith) (te ∙ o.0) R.leads;
      heads-are = λ f a. at f a (ℕ_discrete f (done g)) (R.heads-are f a);
    }
      where
        o : (get_or heads (done g) 0 ≡ lowest_by n done g) × (get_or heads (done g) 0 < g)
        o = old-head (λ q. ne (te ∙ q))

        h : (h : ℕ) × (h < g) × (done h ≡ done g) × (get_or heads (done g) 0 ≡ lowest_by n done h)
        h = is-old (λ q. ne (te ∙ q))

        not_first : first_by n done g ≡ false
        not_first = unfold first_by in ne_eqb (lowest_by n done g) g (λ q. omega (arith, o.0, o.1, q))

        count : g + 1 ≡ suc g → k ≡ tally (first_by n done) (g + 1)
        count q = unfold tally in rw (q, not_first) (omega (arith, R.counted))

        at : (f : ℕ) → f < n → Dec (f ≡ done g) → Head heads g f → Head heads (g + 1) f
        at f a q (inr (x, b, c, d)) = inr (x, omega arith, c, d)
        at f a (yes q) (inl w) = absurd (w.1 h.0 h.1 (h.2 ∙ sym q))
        at f a (no q) (inl w) = inl (w.0, λ x b c. later x b c (ℕ_discrete x g))
          where
            later : (x : ℕ) → x < g + 1 → done x ≡ f → Dec (x ≡ g) → ⊥
            later x b c (yes z) = q (sym c ∙ ap done z)
            later x b c (no z) = w.1 x (omega arith) c
