-- Laws of `passing`. Assumes nothing.
use mathlib.Core.Path.{◌≡◌, refl, sym, ap, ap₂, ◌∙◌}
use mathlib.Core.Bool.{Bool, true, false, ◌||◌, false≢true}
use mathlib.Core.List.{List, [], ◌∷◌, ◌++◌, append_assoc, append-nil}
use Prim.Native.Nat.{ℕ, zero, suc, ◌+◌, ◌-◌, ◌≤◌, ◌<◌}
use native.Mathlib.Omega.{arith}
use native.Mathlib.Nat.{add-suc, add-zero}
use native.Mathlib.Decide.{dec_lt, ℕ_discrete}
use lib.Dec.{eqb}
use lib.ListN.{length, get_or, length-append, get_or-append}
use lib.Seq.{get_or_at}
use borrow.Author.Tests.{eqb-true, eqb-false, ne_eqb, eq-eqb}
use Rattle.lists.specs.Any.{any_below}
use Rattle.lists.specs.Tally.{num, tally}
use Rattle.lists.proofs.Bools.{Known, is_true, is_false, known, not-true}
use Rattle.lists.proofs.Anys.{below-hit}
use Rattle.lists.proofs.Tallies.{tally-all}
use Rattle.lists.specs.Passing.{passing, each}

module _ (p : ℕ → Bool) where
  pub passing-none : passing p 0 ≡ []
  unfolding passing
  passing-none = refl

  pub passing-hit : (n : ℕ) → p n ≡ true → passing p (suc n) ≡ passing p n ++ (n ∷ [])
  unfolding passing
  passing-hit n e = rw (e, passing)

  pub passing-miss : (n : ℕ) → p n ≡ false → passing p (suc n) ≡ passing p n
  unfolding passing
  passing-miss n e = rw (e, passing)

  -- what is kept of n + 1 numbers, by cases
  step : (P : List ℕ → Type 0) (n : ℕ) → (p n ≡ true → P (passing p n ++ (n ∷ []))) → (p n ≡ false → P (passing p n)) → P (passing p (suc n))
  step P n f g = pick (known (p n))
    where
      pick : Known (p n) → P (passing p (suc n))
      pick (is_true e) = rw (passing-hit n e) (f e)
      pick (is_false e) = rw (passing-miss n e) (g e)

  skip : (a d : ℕ) → ((q : ℕ) → a ≤ q → q < a + d → p q ≡ false) → passing p (a + d) ≡ passing p a
  skip a zero h = ap (passing p) (add-zero a)
  skip a (suc d) h = ap (passing p) (add-suc a d) ∙ passing-miss (a + d) (h (a + d) (omega arith) (omega arith)) ∙ skip a d (λ q k l. h q k (omega arith))

  -- numbers that fail are passed over
  pub passing-skip : (a b : ℕ) → a ≤ b → ((q : ℕ) → a ≤ q → q < b → p q ≡ false) → passing p b ≡ passing p a
  passing-skip a b l h =
      let e : b ≡ a + (b - a) = omega arith in
      ap (passing p) e ∙ skip a (b - a) (λ q k k'. h q k (omega arith))

  longer : (a d : ℕ) → length (passing p a) ≤ length (passing p (a + d))
  longer a zero = omega (arith, ap (λ (n : ℕ). length (passing p n)) (add-zero a))
  longer a (suc d) =
      let ih = longer a d in
      let e = ap (λ (n : ℕ). length (passing p n)) (add-suc a d) in
      let m : length (passing p (a + d)) ≤ length (passing p (suc (a + d))) =
      step (λ l. length (passing p (a + d)) ≤ length l) (a + d) (λ _. simp length-append (omega arith)) (λ _. omega arith) in
      omega arith

  passing-le : (a b : ℕ) → a ≤ b → length (passing p a) ≤ length (passing p b)
  passing-le a b l = let e : a + (b - a) ≡ b = omega arith in omega (arith, longer a (b - a), ap (λ (n : ℕ). length (passing p n)) e)

  pub passing-length-hit : (a : ℕ) → p a ≡ true → length (passing p (suc a)) ≡ length (passing p a) + 1
  passing-length-hit a e = ap length (passing-hit a e) ∙ simp length-append

  pub passing-less : (a b : ℕ) → a < b → p a ≡ true → length (passing p a) < length (passing p b)
  passing-less a b l e = omega (arith, passing-le (suc a) b l, passing-length-hit a e)

  -- a kept number stands where as many kept ones are lower
  pub passing-back : (q n : ℕ) → q < n → p q ≡ true → get_or (passing p n) (length (passing p q)) 0 ≡ q
  passing-back q zero l e = absurd (omega arith)
  passing-back q (suc n) l e = pick (known (eqb q n)) (λ k. passing-back q n k e)
    where
      pick : Known (eqb q n) → (q < n → get_or (passing p n) (length (passing p q)) 0 ≡ q) → get_or (passing p (suc n)) (length (passing p q)) 0 ≡ q
      pick (is_true h) rest =
          let k = eqb-true q n h in
          ap (λ (l : List ℕ). get_or l (length (passing p q)) 0) (passing-hit n (ap p (sym k) ∙ e))
          ∙ get_or_at (passing p n) n [] 0 (length (passing p q)) (ap (λ (m : ℕ). length (passing p m)) (sym k)) ∙ sym k
      pick (is_false h) rest =
          let k : q < n = omega (arith, eqb-false q n h) in
          let f = passing-less q n k e in
          step (λ l. get_or l (length (passing p q)) 0 ≡ q) n (λ _. get_or-append (passing p n) (n ∷ []) 0 (length (passing p q)) f ∙ rest k) (λ _. rest k)

  -- what stands in the list passed, and is below the bound
  pub passing-at : (n i : ℕ) → i < length (passing p n) → (p (get_or (passing p n) i 0) ≡ true) × (get_or (passing p n) i 0 < n)
  passing-at zero i = λ l. absurd (omega (arith, ap length passing-none))
  passing-at (suc n) i = step (λ l. i < length l → (p (get_or l i 0) ≡ true) × (get_or l i 0 < suc n)) n (here (λ l. passing-at n i l)) (λ _ l. let r = passing-at n i l in (r.0, omega arith))
    where
      here : (i < length (passing p n) → (p (get_or (passing p n) i 0) ≡ true) × (get_or (passing p n) i 0 < n))
          → p n ≡ true → i < length (passing p n ++ (n ∷ [])) → (p (get_or (passing p n ++ (n ∷ [])) i 0) ≡ true) × (get_or (passing p n ++ (n ∷ [])) i 0 < suc n)
      here rest e l =
          elim (dec_lt i (length (passing p n))) [
            | yes h ↦ rw (get_or-append (passing p n) (n ∷ []) 0 i h) (let r = rest h in (r.0, omega arith))
            | no h ↦
                let k : length (passing p n) ≡ i = omega (arith, length-append (passing p n) (n ∷ [])) in
                rw (get_or_at (passing p n) n [] 0 i k) (e, omega arith)
          ]

  -- the list rises
  pub passing-rises : (n i j : ℕ) → i < j → j < length (passing p n) → get_or (passing p n) i 0 < get_or (passing p n) j 0
  passing-rises zero i j k = λ l. absurd (omega (arith, ap length passing-none))
  passing-rises (suc n) i j k = step (λ l. j < length l → get_or l i 0 < get_or l j 0) n (here (λ l. passing-rises n i j k l)) (λ _ l. passing-rises n i j k l)
    where
      here : (j < length (passing p n) → get_or (passing p n) i 0 < get_or (passing p n) j 0)
          → p n ≡ true → j < length (passing p n ++ (n ∷ [])) → get_or (passing p n ++ (n ∷ [])) i 0 < get_or (passing p n ++ (n ∷ [])) j 0
      here rest e l =
          let m = length-append (passing p n) (n ∷ []) in
          let f = get_or-append (passing p n) (n ∷ []) 0 i (omega arith) in
          elim (dec_lt j (length (passing p n))) [
            | yes h ↦ rw (f, get_or-append (passing p n) (n ∷ []) 0 j h) (rest h)
            | no h ↦
                let at : length (passing p n) ≡ j = omega arith in
                rw (f, get_or_at (passing p n) n [] 0 j at) (passing-at n i (omega arith)).1
          ]

-- tests that agree below the bound keep the same
pub passing-same : (p q : ℕ → Bool) (n : ℕ) → ((k : ℕ) → k < n → p k ≡ q k) → passing p n ≡ passing q n
passing-same p q zero h = passing-none p ∙ sym (passing-none q)
passing-same p q (suc n) h = pick (known (q n)) (passing-same p q n (λ k l. h k (omega arith)))
  where
    pick : Known (q n) → passing p n ≡ passing q n → passing p (suc n) ≡ passing q (suc n)
    pick (is_true e) r = passing-hit p n (h n (omega arith) ∙ e) ∙ ap (λ (l : List ℕ). l ++ (n ∷ [])) r ∙ sym (passing-hit q n e)
    pick (is_false e) r = passing-miss p n (h n (omega arith) ∙ e) ∙ r ∙ sym (passing-miss q n e)

-- a test that passes less keeps less
passing-fewer : (p q : ℕ → Bool) (n : ℕ) → ((k : ℕ) → k < n → p k ≡ true → q k ≡ true) → length (passing p n) ≤ length (passing q n)
passing-fewer p q zero h = omega (arith, ap length (passing-none p))
passing-fewer p q (suc n) h =
    let ih = passing-fewer p q n (λ k l. h k (omega arith)) in
    let m = passing-le q n (suc n) (omega arith) in
    step p (λ l. length l ≤ length (passing q (suc n))) n
    (λ e. omega (arith, length-append (passing p n) (n ∷ []), passing-length-hit q n (h n (omega arith) e)))
    (λ _. omega arith)

-- one number more to keep
module _ (x : ℕ) (q : ℕ → Bool) where
  too : ℕ → Bool
  too k = eqb x k || q k

  other : (k : ℕ) → (x ≡ k → ⊥) → too k ≡ q k
  unfolding too
  other k h = rw (ne_eqb x k h)

  one_more : (n : ℕ) → length (passing too n) ≤ length (passing q n) + 1
  one_more zero = omega (arith, ap length (passing-none too))
  one_more (suc n) = pick (known (eqb x n)) (known (q n)) (one_more n)
    where
      pick : Known (eqb x n) → Known (q n) → length (passing too n) ≤ length (passing q n) + 1 → length (passing too (suc n)) ≤ length (passing q (suc n)) + 1
      pick (is_true e) t ih =
          let k = eqb-true x n e in
          let below : passing too n ≡ passing q n = passing-same too q n (λ i l. other i (λ f. omega arith)) in
          step too (λ l. length l ≤ length (passing q (suc n)) + 1) n
          (λ _. omega (arith, length-append (passing too n) (n ∷ []), ap length below, passing-le q n (suc n) (omega arith)))
          (λ _. omega (arith, ap length below, passing-le q n (suc n) (omega arith)))
      pick (is_false e) (is_true t) ih = omega (arith, passing-length-hit q n t, passing-length-hit too n (other n (eqb-false x n e) ∙ t))
      pick (is_false e) (is_false t) ih = omega (arith, ap length (passing-miss q n t), ap length (passing-miss too n (other n (eqb-false x n e) ∙ t)))

-- each number kept is g of some i below m: at most m are kept
all : (g : ℕ → ℕ) (n m : ℕ) → length (passing (λ k. any_below (λ i. eqb (g i) k) m) n) ≤ m
unfolding any_below too
all g n zero = omega (arith, ap length (passing-skip (λ k. false) 0 n (omega arith) (λ q k l. refl)), ap length (passing-none (λ k. false)))
all g n (suc m) = omega (arith, one_more (g m) (λ k. any_below (λ i. eqb (g i) k) m) n, all g n m)

pub passing-few : (p : ℕ → Bool) (g : ℕ → ℕ) (m n : ℕ) → ((k : ℕ) → k < n → p k ≡ true → any_below (λ i. eqb (g i) k) m ≡ true) → length (passing p n) ≤ m
passing-few p g m n h = omega (arith, passing-fewer p (λ k. any_below (λ i. eqb (g i) k) m) n h, all g n m)

pub passing-tally : (p : ℕ → Bool) (n : ℕ) → length (passing p n) ≡ tally p n
unfolding tally
passing-tally p zero = ap length (passing-none p)
passing-tally p (suc n) = pick (known (p n)) (passing-tally p n)
  where
    pick : Known (p n) → length (passing p n) ≡ tally p n → length (passing p (suc n)) ≡ num (p n) + tally p n
    pick (is_true e) r = rw e (omega (arith, passing-length-hit p n e))
    pick (is_false e) r = rw e (omega (arith, ap length (passing-miss p n e)))

-- each number that passes is g of some i below m: at most m pass
pub tally-few : (p : ℕ → Bool) (g : ℕ → ℕ) (m n : ℕ) → ((k : ℕ) → k < n → p k ≡ true → (i : ℕ) × (i < m) × (g i ≡ k)) → tally p n ≤ m
tally-few p g m n h = omega (arith, passing-tally p n, passing-few p g m n (λ k l e. let w = h k l e in below-hit (λ i. eqb (g i) k) m w.0 w.1 (eq-eqb (g w.0) k w.2)))

-- the numbers below m are each g of some number that passes: at least m pass
pub tally-many : (p : ℕ → Bool) (g : ℕ → ℕ) (m n : ℕ) → ((i : ℕ) → i < m → (k : ℕ) × (k < n) × (p k ≡ true) × (g k ≡ i)) → m ≤ tally p n
tally-many p g m n h =
    let all = tally-all (λ i. true) m (λ i l. refl) in
    let few = tally-few (λ i. true) (λ j. g (get_or (passing p n) j 0)) (tally p n) m
    (λ i l e. let w = h i l in (length (passing p w.0), omega (arith, passing-tally p n, passing-less p w.0 n w.1 w.2), ap g (passing-back p w.0 n w.1 w.2) ∙ w.3)) in
    omega (arith, all, few)

pub each_none : (f : ℕ → List ℕ) → each f [] ≡ []
unfolding each
each_none f = refl

pub each_more : (f : ℕ → List ℕ) (xs : List ℕ) (x : ℕ) → each f (xs ++ (x ∷ [])) ≡ each f xs ++ f x
unfolding each
each_more f [] x = append-nil (f x)
each_more f (y ∷ ys) x = ap (λ (l : List ℕ). f y ++ l) (each_more f ys x) ∙ sym (append_assoc (f y) (each f ys) (f x))

-- Two tests, and a map h that rises on what the one passes and leads onto what the other passes: what is kept, one after the other.
-- f' and f say what is written of each.
module _ (p q : ℕ → Bool) (h : ℕ → ℕ) (f f' : ℕ → List ℕ) where
  pub record Onto (n m : ℕ) : Type 0 where
    pub leads : (j : ℕ) → j < n → p j ≡ true → (q (h j) ≡ true) × (h j < m)
    pub rises : (i j : ℕ) → i < j → j < n → p i ≡ true → p j ≡ true → h i < h j
    pub from : (k : ℕ) → k < m → q k ≡ true → (j : ℕ) × (j < n) × (p j ≡ true) × (h j ≡ k)
    pub same : (j : ℕ) → j < n → p j ≡ true → f (h j) ≡ f' j

  abbrev Alike : ℕ → ℕ → Type 0
  Alike n m = (each f (passing q m) ≡ each f' (passing p n)) × (length (passing q m) ≡ length (passing p n))

  pub passing-onto : (n m : ℕ) → Onto n m → Alike n m
  passing-onto zero m o =
      let e : passing q m ≡ [] = passing-skip q 0 m (omega arith) (λ k l l'. not-true (q k) (λ t. let w = o.from k l' t in omega arith)) ∙ passing-none q in
      rw (e, passing-none p) (each_none f ∙ sym (each_none f'), refl)
  passing-onto (suc n) m o = pick (known (p n)) (λ k w. passing-onto n k w)
    where
      pick : Known (p n) → ((k : ℕ) → Onto n k → Alike n k) → Alike (suc n) m
      pick (is_false e) go =
          rw (passing-miss p n e)
          (go m
          (record {
            leads = λ j l. o.leads j (omega arith);
            rises = λ i j k l. o.rises i j k (omega arith);
            from = λ k l t.
                let w = o.from k l t in
                (w.0, elim (ℕ_discrete w.0 n) [ yes z ↦ absurd (false≢true (sym e ∙ ap p (sym z) ∙ w.2)) | no z ↦ omega arith ], w.2, w.3);
            same = λ j l. o.same j (omega arith);
          }))
      pick (is_true e) go =
          let a = o.leads n (omega arith) e in
          let below : (j : ℕ) → j < n → p j ≡ true → h j < h n = λ j l t. o.rises j n l (omega arith) t e in
          let above : passing q m ≡ passing q (suc (h n)) =
          passing-skip q (suc (h n)) m a.1 (λ k l l'. not-true (q k) (λ t. let w = o.from k l' t in
          elim (ℕ_discrete w.0 n) [ yes z ↦ omega (arith, ap h z) | no z ↦ omega (arith, below w.0 (omega arith) w.2) ])) in
          let ih = go (h n) (record {
            leads = λ j l t. ((o.leads j (omega arith) t).0, below j l t);
            rises = λ i j k l. o.rises i j k (omega arith);
            from = λ k l t.
                let w = o.from k (omega arith) t in
                (w.0, elim (ℕ_discrete w.0 n) [ yes z ↦ absurd (omega (arith, ap h z)) | no z ↦ omega arith ], w.2, w.3);
            same = λ j l. o.same j (omega arith);
          }) in
          rw (above, passing-hit q (h n) a.0, passing-hit p n e) (
            each_more f (passing q (h n)) (h n) ∙ ap₂ (λ (x y : List ℕ). x ++ y) ih.0 (o.same n (omega arith) e) ∙ sym (each_more f' (passing p n) n),
            simp length-append (omega (arith, ih.1)),
          )
