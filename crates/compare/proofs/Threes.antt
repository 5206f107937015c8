-- Three bytes a claim: how long they are, what stands where, and the loop that writes them. Assumes nothing.
use Prim.Native.Nat.{ℕ, zero, suc, ◌+◌, ◌*◌, ◌<◌, ◌≤◌}
use mathlib.Core.Path.{◌≡◌, refl, sym, ap, ap₂, ◌∙◌}
use mathlib.Core.List.{List, [], ◌∷◌, ◌++◌}
use native.Mathlib.Numerals.{add-one}
use native.Mathlib.Omega.{arith}
use native.Mathlib.Decide.{ℕ_discrete}
use borrow.Author.Tests.{eq-eqb, ne_eqb}
use lib.ListN.{length, get_or, set, length-append, get_or-append}
use lib.Seq.{get_or-append-add}
use Rattle.lists.specs.Front.{front, placed}
use Rattle.lists.proofs.Fronts.{front-none, front_length, placed-sets, placed-front}
use Rattle.compare.specs.Agreement.{agreement, threes}

module _ (f g : ℕ → ℕ) where
  pub threes-length : (n : ℕ) → length (threes f g n) ≡ 3 * n
  unfolding threes
  threes-length zero = refl
  threes-length (suc n) = length-append (threes f g n) _ ∙ omega (arith, threes-length n)

  -- byte d of claim i
  pub threes-at : (n i d : ℕ) → i < n → d < 3 → get_or (threes f g n) (3 * i + d) 0 ≡ get_or (f i ∷ g i ∷ agreement (f i) (g i) ∷ []) d 0
  unfolding threes
  threes-at zero i d l h = absurd (omega arith)
  threes-at (suc n) i d l h = pick (ℕ_discrete i n) (λ k. threes-at n i d k h)
    where
      pick :
          Dec (i ≡ n) → (i < n → get_or (threes f g n) (3 * i + d) 0 ≡ get_or (f i ∷ g i ∷ agreement (f i) (g i) ∷ []) d 0)
          → get_or (threes f g n ++ (f n ∷ g n ∷ agreement (f n) (g n) ∷ [])) (3 * i + d) 0 ≡ get_or (f i ∷ g i ∷ agreement (f i) (g i) ∷ []) d 0
      pick (yes e) rest =
          let k : 3 * i + d ≡ length (threes f g n) + d = omega (arith, threes-length n) in
          ap (λ (j : ℕ). get_or (threes f g n ++ (f n ∷ g n ∷ agreement (f n) (g n) ∷ [])) j 0) k
          ∙ get_or-append-add (threes f g n) (f n ∷ g n ∷ agreement (f n) (g n) ∷ []) d 0
          ∙ ap (λ (j : ℕ). get_or (f j ∷ g j ∷ agreement (f j) (g j) ∷ []) d 0) (sym e)
      pick (no e) rest = get_or-append (threes f g n) _ 0 (3 * i + d) (omega (arith, threes-length n)) ∙ rest (omega arith)

  -- ---- the loop

  pub threes-long : (l : List ℕ) (n : ℕ) → 3 * n ≤ length l → length (front (threes f g n) l) ≡ length l
  threes-long l n h = front_length (threes f g n) l (omega (arith, threes-length n))

  pub threes-none : (l : List ℕ) → l ≡ front (threes f g 0) l
  unfolding threes
  threes-none l = sym (front-none l)

  pub threes-more :
      (l out : List ℕ) (i x y v : ℕ) → 3 * i + 3 ≤ length l → out ≡ front (threes f g i) l → x ≡ f i → y ≡ g i → v ≡ agreement x y
      → set (set (set out (3 * i) x) (3 * i + 1) y) (3 * i + 2) v ≡ front (threes f g (i + 1)) l
  unfolding threes
  threes-more l out i x y v h e p q r =
      let done = threes f g i in
      let at : 3 * i ≡ length done = sym (threes-length i) in
      let long : length out ≡ length l = ap length e ∙ front_length done l (omega (arith, at)) in
      let two : 3 * i + 2 ≡ suc (suc (3 * i)) = omega arith in
      ap₂ (λ (j k : ℕ). set (set (set out (3 * i) x) j y) k v) (add-one (3 * i)) two
      ∙ placed-sets (x ∷ y ∷ v ∷ []) out (3 * i) (omega (arith, long))
      ∙ ap₂ (λ (j : ℕ) (o : List ℕ). placed j (x ∷ y ∷ v ∷ []) o) at e
      ∙ placed-front done (x ∷ y ∷ v ∷ []) l
      ∙ ap (λ (z : List ℕ). front (done ++ z) l) (rw (r, p, q))
      ∙ ap (λ (k : ℕ). front (threes f g k) l) (sym (add-one i))

-- the same of functions that agree below n
pub threes-same : (f g f' g' : ℕ → ℕ) (n : ℕ) → ((i : ℕ) → i < n → f i ≡ f' i) → ((i : ℕ) → i < n → g i ≡ g' i) → threes f g n ≡ threes f' g' n
unfolding threes
threes-same f g f' g' zero p q = refl
threes-same f g f' g' (suc n) p q =
    ap₂ ◌++◌ (threes-same f g f' g' n (λ i l. p i (omega arith)) (λ i l. q i (omega arith)))
    (ap₂ (λ (x y : ℕ). x ∷ y ∷ agreement x y ∷ []) (p n (omega arith)) (q n (omega arith)))

-- ---- how two answers stand to each other

module _ (x y : ℕ) where
  pub agreement-same : x ≡ y → 1 ≡ agreement x y
  unfolding agreement
  agreement-same e = sym (rw (eq-eqb x y e, agreement))

  module _ (n : x ≡ y → ⊥) where
    pub agreement-first : x ≡ 3 → 2 ≡ agreement x y
    unfolding agreement
    agreement-first e = sym (rw (ne_eqb x y n, agreement, eq-eqb x 3 e))

    module _ (m : x ≡ 3 → ⊥) where
      pub agreement-second : y ≡ 3 → 2 ≡ agreement x y
      unfolding agreement
      agreement-second e = sym (rw (ne_eqb x y n, agreement, ne_eqb x 3 m, eq-eqb y 3 e))

      pub agreement-neither : (y ≡ 3 → ⊥) → 3 ≡ agreement x y
      unfolding agreement
      agreement-neither e = sym (rw (ne_eqb x y n, agreement, ne_eqb x 3 m, ne_eqb y 3 e))
