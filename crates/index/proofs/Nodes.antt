-- Every piece of a book occurs exactly once as a node of its tree. Assumes nothing.
use mathlib.Core.Path.{◌≡◌, refl, sym, ap, ◌∙◌}
use mathlib.Core.Logic.{◌⊎◌, inl, inr}
use mathlib.Core.Bool.{Bool, true, false}
use mathlib.Core.List.Memᴰ.{head as here}
use mathlib.Core.List.Memᴰ.{tail as there}
use mathlib.Core.List.{List, [], ◌∷◌, ◌++◌}
use Prim.Native.Nat.{ℕ, zero, suc, ◌+◌, ◌*◌, ◌≤◌, ◌<◌}
use native.Mathlib.Omega.{arith}
use native.Mathlib.Nat.{eq-or-lt_of_le}
use lib.Dec.{eqb}
use Rattle.lists.specs.Tab.{tab}
use borrow.Author.Tests.{eqb-true, eq-eqb, ne_eqb}
use Rattle.lists.specs.Tally.{num}
use Rattle.lists.specs.Numbers.{range, keep}
use Rattle.index.specs.Breadth.{parent}
use Rattle.index.specs.Tree.{Visit, node, shadow, Forest, end, tree, hang, under, whole, visits}
use Rattle.index.specs.Parts.{is_node}
use Rattle.lists.proofs.Numbers.{◌∈◌, which, keep-yes, keep-no, keep-mem, mem-keep, mem-range}
use Rattle.index.specs.Pairs.{parts, Book}
use Rattle.index.proofs.Reached.{parent-edge}

-- ## Counting

-- how often the node of p is visited
unfoldable pub times : ℕ → List Visit → ℕ
times p [] = 0
times p (v ∷ vs) = num (is_node p v) + times p vs

pub times-append : (p : ℕ) (xs ys : List Visit) → times p (xs ++ ys) ≡ times p xs + times p ys
unfolding times
times-append p [] ys = omega arith
times-append p (x ∷ xs) ys = omega (arith, times-append p xs ys)

-- how often p is in a list of numbers
unfoldable pub count : ℕ → List ℕ → ℕ
count p [] = 0
count p (x ∷ xs) = num (eqb p x) + count p xs

pub count-above : (p k m : ℕ) (f : ℕ → Bool) → p < k → count p (keep f (range k m)) ≡ 0
unfolding count range tab keep
count-above p k zero f h = refl
count-above p k (suc m) f h = go (which (f k)) (count-above p (suc k) m f (omega arith))
  where
    go : (f k ≡ true) ⊎ (f k ≡ false) → count p (keep f (range (suc k) m)) ≡ 0 → count p (keep f (k ∷ range (suc k) m)) ≡ 0
    go (inl e) r = rw (keep-yes f k (range (suc k) m) e, ne_eqb p k (λ q. omega arith)) (omega arith)
    go (inr e) r = rw (keep-no f k (range (suc k) m) e) r

pub count-keep : (p k m : ℕ) (f : ℕ → Bool) → k ≤ p → p < k + m → count p (keep f (range k m)) ≡ num (f p)
unfolding count range tab keep
count-keep p k zero f a b = absurd (omega arith)
count-keep p k (suc m) f a b = go (which (f k)) (eq-or-lt_of_le a) (λ (h : k < p). count-keep p (suc k) m f h (omega arith))
  where
    go : (f k ≡ true) ⊎ (f k ≡ false) → (k ≡ p) ⊎ (k < p) → (k < p → count p (keep f (range (suc k) m)) ≡ num (f p))
        → count p (keep f (k ∷ range (suc k) m)) ≡ num (f p)
    go (inl e) (inl q) r = rw (keep-yes f k (range (suc k) m) e, ← q, eq-eqb k k refl, e) (ap (λ (x : ℕ). 1 + x) (count-above p (suc k) m f (omega (arith, q))))
    go (inr e) (inl q) r = rw (keep-no f k (range (suc k) m) e, ← q, e) (count-above k (suc k) m f (omega arith))
    go (inl e) (inr h) r = rw (keep-yes f k (range (suc k) m) e, ne_eqb p k (λ q. omega arith)) (omega (arith, r h))
    go (inr e) (inr h) r = rw (keep-no f k (range (suc k) m) e) (r h)

-- ## One step of the tree

module _ (n : ℕ) (edge : ℕ → ℕ → Bool) where
  module _ (below : ℕ → Forest) (c q : ℕ) (qs : List ℕ) where
    pub hang-node : eqb (parent n edge q) c ≡ true → hang n edge below c (q ∷ qs) ≡ tree (node q) (below q) (hang n edge below c qs)
    unfolding hang
    hang-node e = rw (e, hang)

    pub hang-shadow : eqb (parent n edge q) c ≡ false → hang n edge below c (q ∷ qs) ≡ tree (shadow q) end (hang n edge below c qs)
    unfolding hang
    hang-shadow e = rw (e, hang)

  -- a node of p stands wherever a node of its parent has p for a part: counted over the parts of c
  times-hang : (p : ℕ) (below : ℕ → Forest) (c : ℕ) (qs : List ℕ)
      → ((q : ℕ) → q ∈ qs → times p (visits (below q)) ≡ num (eqb (parent n edge p) q) + times (parent n edge p) (visits (below q)))
      → times p (visits (hang n edge below c qs)) ≡ num (eqb (parent n edge p) c) * count p qs + times (parent n edge p) (visits (hang n edge below c qs))
  unfolding hang visits times count is_node
  times-hang p below c [] h = omega arith
  times-hang p below c (q ∷ qs) h = go (which (eqb (parent n edge q) c)) (times-hang p below c qs (λ x m. h x (there m))) (which (eqb p q))
    where
      rest : Forest
      rest = hang n edge below c qs

      sums : (x : ℕ) → times x (visits (below q) ++ visits rest) ≡ times x (visits (below q)) + times x (visits rest)
      sums x = times-append x (visits (below q)) (visits rest)

      same : eqb p q ≡ true → eqb (parent n edge p) c ≡ eqb (parent n edge q) c
      same s = ap (λ x. eqb (parent n edge x) c) (eqb-true p q s)

      go : (eqb (parent n edge q) c ≡ true) ⊎ (eqb (parent n edge q) c ≡ false)
          → times p (visits rest) ≡ num (eqb (parent n edge p) c) * count p qs + times (parent n edge p) (visits rest)
          → (eqb p q ≡ true) ⊎ (eqb p q ≡ false)
          → times p (visits (hang n edge below c (q ∷ qs))) ≡ num (eqb (parent n edge p) c) * count p (q ∷ qs) + times (parent n edge p) (visits (hang n edge below c (q ∷ qs)))
      go (inl e) r (inl s) =
          let t : eqb (parent n edge p) c ≡ true = same s ∙ e in
          rw (hang-node below c q qs e, s, t) (omega (arith, sums p, sums (parent n edge p), h q (here refl), rw t at r))
      go (inl e) r (inr s) = rw (hang-node below c q qs e, s) (omega (arith, sums p, sums (parent n edge p), h q (here refl)))
      go (inr e) r (inl s) =
          let t : eqb (parent n edge p) c ≡ false = same s ∙ e in
          rw (hang-shadow below c q qs e, s, t) (omega (arith, rw t at r))
      go (inr e) r (inr s) = rw (hang-shadow below c q qs e, s) (omega arith)

  module _ (B : Book n edge) where
    -- a part of c, as a member of `parts c`
    pub parts-mem : (c : ℕ) {q : ℕ} → q ∈ parts n edge c → edge q c ≡ true
    unfolding parts
    parts-mem c m = (keep-mem (λ p. edge p c) (range 0 n) m).1

    pub mem-parts : (q c : ℕ) → edge q c ≡ true → q ∈ parts n edge c
    unfolding parts
    mem-parts q c e = mem-keep (λ p. edge p c) (range 0 n) (mem-range 0 n q (omega arith) (omega (arith, B.piece q c e))) e

    module _ (p : ℕ) (pos : 0 < p) (l : p < n) where
      times-under : (k c : ℕ) → n ≤ B.level c + k
          → times p (visits (under n edge k c)) ≡ num (eqb (parent n edge p) c) + times (parent n edge p) (visits (under n edge k c))
      unfolding under times visits parts
      times-under zero c h =
          let lt = B.lower p (parent n edge p) (parent-edge n edge B p pos l) in
          rw (ne_eqb (parent n edge p) c (λ q. omega (arith, ap B.level q, B.fits p l)))
      times-under (suc k) c h =
          go (which (eqb (parent n edge p) c)) (times-hang p (under n edge k) c (parts n edge c) (λ q m. times-under k q (omega (arith, B.lower q c (parts-mem c m)))))
        where
          once : count p (parts n edge c) ≡ num (edge p c)
          once = count-keep p 0 n (λ p. edge p c) (omega arith) (omega arith)

          F : Forest
          F = hang n edge (under n edge k) c (parts n edge c)

          go : (eqb (parent n edge p) c ≡ true) ⊎ (eqb (parent n edge p) c ≡ false)
              → times p (visits F) ≡ num (eqb (parent n edge p) c) * count p (parts n edge c) + times (parent n edge p) (visits F)
              → times p (visits F) ≡ num (eqb (parent n edge p) c) + times (parent n edge p) (visits F)
          go (inl e) r =
              let o : edge p c ≡ true = ap (edge p) (sym (eqb-true (parent n edge p) c e)) ∙ parent-edge n edge B p pos l in
              rw e (omega (arith, rw (e, once, o) at r))
          go (inr e) r = rw e (omega (arith, rw e at r))

    -- nothing at or below c's own number hangs below c
    times-low-hang : (p : ℕ) (below : ℕ → Forest) (c : ℕ) (qs : List ℕ) → ((q : ℕ) → q ∈ qs → (B.level p < B.level q) × (times p (visits (below q)) ≡ 0))
        → times p (visits (hang n edge below c qs)) ≡ 0
    unfolding hang visits times is_node
    times-low-hang p below c [] h = refl
    times-low-hang p below c (q ∷ qs) h = go (which (eqb (parent n edge q) c)) (h q (here refl)) (times-low-hang p below c qs (λ x m. h x (there m)))
      where
        rest : Forest
        rest = hang n edge below c qs

        go : (eqb (parent n edge q) c ≡ true) ⊎ (eqb (parent n edge q) c ≡ false) → (B.level p < B.level q) × (times p (visits (below q)) ≡ 0)
            → times p (visits rest) ≡ 0 → times p (visits (hang n edge below c (q ∷ qs))) ≡ 0
        go (inl e) (l, z) r = rw (hang-node below c q qs e, ne_eqb p q (λ x. omega (arith, ap B.level x))) (omega (arith, times-append p (visits (below q)) (visits rest)))
        go (inr e) (l, z) r = rw (hang-shadow below c q qs e) (omega arith)

    pub times-low : (p k c : ℕ) → B.level p ≤ B.level c → times p (visits (under n edge k c)) ≡ 0
    unfolding under visits times
    times-low p zero c h = refl
    times-low p (suc k) c h =
        times-low-hang p (under n edge k) c (parts n edge c)
        (λ q m. let l = B.lower q c (parts-mem c m) in (omega arith, times-low p k q (omega arith)))

    -- ## Each piece is a node once

    times-whole : (p : ℕ) → times p (visits (whole n edge)) ≡ num (eqb p 0) + times p (visits (under n edge n 0))
    unfolding whole visits times is_node
    times-whole p = omega (arith, times-append p (visits (under n edge n 0)) [])

    once-below : (k p : ℕ) → B.level p < k → p < n → times p (visits (whole n edge)) ≡ 1
    once-below zero p h l = absurd (omega arith)
    once-below (suc k) zero h l = omega (arith, times-whole 0, times-low 0 n 0 (omega arith))
    once-below (suc k) (suc p) h l =
        let e = parent-edge n edge B (suc p) (omega arith) l in
        let lt = B.lower (suc p) (parent n edge (suc p)) e in
        let u = times-under (suc p) (omega arith) l n 0 (omega arith) in
        let i = once-below k (parent n edge (suc p)) (omega arith) (B.whole (suc p) (parent n edge (suc p)) e) in
        omega (arith, times-whole (suc p), times-whole (parent n edge (suc p)), ap num (ne_eqb (suc p) 0 (λ q. omega arith)))

    pub once : (p : ℕ) → p < n → times p (visits (whole n edge)) ≡ 1
    once p l = once-below (suc (B.level p)) p (omega arith) l
