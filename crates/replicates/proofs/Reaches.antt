-- From where on every two entries are apart, entry by entry, and the bytes written from it. Assumes nothing.
use Prim.Native.Nat.{ℕ, zero, suc, max, ◌+◌, ◌*◌, ◌-◌, ◌≤◌}
use mathlib.Core.Path.{◌≡◌, refl, sym, ap, ap₂, ◌∙◌}
use mathlib.Core.Bool.{Bool, ◌&&◌}
use mathlib.Core.List.{List, [], ◌∷◌, ◌++◌}
use native.Mathlib.Numerals.{add-one}
use native.Mathlib.Omega.{arith}
use borrow.Author.Tests.{le-leb, lt-leb, leb-true, leb-false}
use lib.Dec.{leb}
use lib.ListN.{length, set, length-append}
use Rattle.lists.specs.Front.{front, placed}
use Rattle.lists.specs.Tally.{num}
use Rattle.lists.proofs.Bools.{Known, is_true, is_false, known}
use Rattle.lists.proofs.Fronts.{placed-sets, placed-front, front-none, front_length}
use Rattle.replicates.specs.declared.windows.Seen.{Seen}
use Rattle.replicates.specs.Before.{oldest, pairwise, bytes_of, bytes_from}
use Rattle.replicates.specs.Looking.{Looked, Reach}

both_below : (a b c : ℕ) → (leb a c && leb b c) ≡ leb (max a b) c
both_below a b c = pick (known (leb a c)) (known (leb b c))
  where
    pick : Known (leb a c) → Known (leb b c) → (leb a c && leb b c) ≡ leb (max a b) c
    pick (is_true e) (is_true f) = rw (e, f) (sym (le-leb (max a b) c (omega (arith, leb-true a c e, leb-true b c f))))
    pick (is_true e) (is_false f) = rw (e, f) (sym (lt-leb (max a b) c (omega (arith, leb-false b c f))))
    pick (is_false e) f = rw e (sym (lt-leb (max a b) c (omega (arith, leb-false a c e))))

module _ (R : ℕ → ℕ → Bool) (xs : List ℕ) where
  pub reach-none : Reach R xs 0 0
  unfolding pairwise
  reach-none low l = sym (le-leb 0 low (omega arith))

  pub reach-more : (q start next : ℕ) (s : Seen) → Reach R xs q start → Looked R xs q s → next ≡ max start s.from → Reach R xs (q + 1) next
  unfolding pairwise
  reach-more q start next s r l e low m =
      ap (pairwise R xs low) (add-one q)
      ∙ ap₂ ◌&&◌ (r low (omega arith)) (l.from low (omega arith))
      ∙ both_below start s.from low
      ∙ ap (λ (k : ℕ). leb k low) (sym e)

  pub reach-all : (q start : ℕ) → Reach R xs (q + 1) start → num (leb start (oldest q)) ≡ num (pairwise R xs (oldest q) (suc q))
  reach-all q start r = ap num (sym (r (oldest q) (omega arith)) ∙ ap (pairwise R xs (oldest q)) (add-one q))

  pub bytes-length : (c m : ℕ) → length (bytes_from R xs c m) ≡ 2 * m
  unfolding bytes_from bytes_of
  bytes-length c zero = refl
  bytes-length c (suc m) = length-append (bytes_from R xs c m) _ ∙ omega (arith, bytes-length c m)

  pub bytes-none : (c : ℕ) (l : List ℕ) → l ≡ front (bytes_from R xs c (c - c)) l
  unfolding bytes_from
  bytes-none c l = let e : c - c ≡ 0 = omega arith in rw e (sym (front-none l))

  -- the two bytes of entry q behind those before
  bytes_next : (c q : ℕ) → c ≤ q → bytes_from R xs c (q - c) ++ bytes_of R xs q ≡ bytes_from R xs c (q + 1 - c)
  unfolding bytes_from
  bytes_next c q h =
      let e : c + (q - c) ≡ q = omega arith in
      let f : suc (q - c) ≡ q + 1 - c = omega arith in
      ap (λ (k : ℕ). bytes_from R xs c (q - c) ++ bytes_of R xs k) (sym e) ∙ ap (bytes_from R xs c) f

  pub bytes-more :
      (c q start x y : ℕ) (s : Seen) (l out : List ℕ) → c ≤ q → 2 * (q - c) + 2 ≤ length l → out ≡ front (bytes_from R xs c (q - c)) l
      → Looked R xs q s → Reach R xs (q + 1) start → x ≡ s.apart → y ≡ num (leb start (oldest q))
      → set (set out (2 * (q - c)) x) (2 * (q - c) + 1) y ≡ front (bytes_from R xs c (q + 1 - c)) l
  unfolding bytes_of
  bytes-more c q start x y s l out h k e look r a b =
      let done = bytes_from R xs c (q - c) in
      let at : 2 * (q - c) ≡ length done = sym (bytes-length c (q - c)) in
      let long : length out ≡ length l = ap length e ∙ front_length done l (omega (arith, at)) in
      ap (λ (j : ℕ). set (set out (2 * (q - c)) x) j y) (add-one (2 * (q - c)))
      ∙ placed-sets (x ∷ y ∷ []) out (2 * (q - c)) (omega (arith, long))
      ∙ ap₂ (λ (j : ℕ) (o : List ℕ). placed j (x ∷ y ∷ []) o) at e
      ∙ placed-front done (x ∷ y ∷ []) l
      ∙ ap₂ (λ (u v : ℕ). front (done ++ (u ∷ v ∷ [])) l) (a ∙ look.count) (b ∙ reach-all q start r)
      ∙ ap (λ (z : List ℕ). front z l) (bytes_next c q h)
