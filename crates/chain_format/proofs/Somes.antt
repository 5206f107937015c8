-- Searches for three pieces. Assumes nothing.
use Prim.Native.Nat.{ℕ}
use mathlib.Core.Path.{◌≡◌, refl, sym, ◌∙◌}
use mathlib.Core.Bool.{Bool, true, false, false≢true}
use mathlib.Core.List.{List, Memᴰ}
use Rattle.lists.proofs.Bools.{same_truth, not-true}
use Rattle.lists.proofs.Anys.{any-find, any-hit}
use Rattle.chain_format.specs.Justified.{some}

module _ (xs : List ℕ) where
  pub some-find :
      (test : ℕ → ℕ → ℕ → Bool) → some xs test ≡ true
      → (g h k : ℕ) × Memᴰ g xs × Memᴰ h xs × Memᴰ k xs × (test g h k ≡ true)
  unfolding some
  some-find test e =
      let g = any-find _ xs e in
      let h = any-find _ xs g.2 in
      let k = any-find _ xs h.2 in
      (g.0, h.0, k.0, g.1, h.1, k.1, k.2)

  pub some-hit : (test : ℕ → ℕ → ℕ → Bool) {g h k : ℕ} → Memᴰ g xs → Memᴰ h xs → Memᴰ k xs → test g h k ≡ true → some xs test ≡ true
  unfolding some
  some-hit test a b c e = any-hit _ a (any-hit _ b (any-hit _ c e))

  pub some-none : (test : ℕ → ℕ → ℕ → Bool) → ((g h k : ℕ) → test g h k ≡ false) → some xs test ≡ false
  some-none test never = not-true _ (λ e. let r = some-find test e in false≢true (sym (never r.0 r.1 r.2) ∙ r.6))

  pub some_same : (test more : ℕ → ℕ → ℕ → Bool) → ((g h k : ℕ) → test g h k ≡ more g h k) → some xs test ≡ some xs more
  some_same test more same =
      same_truth _ _ (λ e. let r = some-find test e in some-hit more r.3 r.4 r.5 (sym (same _ _ _) ∙ r.6))
      (λ e. let r = some-find more e in some-hit test r.3 r.4 r.5 (same _ _ _ ∙ r.6))

  -- a test that does not look at them
  pub some-const : (b : Bool) {g : ℕ} → Memᴰ g xs → some xs (λ g h k. b) ≡ b
  some-const true m = some-hit _ m m m refl
  some-const false m = some-none _ (λ g h k. refl)

  module _ (test : ℕ → ℕ → ℕ → Bool) (g h k : ℕ) (a : Memᴰ g xs) (b : Memᴰ h xs) (c : Memᴰ k xs) where
    -- where these pass if any do, the search is one test
    pub only : ((x y z : ℕ) → test x y z ≡ true → test g h k ≡ true) → test g h k ≡ some xs test
    only alone = same_truth _ _ (λ e. some-hit test a b c e) (λ e. let r = some-find test e in alone r.0 r.1 r.2 r.6)

    -- so also where no others can pass
    pub solved : ((x y z : ℕ) → test x y z ≡ true → (g ≡ x) × (h ≡ y) × (k ≡ z)) → test g h k ≡ some xs test
    solved same = only (λ x y z e. let q = same x y z e in rw (q.0, q.1, q.2) e)
