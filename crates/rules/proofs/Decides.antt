-- `follows` decides `Derives`: it is true exactly where the claim has a derivation. Assumes nothing.
use Prim.Native.Nat.{ℕ, ◌<◌}
use mathlib.Core.Path.{◌≡◌, refl, ap}
use mathlib.Core.Logic.{◌⊎◌, inl, inr, ◌↔◌}
use mathlib.Core.Bool.{Bool, true, not, ◌&&◌}
use mathlib.Core.List.{List, Memᴰ}
use Rattle.lists.specs.Any.{any_below}
use Rattle.lists.proofs.Bools.{and_both, both-and, or-either, left_or, right_or, not-is-true}
use Rattle.lists.proofs.Anys.{below-find, below-hit}
use Rattle.rules.specs.Fact.{Fact, PART, APART, MEETS, NOTPART, fact_of, Within, AllWithin}
use Rattle.rules.specs.Derives.{Derives}
use Rattle.rules.specs.Follows.{storing, turned, parting, entry, containment, apart, meets, notpart, derived, follows}
use Rattle.rules.proofs.Facts.{storing-find, storing-hit}
use Rattle.rules.proofs.Paths as on
use Rattle.rules.proofs.Paths.{Path, Either, as_is, swapped, Parting, told, marked, marked-turned, Apart, Meet, common, meet, Out, out, parted, Shape, path-below, shape-derives, derives-shape}
use Rattle.rules.proofs.Reach.{path-shows, shows-path}

-- a stored fact in either order
module _ (fs : List Fact) (test : ℕ → ℕ → Bool) where
  pub turned-find : (k : ℕ) → storing fs k (turned test) ≡ true → (x y : ℕ) × Either fs (fact_of k) x y × (test x y ≡ true)
  unfolding turned
  turned-find k e = let s = storing-find fs k _ e in pick s.0 s.1 s.2 (or-either _ _ s.3)
    where
      pick : (x y : ℕ) → Memᴰ (fact_of k x y) fs → (test x y ≡ true) ⊎ (test y x ≡ true) → (x y : ℕ) × Either fs (fact_of k) x y × (test x y ≡ true)
      pick x y m (inl t) = (x, y, as_is m, t)
      pick x y m (inr t) = (y, x, swapped m, t)

  pub apart-hit : {x y : ℕ} → Either fs APART x y → test x y ≡ true → storing fs 2 (turned test) ≡ true
  unfolding turned
  apart-hit {x} {y} (as_is m) t = storing-hit fs 2 _ (APART x y) m refl (left_or _ t)
  apart-hit {x} {y} (swapped m) t = storing-hit fs 2 _ (APART y x) m refl (right_or (test y x) t)

  -- a given APART in either order
  pub parting-find : (void : ℕ → Bool) (n : ℕ) → parting void n fs (turned test) ≡ true → (x y : ℕ) × Parting void n fs x y × (test x y ≡ true)
  unfolding parting fact_of turned
  parting-find void n e = pick (or-either _ _ e)
    where
      ends : (w : ℕ) → w < n → void w ≡ true → (test w 0 ≡ true) ⊎ (test 0 w ≡ true) → (x y : ℕ) × Parting void n fs x y × (test x y ≡ true)
      ends w l c (inl t) = (w, 0, marked c l, t)
      ends w l c (inr t) = (0, w, marked-turned c l, t)

      pick : (storing fs 2 (turned test) ≡ true) ⊎ (any_below (λ w. void w && turned test w 0) n ≡ true) → (x y : ℕ) × Parting void n fs x y × (test x y ≡ true)
      pick (inl q) = let s = turned-find 2 q in (s.0, s.1, told s.2, s.3)
      pick (inr q) =
          let s = below-find _ n q in
          let b = and_both _ _ s.2 in
          ends s.0 s.1 b.0 (or-either _ _ b.1)

  pub parting-hit : {void : ℕ → Bool} {n : ℕ} {x y : ℕ} → Parting void n fs x y → test x y ≡ true → parting void n fs (turned test) ≡ true
  unfolding parting turned
  parting-hit (told e) t = left_or _ (apart-hit e t)
  parting-hit {void} {n} (marked {w = w} c l) t = right_or (storing fs 2 (turned test)) (below-hit (λ w. void w && turned test w 0) n w l (both-and c (left_or _ t)))
  parting-hit {void} {n} (marked-turned {w = w} c l) t = right_or (storing fs 2 (turned test)) (below-hit (λ w. void w && turned test w 0) n w l (both-and c (right_or (test w 0) t)))

  pub meets-hit : {x y : ℕ} → Either fs MEETS x y → test x y ≡ true → storing fs 3 (turned test) ≡ true
  unfolding turned
  meets-hit {x} {y} (as_is m) t = storing-hit fs 3 _ (MEETS x y) m refl (left_or _ t)
  meets-hit {x} {y} (swapped m) t = storing-hit fs 3 _ (MEETS y x) m refl (right_or (test y x) t)

module _ (void : ℕ → Bool) (n : ℕ) (fs : List Fact) (i : AllWithin n fs) (p : 0 < n) where
  abbrev r : ℕ → ℕ → Bool
  r = entry (containment void n fs)

  pub either-in : {x y : ℕ} (k : ℕ) → ((a b : ℕ) → Memᴰ (fact_of k a b) fs → (a < n) × (b < n)) → Either fs (fact_of k) x y → (x < n) × (y < n)
  either-in k j (as_is m) = j _ _ m
  either-in k j (swapped m) = let b = j _ _ m in (b.1, b.0)

  parting-in : {x y : ℕ} → Parting void n fs x y → (x < n) × (y < n)
  unfolding fact_of
  parting-in (told e) = either-in 2 (λ a b m. i _ m) e
  parting-in (marked c l) = (l, p)
  parting-in (marked-turned c l) = (p, l)

  -- a shape shows
  shows : {g h : ℕ} → Path void n fs g h → r g h ≡ true
  shows w = path-shows void n fs i p w

  meets-shows : {g k : ℕ} → Meet void n fs g k → meets r void n fs g k ≡ true
  unfolding meets
  meets-shows {g} {k} (common x c a b) = left_or _ (below-hit (λ x. not (void x) && (r x g && r x k)) n x (path-below i a) (both-and (ap not c) (both-and (shows a) (shows b))))
  meets-shows {g} {k} (meet x y e a b) = right_or (any_below (λ x. not (void x) && (r x g && r x k)) n) (meets-hit fs _ e (both-and (shows a) (shows b)))

  out-shows : {g k : ℕ} → Out void n fs g k → notpart r void n fs g k ≡ true
  unfolding notpart
  out-shows {g} {k} (out x y m a b) = left_or _ (storing-hit fs 4 (λ x y. r x g && r k y) (NOTPART x y) m refl (both-and (shows a) (shows b)))
  out-shows {g} {k} (parted u v e a b) = right_or (storing fs 4 (λ x y. r x g && r k y)) (parting-hit fs _ e (both-and (shows a) (meets-shows b)))

  shape-shows : (f : Fact) → Shape void n fs f → follows void n fs f ≡ true
  unfolding follows derived apart
  shape-shows (PART g k) s = shows s
  shape-shows (APART g k) (on.apart x y e a b) = parting-hit fs _ e (both-and (shows a) (shows b))
  shape-shows (MEETS g k) s = meets-shows s
  shape-shows (NOTPART g k) s = out-shows s

  -- what shows has a shape
  path : (x y : ℕ) → x < n → y < n → r x y ≡ true → Path void n fs x y
  path = shows-path void n fs i p

  module _ (g k : ℕ) (lg : g < n) (lk : k < n) where
    apart-shown : apart r void n fs g k ≡ true → Apart void n fs g k
    unfolding apart fact_of
    apart-shown e =
        let s = parting-find fs _ void n e in
        let l = parting-in s.2 in
        let b = and_both _ _ s.3 in
        on.apart s.0 s.1 s.2 (path g s.0 lg l.0 b.0) (path k s.1 lk l.1 b.1)

    meet-shown : meets r void n fs g k ≡ true → Meet void n fs g k
    unfolding meets fact_of
    meet-shown e = pick (or-either _ _ e)
      where
        pick : (any_below (λ x. not (void x) && (r x g && r x k)) n ≡ true) ⊎ (storing fs 3 (turned (λ x y. r x g && r y k)) ≡ true) → Meet void n fs g k
        pick (inl q) =
            let s = below-find (λ x. not (void x) && (r x g && r x k)) n q in
            let f = and_both _ _ s.2 in
            let b = and_both _ _ f.1 in
            common s.0 (not-is-true (void s.0) f.0) (path s.0 g s.1 lg b.0) (path s.0 k s.1 lk b.1)
        pick (inr q) =
            let s = turned-find fs _ 3 q in
            let l = either-in 3 (λ a b m. i _ m) s.2 in
            let b = and_both _ _ s.3 in
            meet s.0 s.1 s.2 (path s.0 g l.0 lg b.0) (path s.1 k l.1 lk b.1)

  out-shown : (g k : ℕ) → g < n → k < n → notpart r void n fs g k ≡ true → Out void n fs g k
  unfolding notpart fact_of
  out-shown g k lg lk e = pick (or-either _ _ e)
    where
      pick : (storing fs 4 (λ x y. r x g && r k y) ≡ true) ⊎ (parting void n fs (turned (λ x y. r k x && meets r void n fs g y)) ≡ true) → Out void n fs g k
      pick (inl q) =
          let s = storing-find fs 4 _ q in
          let l = i _ s.2 in
          let b = and_both _ _ s.3 in
          out s.0 s.1 s.2 (path s.0 g l.0 lg b.0) (path k s.1 lk l.1 b.1)
      pick (inr q) =
          let s = parting-find fs _ void n q in
          let l = parting-in s.2 in
          let b = and_both _ _ s.3 in
          parted s.0 s.1 s.2 (path k s.0 lk l.0 b.0) (meet-shown g s.1 lg l.1 b.1)

  shows-shape : (f : Fact) → Within n f → follows void n fs f ≡ true → Shape void n fs f
  unfolding follows derived
  shows-shape (PART g k) c e = path g k c.0 c.1 e
  shows-shape (APART g k) c e = apart-shown g k c.0 c.1 e
  shows-shape (MEETS g k) c e = meet-shown g k c.0 c.1 e
  shows-shape (NOTPART g k) c e = out-shown g k c.0 c.1 e

  -- a claim follows exactly where it has its shape: the law that later layers prove their code against
  pub follows-shape : (f : Fact) → Within n f → (follows void n fs f ≡ true) ↔ Shape void n fs f
  follows-shape f c = (shows-shape f c, shape-shows f)

  -- and exactly where it has a derivation
  pub follows-iff : (f : Fact) → Within n f → (follows void n fs f ≡ true) ↔ Derives void n fs f
  follows-iff f c = (λ e. shape-derives i p f (shows-shape f c e), λ d. shape-shows f (derives-shape i f p d))
