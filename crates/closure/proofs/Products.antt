-- The three products against the decision by stored facts and marks: what a meeting of two rows says of a claim. Assumes nothing.
use Prim.Native.Nat.{ℕ, ◌<◌, ◌≤◌}
use mathlib.Core.Path.{◌≡◌, refl, sym, ap, ◌∙◌}
use mathlib.Core.Logic.{◌⊎◌, inl, inr}
use mathlib.Core.Bool.{Bool, true, false, not, ◌&&◌, ◌||◌, false≢true}
use mathlib.Core.List.{List}
use native.Mathlib.Omega.{arith}
use borrow.Author.Tests.{eqb-true, ltb-true, lt-ltb}
use lib.Dec.{eqb, ltb}
use Rattle.lists.specs.Any.{any_below}
use Rattle.lists.proofs.Bools.{and_both, both-and, or-either, left_or, right_or, eqb-self, same_truth, not-is-true}
use Rattle.lists.proofs.Anys.{below-find, below-hit}
use Rattle.rules.specs.Fact.{Fact, PART, APART, MEETS, NOTPART, fact_of, AllWithin, unmarked}
use Rattle.rules.specs.Follows.{storing, turned, meets, derived, follows}
use Rattle.rules.proofs.Facts.{storing-find, storing-hit}
use Rattle.rules.proofs.Paths.{Path, here, top, up, leap, Either, path-below}
use Rattle.rules.proofs.Reach.{path-shows, shows-path}
use Rattle.rules.proofs.Decides.{turned-find, apart-hit, meets-hit, either-in, follows-shape}
use Rattle.rules.proofs.Plain.{inside}
use Rattle.closure.specs.Stored.{stored_bit, meet_bit}
use Rattle.closure.specs.Closed.{part_bit, whole_bit, toward_bit, away_bit, out_bit}
use Rattle.closure.proofs.StoredBits.{turn, either-find, either-hit, straight-find, straight-hit}

-- a product and a meeting of rows, over 2,048 columns
abbrev pub prod : (ℕ → ℕ → Bool) → (ℕ → ℕ → Bool) → ℕ → ℕ → Bool
prod a b r y = any_below (λ x. a r x && b x y) 2048

abbrev pub both : (ℕ → ℕ → Bool) → (ℕ → ℕ → Bool) → ℕ → ℕ → Bool
both a b r s = any_below (λ j. a r j && b s j) 2048

pub prod-find : (a b : ℕ → ℕ → Bool) (r y : ℕ) → prod a b r y ≡ true → (x : ℕ) × (x < 2048) × (a r x ≡ true) × (b x y ≡ true)
prod-find a b r y e = let s = below-find (λ x. a r x && b x y) 2048 e in let t = and_both _ _ s.2 in (s.0, s.1, t.0, t.1)

pub prod-hit : (a b : ℕ → ℕ → Bool) (r y x : ℕ) → x < 2048 → a r x ≡ true → b x y ≡ true → prod a b r y ≡ true
prod-hit a b r y x l h k = below-hit (λ x. a r x && b x y) 2048 x l (both-and h k)

both-find : (a b : ℕ → ℕ → Bool) (r s : ℕ) → both a b r s ≡ true → (j : ℕ) × (j < 2048) × (a r j ≡ true) × (b s j ≡ true)
both-find a b r s e = let f = below-find (λ j. a r j && b s j) 2048 e in let t = and_both _ _ f.2 in (f.0, f.1, t.0, t.1)

both-hit : (a b : ℕ → ℕ → Bool) (r s j : ℕ) → j < 2048 → a r j ≡ true → b s j ≡ true → both a b r s ≡ true
both-hit a b r s j l h k = below-hit (λ j. a r j && b s j) 2048 j l (both-and h k)

-- ---- the products

pub path-above : {n : ℕ} {fs : List Fact} {g k : ℕ} → AllWithin n fs → Path unmarked n fs g k → k < n
path-above i (here l) = l
path-above i (top l w) = path-above i w
path-above i (up m w) = path-above i w
path-above i (leap c l r w) = absurd (false≢true c)

-- g meets all that y is in: y is in g and not marked, or a stored MEETS x y has x in g
data Toward (void : ℕ → Bool) (n : ℕ) (fs : List Fact) (g y : ℕ) : Type 0 where
  held : void y ≡ false → Path unmarked n fs y g → Toward void n fs g y
  met : (x : ℕ) → Either fs MEETS x y → Path unmarked n fs x g → Toward void n fs g y

module _ (n : ℕ) (fs : List Fact) (i : AllWithin n fs) (pos : 0 < n) (fits : n ≤ 2048) where
  -- a bit of D is a path
  pub d-path : {h g : ℕ} → part_bit n fs h g ≡ true → Path unmarked n fs g h
  unfolding part_bit
  d-path {h} {g} e =
      let t = and_both _ _ e in
      let b = and_both _ _ t.0 in
      (follows-shape unmarked n fs i pos (PART g h) (ltb-true g n b.0, ltb-true h n b.1)).0 t.1

  pub path-d : {h g : ℕ} → Path unmarked n fs g h → part_bit n fs h g ≡ true
  unfolding part_bit
  path-d {h} {g} w =
      let lg = path-below i w in
      let lh = path-above i w in
      both-and (both-and (lt-ltb g n lg) (lt-ltb h n lh)) ((follows-shape unmarked n fs i pos (PART g h) (lg, lh)).1 w)

  pub u-path : {g h : ℕ} → whole_bit n fs g h ≡ true → Path unmarked n fs g h
  unfolding whole_bit
  u-path e = d-path e

  pub path-u : {g h : ℕ} → Path unmarked n fs g h → whole_bit n fs g h ≡ true
  unfolding whole_bit
  path-u w = path-d w

  -- and an entry of containment
  pub part-inside : (g h : ℕ) → g < n → h < n → part_bit n fs h g ≡ inside n fs g h
  unfolding part_bit follows derived
  part-inside g h lg lh = rw (lt-ltb g n lg, lt-ltb h n lh)

  shows : {g h : ℕ} → Path unmarked n fs g h → inside n fs g h ≡ true
  shows w = path-shows unmarked n fs i pos w

  path : (g h : ℕ) → g < n → h < n → inside n fs g h ≡ true → Path unmarked n fs g h
  path g h lg lh e = shows-path unmarked n fs i pos g h lg lh e

  -- ---- APART

  p-parts : {g y : ℕ} → away_bit n fs g y ≡ true → (x : ℕ) × Either fs APART x y × Path unmarked n fs g x
  unfolding away_bit fact_of
  p-parts {g} {y} e =
      let s = prod-find (whole_bit n fs) (stored_bit fs 2 true true) g y e in
      (s.0, either-find fs 2 s.0 y s.3, u-path s.2)

  parts-p : {g x y : ℕ} → Either fs APART x y → Path unmarked n fs g x → away_bit n fs g y ≡ true
  unfolding away_bit fact_of
  parts-p {g} {x} {y} e w =
      let lx = path-above i w in
      prod-hit (whole_bit n fs) (stored_bit fs 2 true true) g y x (omega arith) (path-u w) (either-hit fs 2 (λ b c. refl) e)

  pub apart-is : (g k : ℕ) → g < n → k < n → both (away_bit n fs) (whole_bit n fs) g k ≡ storing fs 2 (turned (λ x y. inside n fs g x && inside n fs k y))
  unfolding fact_of
  apart-is g k lg lk =
      same_truth _ _
      (λ e.
      let s = both-find (away_bit n fs) (whole_bit n fs) g k e in
      let q = p-parts s.2 in
      apart-hit fs (λ x y. inside n fs g x && inside n fs k y) q.1 (both-and (shows q.2) (shows (u-path s.3))))
      (λ e.
      let s = turned-find fs (λ x y. inside n fs g x && inside n fs k y) 2 e in
      let l = either-in unmarked n fs i pos 2 (λ a b m. i _ m) s.2 in
      let b = and_both _ _ s.3 in
      both-hit (away_bit n fs) (whole_bit n fs) g k s.1 (omega arith) (parts-p s.2 (path g s.0 lg l.0 b.0)) (path-u (path k s.1 lk l.1 b.1)))

  module _ (void : ℕ → Bool) where
    -- ---- MEETS

    t-toward : {g y : ℕ} → toward_bit void n fs g y ≡ true → Toward void n fs g y
    unfolding toward_bit meet_bit fact_of
    t-toward {g} {y} e =
        let s = prod-find (part_bit n fs) (meet_bit void n fs) g y e in
        pick (d-path s.2) (or-either _ _ s.3)
      where
        pick : {x : ℕ} → Path unmarked n fs x g → ((eqb x y && (ltb x n && not (void x))) ≡ true) ⊎ (stored_bit fs 3 true true x y ≡ true) → Toward void n fs g y
        pick {x} w (inl q) =
            let b = and_both (eqb x y) (ltb x n && not (void x)) q in
            let z = eqb-true x y b.0 in
            held (not-is-true (void y) (ap (λ (v : ℕ). not (void v)) (sym z) ∙ (and_both (ltb x n) (not (void x)) b.1).1)) (rw z at w)
        pick {x} w (inr q) = met x (either-find fs 3 x y q) w

    toward-below : {g y : ℕ} → Toward void n fs g y → y < n
    unfolding fact_of
    toward-below (held c w) = path-below i w
    toward-below (met x e w) = (either-in unmarked n fs i pos 3 (λ a b m. i _ m) e).1

    toward-t : {g y : ℕ} → Toward void n fs g y → toward_bit void n fs g y ≡ true
    unfolding toward_bit meet_bit fact_of
    toward-t {g} {y} (held c w) =
        let ly = path-below i w in
        prod-hit (part_bit n fs) (meet_bit void n fs) g y y (omega arith) (path-d w) (left_or _ (both-and (eqb-self y) (both-and (lt-ltb y n ly) (ap not c))))
    toward-t {g} {y} (met x e w) =
        let lx = path-below i w in
        prod-hit (part_bit n fs) (meet_bit void n fs) g y x (omega arith) (path-d w) (right_or (eqb x y && (ltb x n && not (void x))) (either-hit fs 3 (λ a b. refl) e))

    toward-both : {g k y : ℕ} → Toward void n fs g y → Path unmarked n fs y k → both (toward_bit void n fs) (part_bit n fs) g k ≡ true
    toward-both {g} {k} {y} w v = let l = toward-below w in both-hit (toward_bit void n fs) (part_bit n fs) g k y (omega arith) (toward-t w) (path-d v)

    module _ (g k : ℕ) (lg : g < n) (lk : k < n) where
      abbrev shared : ℕ → Bool
      shared x = not (void x) && (inside n fs x g && inside n fs x k)

      abbrev joining : ℕ → ℕ → Bool
      joining x y = inside n fs x g && inside n fs y k

      meet-shows : {y : ℕ} → Toward void n fs g y → Path unmarked n fs y k → (any_below shared n || storing fs 3 (turned joining)) ≡ true
      meet-shows {y} (held c w) v = left_or _ (below-hit shared n y (path-below i w) (both-and (ap not c) (both-and (shows w) (shows v))))
      meet-shows (met x e w) v = right_or (any_below shared n) (meets-hit fs joining e (both-and (shows w) (shows v)))

      meet-found : (any_below shared n ≡ true) ⊎ (storing fs 3 (turned joining) ≡ true) → both (toward_bit void n fs) (part_bit n fs) g k ≡ true
      unfolding fact_of
      meet-found (inl q) =
          let s = below-find shared n q in
          let b = and_both _ _ s.2 in
          let d = and_both _ _ b.1 in
          toward-both (held (not-is-true _ b.0) (path s.0 g s.1 lg d.0)) (path s.0 k s.1 lk d.1)
      meet-found (inr q) =
          let s = turned-find fs joining 3 q in
          let l = either-in unmarked n fs i pos 3 (λ a b m. i _ m) s.2 in
          let b = and_both _ _ s.3 in
          toward-both (met s.0 s.2 (path s.0 g l.0 lg b.0)) (path s.1 k l.1 lk b.1)

      pub meets-is : both (toward_bit void n fs) (part_bit n fs) g k ≡ meets (inside n fs) void n fs g k
      unfolding meets
      meets-is =
          same_truth _ _
          (λ e. let s = both-find (toward_bit void n fs) (part_bit n fs) g k e in meet-shows (t-toward s.2) (d-path s.3))
          (λ e. meet-found (or-either _ _ e))

    -- ---- NOTPART

    module _ (g k : ℕ) (lg : g < n) (lk : k < n) where
      abbrev over : ℕ → ℕ → Bool
      over x y = inside n fs x g && inside n fs k y

      abbrev beside : ℕ → ℕ → Bool
      beside x y = inside n fs k x && meets (inside n fs) void n fs g y

      q-out : {y : ℕ} → out_bit void n fs g y ≡ true → Path unmarked n fs k y → (storing fs 4 over || storing fs 2 (turned beside)) ≡ true
      unfolding out_bit fact_of
      q-out {y} e w = pick (or-either _ _ e)
        where
          pick : (prod (part_bit n fs) (stored_bit fs 4 true false) g y ≡ true) ⊎ (prod (toward_bit void n fs) (away_bit n fs) g y ≡ true) → (storing fs 4 over || storing fs 2 (turned beside)) ≡ true
          pick (inl h) =
              let s = prod-find (part_bit n fs) (stored_bit fs 4 true false) g y h in
              left_or _ (storing-hit fs 4 over (NOTPART s.0 y) (straight-find fs 4 s.0 y s.3) refl (both-and (shows (d-path s.2)) (shows w)))
          pick (inr h) =
              let s = prod-find (toward_bit void n fs) (away_bit n fs) g y h in
              let r = p-parts s.3 in
              right_or (storing fs 4 over)
              (apart-hit fs beside (turn r.1) (both-and (shows w) (sym (meets-is g r.0 lg (path-above i r.2)) ∙ toward-both (t-toward s.2) r.2)))

      out-q : (storing fs 4 over ≡ true) ⊎ (storing fs 2 (turned beside) ≡ true) → both (out_bit void n fs) (whole_bit n fs) g k ≡ true
      unfolding out_bit fact_of
      out-q (inl e) =
          let s = storing-find fs 4 over e in
          let l = i _ s.2 in
          let b = and_both _ _ s.3 in
          both-hit (out_bit void n fs) (whole_bit n fs) g k s.1 (omega arith)
          (left_or _ (prod-hit (part_bit n fs) (stored_bit fs 4 true false) g s.1 s.0 (omega arith) (path-d (path s.0 g l.0 lg b.0)) (straight-hit fs 4 s.0 s.1 false refl s.2)))
          (path-u (path k s.1 lk l.1 b.1))
      out-q (inr e) =
          let s = turned-find fs beside 2 e in
          let l = either-in unmarked n fs i pos 2 (λ a b m. i _ m) s.2 in
          let b = and_both _ _ s.3 in
          let m = both-find (toward_bit void n fs) (part_bit n fs) g s.1 (meets-is g s.1 lg l.1 ∙ b.1) in
          both-hit (out_bit void n fs) (whole_bit n fs) g k s.0 (omega arith)
          (right_or (prod (part_bit n fs) (stored_bit fs 4 true false) g s.0)
          (prod-hit (toward_bit void n fs) (away_bit n fs) g s.0 m.0 m.1 m.2 (parts-p (turn s.2) (d-path m.3))))
          (path-u (path k s.0 lk l.0 b.0))

      pub notpart-is :
          both (out_bit void n fs) (whole_bit n fs) g k
          ≡ (storing fs 4 (λ x y. inside n fs x g && inside n fs k y) || storing fs 2 (turned (λ x y. inside n fs k x && meets (inside n fs) void n fs g y)))
      notpart-is = same_truth _ _ (λ e. let s = both-find (out_bit void n fs) (whole_bit n fs) g k e in q-out s.2 (u-path s.3)) (λ e. out-q (or-either _ _ e))
