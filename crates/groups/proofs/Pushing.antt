-- The search for groups: a piece is put at the end of the path, as a group of its own, and what holds of the arrays still does.
-- `edge x y`: y is a part of x. `Way x y`: y is reached from x by edges. Assumes nothing.
use mathlib.Core.Path.{◌≡◌, refl, sym, ap, ◌∙◌}
use mathlib.Core.Logic.{◌⊎◌, inl, inr}
use mathlib.Core.Bool.{Bool, true, false, ◌||◌}
use Prim.Native.Nat.{ℕ, zero, suc, ◌<◌, ◌≤◌}
use native.Mathlib.Decide.{ℕ_discrete, dec_lt}
use native.Mathlib.Omega.{arith}
use borrow.Author.Tests.{eqb-true, eqb-false, eq-eqb, ne_eqb}
use lib.Dec.{eqb}
use Rattle.lists.proofs.Bools.{or-neither}
use Rattle.lists.specs.Tally.{tally}
use Rattle.lists.proofs.Tallies.{tally-more, tally-some}
use Rattle.groups.specs.Search as on
use Rattle.groups.specs.Search.{State, Free}
use Rattle.groups.proofs.Gray.{with}

module _ (n none : ℕ) (wide : n ≤ none) (edge : ℕ → ℕ → Bool) (Way : ℕ → ℕ → Type 0) (way-self : (x : ℕ) → Way x x) where
  abbrev Settled : State → ℕ → ℕ → Type 0
  Settled = on.Settled n none edge Way

  abbrev Good : State → (ℕ → Bool) → Type 0
  Good = on.Good n none edge Way

  abbrev Pushed : State → State → ℕ → Type 0
  Pushed = on.Pushed n none edge Way

  module _ (S S' : State) (gray : ℕ → Bool) (G : Good S gray) (v : ℕ) (vn : v < n) (new : S.pos v ≡ none)
      (reached : (i : ℕ) → i < S.len → Way (S.path i) v) (T : Pushed S S' v) where
    pub fresh : S.done v ≡ none
    fresh = go (G.ended v vn)
      where
        go : (S.done v ≡ none) ⊎ ((S.done v < S.count) × (S.pos v < none)) → S.done v ≡ none
        go (inl e) = e
        go (inr e) = absurd (omega (arith, e.1))

    small : S.len ≤ n
    small = omega (arith, G.room)

    pub other : (x : ℕ) → S.pos x < none → x ≡ v → ⊥
    other x l e = omega (arith, ap S.pos e)

    top-len : S.top ≤ S.len
    top-len = go S.top refl
      where
        go : (t : ℕ) → S.top ≡ t → t ≤ S.len
        go zero e = omega arith
        go (suc t) e = omega (arith, G.steps t (omega arith))

    -- a run of the path is free of bounds before if it is after, where it ends before v
    free-old : (i j : ℕ) → Free S' i j → Free S i j
    free-old i j F k l = go (F k (omega (arith, T.top-is)))
      where
        go : (S'.bound k ≤ i) ⊎ (j < S'.bound k) → (S.bound k ≤ i) ⊎ (j < S.bound k)
        go (inl a) = inl (omega (arith, T.bound-other k l))
        go (inr a) = inr (omega (arith, T.bound-other k l))

    free_new : (i j : ℕ) → j < S.len → Free S i j → Free S' i j
    free_new i j b F k l = pick (ℕ_discrete k S.top)
      where
        go : k < S.top → (S.bound k ≤ i) ⊎ (j < S.bound k) → (S'.bound k ≤ i) ⊎ (j < S'.bound k)
        go m (inl a) = inl (omega (arith, T.bound-other k m))
        go m (inr a) = inr (omega (arith, T.bound-other k m))

        pick : Dec (k ≡ S.top) → (S'.bound k ≤ i) ⊎ (j < S'.bound k)
        pick (yes e) = inr (omega (arith, ap S'.bound e, T.bound_at))
        pick (no e) = let m : k < S.top = omega (arith, T.top-is) in go m (F k m)

    pushed-seat : (i : ℕ) → i < S'.len → (S'.path i < n) × (S'.pos (S'.path i) ≡ i) × (S'.done (S'.path i) ≡ none)
    pushed-seat i l = go (ℕ_discrete i S.len)
      where
        go : Dec (i ≡ S.len) → (S'.path i < n) × (S'.pos (S'.path i) ≡ i) × (S'.done (S'.path i) ≡ none)
        go (yes e) = let p : S'.path i ≡ v = ap S'.path e ∙ T.path-at in rw p (vn, T.pos-at ∙ sym e, T.done-is v ∙ fresh)
        go (no e) =
            let m : i < S.len = omega (arith, T.len_is) in
            let s = G.seat i m in
            rw (T.path-other i m) (s.0, T.pos-other (S.path i) (other (S.path i) (omega (arith, s.1))) ∙ s.1, T.done-is (S.path i) ∙ s.2)

    pushed-active : (x : ℕ) → x < n → S'.pos x < none → S'.done x ≡ none → (S'.pos x < S'.len) × (S'.path (S'.pos x) ≡ x)
    pushed-active x l a b = go (ℕ_discrete x v)
      where
        go : Dec (x ≡ v) → (S'.pos x < S'.len) × (S'.path (S'.pos x) ≡ x)
        go (yes e) =
            let p : S'.pos x ≡ S.len = ap S'.pos e ∙ T.pos-at in
            (omega (arith, p, T.len_is), ap S'.path p ∙ T.path-at ∙ sym e)
        go (no e) =
            let p = T.pos-other x e in
            let s = G.active x l (omega arith) (sym (T.done-is x) ∙ b) in
            (omega (arith, s.0, T.len_is), ap S'.path p ∙ T.path-other (S.pos x) s.0 ∙ s.1)

    pushed-spot : (x : ℕ) → x < n → (S'.pos x ≡ none) ⊎ (S'.pos x < none)
    pushed-spot x l = go (ℕ_discrete x v) (G.spot x l)
      where
        go : Dec (x ≡ v) → (S.pos x ≡ none) ⊎ (S.pos x < none) → (S'.pos x ≡ none) ⊎ (S'.pos x < none)
        go (yes e) d = inr (omega (arith, ap S'.pos e, T.pos-at, G.room, tally-some (λ x. eqb (S.pos x) none) n v vn (eq-eqb (S.pos v) none new)))
        go (no e) (inl d) = inl (T.pos-other x e ∙ d)
        go (no e) (inr d) = inr (omega (arith, T.pos-other x e))

    pushed-ended : (x : ℕ) → x < n → (S'.done x ≡ none) ⊎ ((S'.done x < S'.count) × (S'.pos x < none))
    pushed-ended x l = go (G.ended x l)
      where
        go : (S.done x ≡ none) ⊎ ((S.done x < S.count) × (S.pos x < none)) → (S'.done x ≡ none) ⊎ ((S'.done x < S'.count) × (S'.pos x < none))
        go (inl e) = inl (T.done-is x ∙ e)
        go (inr e) = inr (omega (arith, T.done-is x, T.count-is, e.0), omega (arith, T.pos-other x (other x e.1), e.1))

    pushed-steps : (k : ℕ) → k < S'.top → (k ≤ S'.bound k) × (S'.bound k < S'.len)
    pushed-steps k l = go (ℕ_discrete k S.top)
      where
        go : Dec (k ≡ S.top) → (k ≤ S'.bound k) × (S'.bound k < S'.len)
        go (yes e) = let b : S'.bound k ≡ S.len = ap S'.bound e ∙ T.bound_at in (omega (arith, b, top-len), omega (arith, b, T.len_is))
        go (no e) = let m : k < S.top = omega (arith, T.top-is) in let b = T.bound-other k m in (omega (arith, G.steps k m), omega (arith, G.steps k m, T.len_is))

    pushed-climb : (k l : ℕ) → k < l → l < S'.top → S'.bound k < S'.bound l
    pushed-climb k l a b = go (ℕ_discrete l S.top)
      where
        go : Dec (l ≡ S.top) → S'.bound k < S'.bound l
        go (yes e) =
            let c : S'.bound l ≡ S.len = ap S'.bound e ∙ T.bound_at in
            let m : k < S.top = omega arith in
            omega (arith, c, T.bound-other k m, G.steps k m)
        go (no e) = let m : l < S.top = omega (arith, T.top-is) in omega (arith, T.bound-other l m, T.bound-other k (omega arith), G.climb k l a m)

    pushed-base : 0 < S'.len → (0 < S'.top) × (S'.bound 0 ≡ 0)
    pushed-base l = go (ℕ_discrete S.top 0)
      where
        none_yet : S.top ≡ 0 → Dec (0 < S.len) → S.len ≡ 0
        none_yet e (yes a) = absurd (omega (arith, G.base a))
        none_yet e (no a) = omega arith

        go : Dec (S.top ≡ 0) → (0 < S'.top) × (S'.bound 0 ≡ 0)
        go (yes e) = (omega (arith, T.top-is), ap S'.bound (sym e) ∙ T.bound_at ∙ none_yet e (dec_lt 0 S.len))
        go (no e) = let m : 0 < S.top = omega arith in (omega (arith, T.top-is), T.bound-other 0 m ∙ (G.base (omega (arith, G.steps 0 m))).1)

    pushed-forth : (i j : ℕ) → i ≤ j → j < S'.len → Way (S'.path i) (S'.path j)
    pushed-forth i j a b = go (ℕ_discrete j S.len) (ℕ_discrete i j)
      where
        go : Dec (j ≡ S.len) → Dec (i ≡ j) → Way (S'.path i) (S'.path j)
        go d (yes e) = rw e (way-self (S'.path j))
        go (yes d) (no e) = let m : i < S.len = omega arith in rw (d, T.path-at, T.path-other i m) (reached i m)
        go (no d) (no e) = let m : j < S.len = omega (arith, T.len_is) in rw (T.path-other i (omega arith), T.path-other j m) (G.forth i j a m)

    pushed_back : (i j : ℕ) → i ≤ j → j < S'.len → Free S' i j → Way (S'.path j) (S'.path i)
    pushed_back i j a b F = go (ℕ_discrete j S.len) (ℕ_discrete i j)
      where
        cut : j ≡ S.len → (i ≡ j → ⊥) → (S'.bound S.top ≤ i) ⊎ (j < S'.bound S.top) → ⊥
        cut d e (inl q) = omega (arith, T.bound_at)
        cut d e (inr q) = omega (arith, T.bound_at)

        go : Dec (j ≡ S.len) → Dec (i ≡ j) → Way (S'.path j) (S'.path i)
        go d (yes e) = rw e (way-self (S'.path j))
        go (yes d) (no e) = absurd (cut d e (F S.top (omega (arith, T.top-is))))
        go (no d) (no e) = let m : j < S.len = omega (arith, T.len_is) in rw (T.path-other i (omega arith), T.path-other j m) (G.back i j a m (free-old i j F))

    pushed-one : (x y : ℕ) → x < n → y < n → S'.done x < none → S'.done x ≡ S'.done y → Way x y
    pushed-one x y a b c d = G.one x y a b (omega (arith, T.done-is x)) (sym (T.done-is x) ∙ d ∙ T.done-is y)

    pushed-settled : (x : ℕ) → x < n → S'.pos x < none → (gray x || eqb x v) ≡ false → (y : ℕ) → y < n → edge x y ≡ true → Settled S' x y
    pushed-settled x a b c y d e = record {
      seen = omega (arith, py, Q.seen);
      over = λ f. omega (arith, T.done-is x, T.done-is y, Q.over (omega (arith, T.done-is x)));
      onto = λ f. go (sym (T.done-is x) ∙ f) (Q.onto (sym (T.done-is x) ∙ f));
    }
      where
        px : S'.pos x ≡ S.pos x
        px = T.pos-other x (eqb-false x v (or-neither (gray x) (eqb x v) c).1)

        Q : Settled S x y
        Q = G.settled x a (omega (arith, px)) (or-neither (gray x) (eqb x v) c).0 y d e

        py : S'.pos y ≡ S.pos y
        py = T.pos-other y (other y Q.seen)

        go : S.done x ≡ none → (S.done y < none) ⊎ Free S (S.pos y) (S.pos x) → (S'.done y < none) ⊎ Free S' (S'.pos y) (S'.pos x)
        go f (inl q) = inl (omega (arith, T.done-is y))
        go f (inr q) = inr (rw (px, py) (free_new (S.pos y) (S.pos x) (G.active x a (omega (arith, px)) f).0 q))

    fewer : tally (λ x. eqb (S'.pos x) none) n < tally (λ x. eqb (S.pos x) none) n
    fewer = tally-more (λ x. eqb (S'.pos x) none) (λ x. eqb (S.pos x) none) n v
        (λ x l e. pick x l (eqb-true (S'.pos x) none e) (ℕ_discrete x v))
        vn (ne_eqb (S'.pos v) none (λ e. omega (arith, T.pos-at, below))) (eq-eqb (S.pos v) none new)
      where
        some : 0 < tally (λ x. eqb (S.pos x) none) n
        some = tally-some (λ x. eqb (S.pos x) none) n v vn (eq-eqb (S.pos v) none new)

        below : S.len < n
        below = omega (arith, G.room, some)

        pick : (x : ℕ) → x < n → S'.pos x ≡ none → Dec (x ≡ v) → eqb (S.pos x) none ≡ true
        pick x l e (yes q) = absurd (omega (arith, ap S'.pos q, T.pos-at, below))
        pick x l e (no q) = eq-eqb (S.pos x) none (sym (T.pos-other x q) ∙ e)

    pub push-good : Good S' (with gray v)
    push-good = record {
      seat = pushed-seat;
      active = pushed-active;
      spot = pushed-spot;
      ended = pushed-ended;
      steps = pushed-steps;
      climb = pushed-climb;
      base = pushed-base;
      forth = pushed-forth;
      back = pushed_back;
      one = pushed-one;
      settled = pushed-settled;
      full = λ f l. let x = G.full f (omega (arith, T.count-is)) in (x.0, x.1, T.done-is x.0 ∙ x.2);
      room = omega (arith, G.room, fewer, T.len_is, T.count-is);
    }

    -- the measure of the recursion
    pub push-falls : tally (λ x. eqb (S'.pos x) none) n < tally (λ x. eqb (S.pos x) none) n
    push-falls = fewer
