-- The search for groups: the last group of the path ends and gets its number, and what holds of the arrays still does.
-- `edge x y`: y is a part of x. `Way x y`: y is reached from x by edges. Assumes nothing.
use mathlib.Core.Path.{◌≡◌, sym, ap, ◌∙◌}
use mathlib.Core.Logic.{◌⊎◌, inl, inr}
use mathlib.Core.Bool.{Bool, true, false}
use Prim.Native.Nat.{ℕ, ◌<◌, ◌≤◌}
use native.Mathlib.Decide.{ℕ_discrete, dec_lt}
use native.Mathlib.Omega.{arith}
use lib.Dec.{eqb}
use Rattle.lists.specs.Tally.{tally}
use Rattle.lists.proofs.Tallies.{tally-mono}
use Rattle.groups.specs.Search as on
use Rattle.groups.specs.Search.{State, Free}

module _ (n none : ℕ) (wide : n ≤ none) (edge : ℕ → ℕ → Bool) (Way : ℕ → ℕ → Type 0) where
  abbrev Settled : State → ℕ → ℕ → Type 0
  Settled = on.Settled n none edge Way

  abbrev Good : State → (ℕ → Bool) → Type 0
  Good = on.Good n none edge Way

  abbrev Closed : State → State → ℕ → ℕ → Type 0
  Closed = on.Closed n none edge Way

  module _ (S S' : State) (gray : ℕ → Bool) (G : Good S gray) (t at : ℕ) (C : Closed S S' t at) where
    inner : at < S.len
    inner = omega (arith, G.steps t (omega (arith, C.top-was)), C.begins)

    number_small : S.count < none
    number_small = omega (arith, G.room, inner)

    -- a piece is of the group that ends, or is as it was
    pub data Side (x : ℕ) : Type 0 where
      member : at ≤ S.pos x → S.pos x < S.len → S.path (S.pos x) ≡ x → S.done x ≡ none → S'.done x ≡ S.count → Side x
      outside : S'.done x ≡ S.done x → (S.done x ≡ none → S.pos x < none → S.pos x < at) → Side x

    pub side : (x : ℕ) → x < n → Side x
    side x l = go (G.ended x l) (dec_lt (S.pos x) none) (dec_lt (S.pos x) at)
      where
        apart : (S.done x ≡ none → S.pos x < none → S.pos x < at) → (i : ℕ) → at ≤ i → i < S.len → S.path i ≡ x → ⊥
        apart h i a b e =
            let s = G.seat i b in
            let p : S.pos x ≡ i = ap S.pos (sym e) ∙ s.1 in
            omega (arith, p, h (ap S.done (sym e) ∙ s.2) (omega (arith, p, G.room)))

        out : (S.done x ≡ none → S.pos x < none → S.pos x < at) → Side x
        out h = outside (C.done-out x (apart h)) h

        go : (S.done x ≡ none) ⊎ ((S.done x < S.count) × (S.pos x < none)) → Dec (S.pos x < none) → Dec (S.pos x < at) → Side x
        go (inr d) p q = out (λ a b. absurd (omega (arith, d.0, number_small)))
        go (inl d) (no p) q = out (λ a b. absurd (p b))
        go (inl d) (yes p) (yes q) = out (λ a b. q)
        go (inl d) (yes p) (no q) =
            let s = G.active x l p d in
            member (omega arith) s.0 s.1 d (ap S'.done (sym s.1) ∙ C.done-in (S.pos x) (omega arith) s.0)

    shut-free-old : (i j : ℕ) → j < at → Free S' i j → Free S i j
    shut-free-old i j l F k m = pick (ℕ_discrete k t)
      where
        go : (S'.bound k ≤ i) ⊎ (j < S'.bound k) → (S.bound k ≤ i) ⊎ (j < S.bound k)
        go (inl a) = inl (omega (arith, C.bound-is k))
        go (inr a) = inr (omega (arith, C.bound-is k))

        pick : Dec (k ≡ t) → (S.bound k ≤ i) ⊎ (j < S.bound k)
        pick (yes e) = inr (omega (arith, ap S.bound e, C.begins))
        pick (no e) = go (F k (omega (arith, C.top-is, C.top-was)))

    shut-free-new : (i j : ℕ) → Free S i j → Free S' i j
    shut-free-new i j F k m = go (F k (omega (arith, C.top-is, C.top-was)))
      where
        go : (S.bound k ≤ i) ⊎ (j < S.bound k) → (S'.bound k ≤ i) ⊎ (j < S'.bound k)
        go (inl a) = inl (omega (arith, C.bound-is k))
        go (inr a) = inr (omega (arith, C.bound-is k))

    -- all bounds are at or before the group's
    bounds-low : (k : ℕ) → k < S.top → S.bound k ≤ at
    bounds-low k m = pick (ℕ_discrete k t)
      where
        pick : Dec (k ≡ t) → S.bound k ≤ at
        pick (yes e) = omega (arith, ap S.bound e, C.begins)
        pick (no e) = omega (arith, G.climb k t (omega (arith, C.top-was)) (omega (arith, C.top-was)), C.begins)

    shut-seat : (i : ℕ) → i < S'.len → (S'.path i < n) × (S'.pos (S'.path i) ≡ i) × (S'.done (S'.path i) ≡ none)
    shut-seat i l =
        let m : i < S.len = omega (arith, C.len_is, inner) in
        let s = G.seat i m in
        rw (C.path-is i) (s.0, C.pos-is (S.path i) ∙ s.1, go s (side (S.path i) s.0))
      where
        go : (S.path i < n) × (S.pos (S.path i) ≡ i) × (S.done (S.path i) ≡ none) → Side (S.path i) → S'.done (S.path i) ≡ none
        go s (member a b c d e) = absurd (omega (arith, s.1, C.len_is))
        go s (outside a b) = a ∙ s.2

    shut-active : (x : ℕ) → x < n → S'.pos x < none → S'.done x ≡ none → (S'.pos x < S'.len) × (S'.path (S'.pos x) ≡ x)
    shut-active x l a b = go (side x l)
      where
        go : Side x → (S'.pos x < S'.len) × (S'.path (S'.pos x) ≡ x)
        go (member p q r d e) = absurd (omega (arith, e, b, number_small))
        go (outside e h) =
            let d : S.done x ≡ none = sym e ∙ b in
            let p : S.pos x < none = omega (arith, C.pos-is x) in
            let s = G.active x l p d in
            (omega (arith, C.pos-is x, C.len_is, h d p), ap S'.path (C.pos-is x) ∙ C.path-is (S.pos x) ∙ s.1)

    shut-spot : (x : ℕ) → x < n → (S'.pos x ≡ none) ⊎ (S'.pos x < none)
    shut-spot x l = go (G.spot x l)
      where
        go : (S.pos x ≡ none) ⊎ (S.pos x < none) → (S'.pos x ≡ none) ⊎ (S'.pos x < none)
        go (inl e) = inl (C.pos-is x ∙ e)
        go (inr e) = inr (omega (arith, C.pos-is x))

    shut-ended : (x : ℕ) → x < n → (S'.done x ≡ none) ⊎ ((S'.done x < S'.count) × (S'.pos x < none))
    shut-ended x l = go (side x l) (G.ended x l)
      where
        go : Side x → (S.done x ≡ none) ⊎ ((S.done x < S.count) × (S.pos x < none)) → (S'.done x ≡ none) ⊎ ((S'.done x < S'.count) × (S'.pos x < none))
        go (member p q r d e) f = inr (omega (arith, e, C.count-is), omega (arith, C.pos-is x, q, G.room))
        go (outside e h) (inl d) = inl (e ∙ d)
        go (outside e h) (inr d) = inr (omega (arith, e, d.0, C.count-is), omega (arith, C.pos-is x, d.1))

    shut_one : (x y : ℕ) → x < n → y < n → S'.done x < none → S'.done x ≡ S'.done y → Way x y
    shut_one x y a b c d = go (side x a) (side y b)
      where
        low : (z : ℕ) → z < n → S.done z ≡ S.count → S.done z < none → ⊥
        low z l e f = pick (G.ended z l)
          where
            pick : (S.done z ≡ none) ⊎ ((S.done z < S.count) × (S.pos z < none)) → ⊥
            pick (inl q) = omega arith
            pick (inr q) = omega (arith, q.0)

        both : at ≤ S.pos x → S.pos x < S.len → S.path (S.pos x) ≡ x → at ≤ S.pos y → S.pos y < S.len → S.path (S.pos y) ≡ y → Dec (S.pos x < S.pos y) → Way x y
        both p q r p' q' r' (yes l) = rw (r, r') at (G.forth (S.pos x) (S.pos y) (omega arith) q')
        both p q r p' q' r' (no l) = rw (r, r') at (G.back (S.pos y) (S.pos x) (omega arith) q (λ k m. inl (omega (arith, bounds-low k m))))

        go : Side x → Side y → Way x y
        go (member p q r f e) (member p' q' r' f' e') = both p q r p' q' r' (dec_lt (S.pos x) (S.pos y))
        go (member p q r f e) (outside e' h) = absurd (low y b (sym e' ∙ sym d ∙ e) (omega (arith, e', d)))
        go (outside e h) (member p q r f e') = absurd (low x a (sym e ∙ d ∙ e') (omega (arith, e)))
        go (outside e h) (outside e' h') = G.one x y a b (omega (arith, e)) (sym e ∙ d ∙ e')

    shut-settled : (x : ℕ) → x < n → S'.pos x < none → gray x ≡ false → (y : ℕ) → y < n → edge x y ≡ true → Settled S' x y
    shut-settled x a b c y d e = record {
      seen = omega (arith, C.pos-is y, Q.seen);
      over = λ f. over (side x a) (side y d) f;
      onto = λ f. onto (side x a) (side y d) f;
    }
      where
        Q : Settled S x y
        Q = G.settled x a (omega (arith, C.pos-is x)) c y d e

        ended-low : S.done y < none → S.done y < S.count
        ended-low f = pick (G.ended y d)
          where
            pick : (S.done y ≡ none) ⊎ ((S.done y < S.count) × (S.pos y < none)) → S.done y < S.count
            pick (inl q) = absurd (omega arith)
            pick (inr q) = q.0

        -- from the group that ends, to one that has not: it is in the group
        within : at ≤ S.pos x → (S.bound t ≤ S.pos y) ⊎ (S.pos x < S.bound t) → at ≤ S.pos y
        within p (inl q) = omega (arith, C.begins)
        within p (inr q) = absurd (omega (arith, C.begins))

        from-group : at ≤ S.pos x → S.done y ≡ S'.done y → (S.done y ≡ none → S.pos y < none → S.pos y < at) → (S.done y < none) ⊎ Free S (S.pos y) (S.pos x) → S'.done y ≤ S.count
        from-group p g h (inl q) = omega (arith, g, ended-low q)
        from-group p g h (inr q) = pick (G.ended y d)
          where
            pick : (S.done y ≡ none) ⊎ ((S.done y < S.count) × (S.pos y < none)) → S'.done y ≤ S.count
            pick (inl z) = absurd (omega (arith, h z Q.seen, within p (q t (omega (arith, C.top-was)))))
            pick (inr z) = omega (arith, g, z.0)

        over : Side x → Side y → S'.done x < none → S'.done y ≤ S'.done x
        over (member p q r f g) (member p' q' r' f' g') z = omega (arith, g, g')
        over (member p q r f g) (outside g' h) z = omega (arith, g, from-group p (sym g') h (Q.onto f))
        over (outside g h) (member p q r f g') z = absurd (omega (arith, g, Q.over (omega (arith, g))))
        over (outside g h) (outside g' h') z = omega (arith, g, g', Q.over (omega (arith, g)))

        turn : Side y → (S.done y < none) ⊎ Free S (S.pos y) (S.pos x) → (S'.done y < none) ⊎ Free S' (S'.pos y) (S'.pos x)
        turn (member p q r f g) w = inl (omega (arith, g, number_small))
        turn (outside g h) (inl w) = inl (omega (arith, g))
        turn (outside g h) (inr w) = inr (rw (C.pos-is x, C.pos-is y) (shut-free-new (S.pos y) (S.pos x) w))

        onto : Side x → Side y → S'.done x ≡ none → (S'.done y < none) ⊎ Free S' (S'.pos y) (S'.pos x)
        onto (member p q r f g) s z = absurd (omega (arith, g, number_small))
        onto (outside g h) s z = turn s (Q.onto (sym g ∙ z))

    unseen_same : tally (λ x. eqb (S'.pos x) none) n ≤ tally (λ x. eqb (S.pos x) none) n
    unseen_same = tally-mono (λ x. eqb (S'.pos x) none) (λ x. eqb (S.pos x) none) n (λ x l e. rw (C.pos-is x) at e)

    shut-base : 0 < S'.len → (0 < S'.top) × (S'.bound 0 ≡ 0)
    shut-base l = go (ℕ_discrete t 0)
      where
        b : (0 < S.top) × (S.bound 0 ≡ 0)
        b = G.base (omega (arith, inner))

        go : Dec (t ≡ 0) → (0 < S'.top) × (S'.bound 0 ≡ 0)
        go (yes e) = absurd (omega (arith, ap S.bound e, C.begins, b.1, C.len_is))
        go (no e) = (omega (arith, C.top-is), C.bound-is 0 ∙ b.1)

    shut-full : (f : ℕ) → f < S'.count → Dec (f ≡ S.count) → (x : ℕ) × (x < n) × (S'.done x ≡ f)
    shut-full f l (yes q) = (S.path at, (G.seat at inner).0, C.done-in at (omega arith) inner ∙ sym q)
    shut-full f l (no q) = go (G.full f (omega (arith, C.count-is)))
      where
        go : (x : ℕ) × (x < n) × (S.done x ≡ f) → (x : ℕ) × (x < n) × (S'.done x ≡ f)
        go (x, a, b) = (x, a, pick (side x a))
          where
            pick : Side x → S'.done x ≡ f
            pick (member p r t d e) = absurd (omega (arith, b, d, number_small, C.count-is))
            pick (outside e h) = e ∙ b

    pub shut-good : Good S' gray
    shut-good = record {
      seat = shut-seat;
      active = shut-active;
      spot = shut-spot;
      ended = shut-ended;
      steps = λ k l.
          let m : k < S.top = omega (arith, C.top-is, C.top-was) in
          let b = G.climb k t (omega (arith, C.top-is)) (omega (arith, C.top-was)) in
          (omega (arith, C.bound-is k, G.steps k m), omega (arith, C.bound-is k, b, C.begins, C.len_is));
      base = shut-base;
      climb = λ k l a b. omega (arith, C.bound-is k, C.bound-is l, G.climb k l a (omega (arith, C.top-is, C.top-was)));
      forth = λ i j a b. rw (C.path-is i, C.path-is j) (G.forth i j a (omega (arith, C.len_is, inner)));
      back = λ i j a b F. rw (C.path-is i, C.path-is j) (G.back i j a (omega (arith, C.len_is, inner)) (shut-free-old i j (omega (arith, C.len_is)) F));
      one = shut_one;
      settled = shut-settled;
      full = λ f l. shut-full f l (ℕ_discrete f S.count);
      room = omega (arith, G.room, unseen_same, inner, C.count-is, C.len_is);
    }
