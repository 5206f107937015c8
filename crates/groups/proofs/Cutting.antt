-- The search for groups: an edge leads back to w on the path, and the groups from that of w on become one: bounds are cut.
-- `edge x y`: y is a part of x. `Way x y`: y is reached from x by edges. Assumes nothing.
use mathlib.Core.Path.{◌≡◌}
use mathlib.Core.Logic.{◌⊎◌, inl, inr}
use mathlib.Core.Bool.{Bool, true, false}
use Prim.Native.Nat.{ℕ, ◌<◌, ◌≤◌}
use native.Mathlib.Decide.{ℕ_discrete, dec_lt}
use native.Mathlib.Omega.{arith}
use Rattle.groups.specs.Search as on
use Rattle.groups.specs.Search.{State, Free}

abbrev pub cut_to : State → ℕ → State
cut_to S t = record { pos = S.pos; done = S.done; path = S.path; bound = S.bound; len = S.len; top = t; count = S.count }

module _ (n none : ℕ) (edge : ℕ → ℕ → Bool) (Way : ℕ → ℕ → Type 0)
    (way-join : (x y z : ℕ) → Way x y → Way y z → Way x z) (way-edge : (x y : ℕ) → y < n → edge x y ≡ true → Way x y) where
  abbrev Settled : State → ℕ → ℕ → Type 0
  Settled = on.Settled n none edge Way

  abbrev Good : State → (ℕ → Bool) → Type 0
  Good = on.Good n none edge Way

  module _ (S : State) (gray : ℕ → Bool) (G : Good S gray) (u : ℕ) (un : u < n) (u-seen : S.pos u < none) (u-on : S.done u ≡ none)
      (flat : (k : ℕ) → k < S.top → S.bound k ≤ S.pos u) where
    -- all that is on the path leads to u, the last one whose edges are looked at
    pub all-lead : (j : ℕ) → j < S.len → Way (S.path j) u
    all-lead j l = go (dec_lt (S.pos u) j)
      where
        a : (S.pos u < S.len) × (S.path (S.pos u) ≡ u)
        a = G.active u un u-seen u-on

        go : Dec (S.pos u < j) → Way (S.path j) u
        go (yes b) = rw a.1 at (G.back (S.pos u) j (omega arith) l (λ k m. inl (flat k m)))
        go (no b) = rw a.1 at (G.forth j (S.pos u) (omega arith) a.0)

    module _ (w : ℕ) (wn : w < n) (e : edge u w ≡ true) (w-seen : S.pos w < none) (w-on : S.done w ≡ none) (t : ℕ) (fewer-bounds : t ≤ S.top)
        (low : (k : ℕ) → k < t → S.bound k ≤ S.pos w) (high : (k : ℕ) → t ≤ k → k < S.top → S.pos w < S.bound k) where
      cut-back : (i j : ℕ) → i ≤ j → j < S.len → Free (cut_to S t) i j → Way (S.path j) (S.path i)
      cut-back i j a b F = go (dec_lt j (S.pos w))
        where
          at-w : (S.pos w < S.len) × (S.path (S.pos w) ≡ w)
          at-w = G.active w wn w-seen w-on

          before : j < S.pos w → Free S i j
          before c k m = pick (dec_lt k t)
            where
              pick : Dec (k < t) → (S.bound k ≤ i) ⊎ (j < S.bound k)
              pick (yes d) = F k d
              pick (no d) = inr (omega (arith, high k (omega arith) m))

          round : S.pos w ≤ j → Free S i (S.pos w)
          round c k m = pick (dec_lt k t)
            where
              side : k < t → (S.bound k ≤ i) ⊎ (j < S.bound k) → (S.bound k ≤ i) ⊎ (S.pos w < S.bound k)
              side d (inl q) = inl q
              side d (inr q) = absurd (omega (arith, low k d))

              pick : Dec (k < t) → (S.bound k ≤ i) ⊎ (S.pos w < S.bound k)
              pick (yes d) = side d (F k d)
              pick (no d) = inr (high k (omega arith) m)

          from-w : S.pos w ≤ j → Dec (S.pos w < i) → Way w (S.path i)
          from-w c (yes d) = rw at-w.1 at (G.forth (S.pos w) i (omega arith) (omega arith))
          from-w c (no d) = rw at-w.1 at (G.back i (S.pos w) (omega arith) at-w.0 (round c))

          go : Dec (j < S.pos w) → Way (S.path j) (S.path i)
          go (yes c) = G.back i j a b (before c)
          go (no c) = way-join (S.path j) u (S.path i) (all-lead j b) (way-join u w (S.path i) (way-edge u w wn e) (from-w (omega arith) (dec_lt (S.pos w) i)))

      cut-settled : (x : ℕ) → x < n → S.pos x < none → gray x ≡ false → (y : ℕ) → y < n → edge x y ≡ true → Settled (cut_to S t) x y
      cut-settled x a b c y d f = record { seen = Q.seen; over = Q.over; onto = λ q. go (Q.onto q) }
        where
          Q : Settled S x y
          Q = G.settled x a b c y d f

          go : (S.done y < none) ⊎ Free S (S.pos y) (S.pos x) → (S.done y < none) ⊎ Free (cut_to S t) (S.pos y) (S.pos x)
          go (inl q) = inl q
          go (inr q) = inr (λ k m. q k (omega arith))

      cut-base : 0 < S.len → (0 < t) × (S.bound 0 ≡ 0)
      cut-base l = go (ℕ_discrete t 0)
        where
          b : (0 < S.top) × (S.bound 0 ≡ 0)
          b = G.base l

          go : Dec (t ≡ 0) → (0 < t) × (S.bound 0 ≡ 0)
          go (yes e) = absurd (omega (arith, high 0 (omega arith) b.0, b.1))
          go (no e) = (omega arith, b.1)

      pub cut-good : Good (cut_to S t) gray
      cut-good = record {
        seat = G.seat;
        active = G.active;
        spot = G.spot;
        ended = G.ended;
        steps = λ k l. G.steps k (omega arith);
        climb = λ k l a b. G.climb k l a (omega arith);
        base = cut-base;
        forth = G.forth;
        back = cut-back;
        one = G.one;
        settled = cut-settled;
        full = G.full;
        room = G.room;
      }
