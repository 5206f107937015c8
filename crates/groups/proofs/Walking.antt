-- The search for groups: a call for one piece v, edge by edge, from v put on the path to v seen, with its group ended or not.
-- `edge x y`: y is a part of x. `Way x y`: y is reached from x by edges. Assumes nothing.
use mathlib.Core.Path.{◌≡◌, sym, ap, ◌∙◌}
use mathlib.Core.Logic.{◌⊎◌, inl, inr}
use mathlib.Core.Bool.{Bool, true, false, true≢false}
use Prim.Native.Nat.{ℕ, suc, ◌<◌, ◌≤◌}
use native.Mathlib.Decide.{ℕ_discrete, dec_lt}
use native.Mathlib.Omega.{arith}
use borrow.Author.Tests.{eqb-true, eq-eqb}
use lib.Dec.{eqb}
use Rattle.lists.specs.Tally.{tally}
use Rattle.lists.proofs.Tallies.{tally-mono, tally-some}
use Rattle.groups.specs.Search as on
use Rattle.groups.specs.Search.{State, Free}
use Rattle.groups.proofs.Gray.{with, black-good}
use Rattle.groups.proofs.Pushing.{push-good, push-falls, other, fresh}
use Rattle.groups.proofs.Cutting.{cut_to, all-lead, cut-good}
use Rattle.groups.proofs.Ending.{Side, member, outside, side, shut-good}

module _ (n none : ℕ) (wide : n ≤ none) (edge : ℕ → ℕ → Bool) (Way : ℕ → ℕ → Type 0)
    (way-self : (x : ℕ) → Way x x) (way-join : (x y z : ℕ) → Way x y → Way y z → Way x z) (way-edge : (x y : ℕ) → y < n → edge x y ≡ true → Way x y) where
  abbrev Settled : State → ℕ → ℕ → Type 0
  Settled = on.Settled n none edge Way

  abbrev Good : State → (ℕ → Bool) → Type 0
  Good = on.Good n none edge Way

  abbrev Pushed : State → State → ℕ → Type 0
  Pushed = on.Pushed n none edge Way

  abbrev Closed : State → State → ℕ → ℕ → Type 0
  Closed = on.Closed n none edge Way

  abbrev Kept : State → State → Type 0
  Kept = on.Kept n none edge Way

  abbrev Visited : State → State → ℕ → (ℕ → Bool) → Type 0
  Visited = on.Visited n none edge Way

  -- while the edges of v are looked at: those before `from` are
  pub record Walk (S₀ S : State) (v from : ℕ) (gray : ℕ → Bool) : Type 0 where
    pub good : Good S (with gray v)
    pub longer : S₀.len < S.len
    pub fewer : tally (λ x. eqb (S.pos x) none) n < tally (λ x. eqb (S₀.pos x) none) n
    pub path-kept : (i : ℕ) → i < S₀.len → S.path i ≡ S₀.path i
    pub pos-kept : (x : ℕ) → x < n → S₀.pos x < none → S.pos x ≡ S₀.pos x
    pub done-kept : (x : ℕ) → x < n → S₀.pos x < none → S.done x ≡ S₀.done x
    pub placed : S.pos v ≡ S₀.len
    pub on : S.done v ≡ none
    pub flat : (k : ℕ) → k < S.top → S.bound k ≤ S₀.len
    pub tops : S.top ≤ suc S₀.top
    pub bound-kept : (k : ℕ) → k < S.top → k < S₀.top → S.bound k ≡ S₀.bound k
    pub bound-own : S₀.top < S.top → S.bound S₀.top ≡ S₀.len
    pub looked : (y : ℕ) → y < n → y < from → edge v y ≡ true → Settled S v y

  -- the same walk with other edges looked at
  pub walk-looked : (S₀ S : State) (v from to : ℕ) (gray : ℕ → Bool) → Walk S₀ S v from gray → ((y : ℕ) → y < n → y < to → edge v y ≡ true → Settled S v y) → Walk S₀ S v to gray
  walk-looked S₀ S v from to gray W more = record {
    good = W.good;
    longer = W.longer;
    fewer = W.fewer;
    path-kept = W.path-kept;
    pos-kept = W.pos-kept;
    done-kept = W.done-kept;
    placed = W.placed;
    on = W.on;
    flat = W.flat;
    tops = W.tops;
    bound-kept = W.bound-kept;
    bound-own = W.bound-own;
    looked = more;
  }

  module _ (S₀ : State) (gray : ℕ → Bool) (G₀ : Good S₀ gray) (v : ℕ) (vn : v < n) where
    pub walk-begin : (S : State) → S₀.pos v ≡ none → ((i : ℕ) → i < S₀.len → Way (S₀.path i) v) → Pushed S₀ S v → Walk S₀ S v 0 gray
    walk-begin S new reached T = record {
      good = push-good n none wide edge Way way-self S₀ S gray G₀ v vn new reached T;
      longer = omega (arith, T.len_is);
      fewer = push-falls n none wide edge Way way-self S₀ S gray G₀ v vn new reached T;
      path-kept = T.path-other;
      pos-kept = λ x l s. T.pos-other x (other n none wide edge Way way-self S₀ S gray G₀ v vn new reached T x s);
      done-kept = λ x l s. T.done-is x;
      placed = T.pos-at;
      on = T.done-is v ∙ fresh n none wide edge Way way-self S₀ S gray G₀ v vn new reached T;
      flat = λ k l. flat-at k l (ℕ_discrete k S₀.top);
      tops = omega (arith, T.top-is);
      bound-kept = λ k l m. T.bound-other k m;
      bound-own = λ l. T.bound_at;
      looked = λ y l m. absurd (omega arith);
    }
      where
        flat-at : (k : ℕ) → k < S.top → Dec (k ≡ S₀.top) → S.bound k ≤ S₀.len
        flat-at k l (yes e) = omega (arith, ap S.bound e, T.bound_at)
        flat-at k l (no e) = let m : k < S₀.top = omega (arith, T.top-is) in omega (arith, T.bound-other k m, G₀.steps k m)

    module _ (S : State) (from w : ℕ) (W : Walk S₀ S v from gray) (first : from ≤ w) (skipped : (y : ℕ) → from ≤ y → y < w → edge v y ≡ false) where
      v-seen : S.pos v < none
      v-seen = omega (arith, W.placed, W.longer, W.good.room)

      flat-v : (k : ℕ) → k < S.top → S.bound k ≤ S.pos v
      flat-v k l = omega (arith, W.flat k l, W.placed)

      -- all that is on the path leads to a part of v
      pub reaches : w < n → edge v w ≡ true → (i : ℕ) → i < S.len → Way (S.path i) w
      reaches wn e i l = way-join (S.path i) v w (all-lead n none edge Way way-join way-edge S (with gray v) W.good v vn v-seen W.on flat-v i l) (way-edge v w wn e)

      earlier : (y : ℕ) → y < n → y < suc w → edge v y ≡ true → (y ≡ w) ⊎ Settled S v y
      earlier y l m e = pick (ℕ_discrete y w) (dec_lt y from)
        where
          pick : Dec (y ≡ w) → Dec (y < from) → (y ≡ w) ⊎ Settled S v y
          pick (yes q) d = inl q
          pick (no q) (yes d) = inr (W.looked y l d e)
          pick (no q) (no d) = let z : true ≡ false = sym e ∙ skipped y (omega arith) (omega arith) in absurd (true≢false z)

      module _ (wn : w < n) (e : edge v w ≡ true) where
        -- a part that has ended
        pub walk-skip : S.pos w < none → S.done w < none → Walk S₀ S v (suc w) gray
        walk-skip a b = walk-looked S₀ S v from (suc w) gray W (λ y l m f. go y (earlier y l m f))
          where
            go : (y : ℕ) → (y ≡ w) ⊎ Settled S v y → Settled S v y
            go y (inl z) = rw z (record { seen = a; over = λ q. absurd (omega (arith, W.on)); onto = λ q. inl b })
            go y (inr z) = z

        -- a part on the path
        pub walk-cut : S.pos w < none → S.done w ≡ none → (t : ℕ) → t ≤ S.top → ((k : ℕ) → k < t → S.bound k ≤ S.pos w)
            → ((k : ℕ) → t ≤ k → k < S.top → S.pos w < S.bound k) → Walk S₀ (cut_to S t) v (suc w) gray
        walk-cut a b t c low high = record {
          good = cut-good n none edge Way way-join way-edge S (with gray v) W.good v vn v-seen W.on flat-v w wn e a b t c low high;
          longer = W.longer;
          fewer = W.fewer;
          path-kept = W.path-kept;
          pos-kept = W.pos-kept;
          done-kept = W.done-kept;
          placed = W.placed;
          on = W.on;
          flat = λ k l. W.flat k (omega arith);
          tops = omega (arith, W.tops);
          bound-kept = λ k l m. W.bound-kept k (omega arith) m;
          bound-own = λ l. W.bound-own (omega arith);
          looked = λ y l m f. go y (earlier y l m f);
        }
          where
            lift : (y : ℕ) → (S.done y < none) ⊎ Free S (S.pos y) (S.pos v) → (S.done y < none) ⊎ Free (cut_to S t) (S.pos y) (S.pos v)
            lift y (inl q) = inl q
            lift y (inr q) = inr (λ k m. q k (omega arith))

            go : (y : ℕ) → (y ≡ w) ⊎ Settled S v y → Settled (cut_to S t) v y
            go y (inl z) = rw z (record { seen = a; over = λ q. absurd (omega (arith, W.on)); onto = λ q. inr (λ k m. inl (low k m)) })
            go y (inr z) = record { seen = z.seen; over = z.over; onto = λ q. lift y (z.onto q) }

        -- a part that is new: after the call for it
        pub walk_call : (S' : State) → S.pos w ≡ none → Visited S S' w (with gray v) → Walk S₀ S' v (suc w) gray
        walk_call S' new Y = record {
          good = Y.good;
          longer = omega (arith, W.longer, K.longer);
          fewer = omega (arith, W.fewer, no_more);
          path-kept = λ i l. K.path-kept i (omega (arith, W.longer)) ∙ W.path-kept i l;
          pos-kept = λ x l s. let p = W.pos-kept x l s in K.pos-kept x l (omega arith) ∙ p;
          done-kept = λ x l s. let p = W.pos-kept x l s in K.done-kept x l (omega arith) ∙ W.done-kept x l s;
          placed = K.pos-kept v vn v-seen ∙ W.placed;
          on = on;
          flat = λ k l. omega (arith, K.bound-kept k l, W.flat k (omega (arith, K.top-less)));
          tops = omega (arith, K.top-less, W.tops);
          bound-kept = λ k l m. K.bound-kept k l ∙ W.bound-kept k (omega (arith, K.top-less)) m;
          bound-own = λ l. K.bound-kept S₀.top l ∙ W.bound-own (omega (arith, K.top-less));
          looked = λ y l m f. go y l (earlier y l m f);
        }
          where
            K : Kept S S'
            K = Y.kept

            no_more : tally (λ x. eqb (S'.pos x) none) n ≤ tally (λ x. eqb (S.pos x) none) n
            no_more = tally-mono (λ x. eqb (S'.pos x) none) (λ x. eqb (S.pos x) none) n (λ x l e. pick x l (eqb-true (S'.pos x) none e) (W.good.spot x l))
              where
                pick : (x : ℕ) → x < n → S'.pos x ≡ none → (S.pos x ≡ none) ⊎ (S.pos x < none) → eqb (S.pos x) none ≡ true
                pick x l e (inl q) = eq-eqb (S.pos x) none q
                pick x l e (inr q) = absurd (omega (arith, K.pos-kept x l q))

            on : S'.done v ≡ none
            on = K.done-kept v vn v-seen ∙ W.on

            lift : (y : ℕ) → y < n → S.pos y < none → (S.done y < none) ⊎ Free S (S.pos y) (S.pos v) → (S'.done y < none) ⊎ Free S' (S'.pos y) (S'.pos v)
            lift y l s (inl q) = inl (omega (arith, K.done-kept y l s))
            lift y l s (inr q) = inr (λ k m. one k m (q k (omega (arith, K.top-less))))
              where
                one : (k : ℕ) → k < S'.top → (S.bound k ≤ S.pos y) ⊎ (S.pos v < S.bound k) → (S'.bound k ≤ S'.pos y) ⊎ (S'.pos v < S'.bound k)
                one k m (inl z) = inl (omega (arith, K.bound-kept k m, K.pos-kept y l s))
                one k m (inr z) = inr (omega (arith, K.bound-kept k m, K.pos-kept v vn v-seen))

            small : S.len < none
            small = omega (arith, W.good.room, tally-some (λ x. eqb (S.pos x) none) n w wn (eq-eqb (S.pos w) none new))

            go : (y : ℕ) → y < n → (y ≡ w) ⊎ Settled S v y → Settled S' v y
            go y l (inl z) = rw z (record {
              seen = omega (arith, Y.met, small);
              over = λ q. absurd (omega (arith, on));
              onto = λ q. inr (λ k m. inl (omega (arith, Y.met, K.bound-kept k m, W.flat k (omega (arith, K.top-less)), W.longer)));
            })
            go y l (inr z) = record {
              seen = omega (arith, K.pos-kept y l z.seen, z.seen);
              over = λ q. absurd (omega (arith, on));
              onto = λ q. lift y l z.seen (z.onto W.on);
            }

    -- all edges of v are looked at, and its group began before v
    pub walk-stay : (S : State) (from : ℕ) → Walk S₀ S v from gray → ((y : ℕ) → y < n → edge v y ≡ true → Settled S v y) → (t : ℕ) → S.top ≡ suc t → (S.bound t ≡ S₀.len → ⊥) → Visited S₀ S v gray
    walk-stay S from W all t e ne = record {
      good = black-good n none edge Way S gray v W.good all;
      kept = record {
        longer = omega (arith, W.longer);
        path-kept = W.path-kept;
        pos-kept = W.pos-kept;
        done-kept = W.done-kept;
        top-less = less;
        bound-kept = λ k l. W.bound-kept k l (omega (arith, less));
      };
      met = W.placed;
    }
      where
        less : S.top ≤ S₀.top
        less = go (dec_lt S₀.top S.top)
          where
            go : Dec (S₀.top < S.top) → S.top ≤ S₀.top
            go (yes q) = let z : t ≡ S₀.top = omega (arith, W.tops) in absurd (ne (ap S.bound z ∙ W.bound-own q))
            go (no q) = omega arith

    -- or with v, and ends with it
    pub walk-close : (S S' : State) (from : ℕ) → Walk S₀ S v from gray → ((y : ℕ) → y < n → edge v y ≡ true → Settled S v y) → (t : ℕ) → Closed S S' t S₀.len → Visited S₀ S' v gray
    walk-close S S' from W all t C = record {
      good = shut-good n none wide edge Way S S' gray B t S₀.len C;
      kept = record {
        longer = omega (arith, C.len_is);
        path-kept = λ i l. C.path-is i ∙ W.path-kept i l;
        pos-kept = λ x l s. C.pos-is x ∙ W.pos-kept x l s;
        done-kept = λ x l s. go x l s (side n none wide edge Way S S' gray B t S₀.len C x l);
        top-less = omega (arith, C.top-is, C.top-was, W.tops);
        bound-kept = λ k l. C.bound-is k ∙ W.bound-kept k (omega (arith, C.top-is, C.top-was)) (omega (arith, C.top-is, C.top-was, W.tops));
      };
      met = C.pos-is v ∙ W.placed;
    }
      where
        B : Good S gray
        B = black-good n none edge Way S gray v W.good all

        go : (x : ℕ) → x < n → S₀.pos x < none → Side n none wide edge Way S S' gray B t S₀.len C x → S'.done x ≡ S₀.done x
        go x l s (member p q r f g) = absurd (omega (arith, W.pos-kept x l s, (G₀.active x l s (sym (W.done-kept x l s) ∙ f)).0))
        go x l s (outside g h) = g ∙ W.done-kept x l s
