-- The arrays of the search: what each of its functions does to them, as a step of the search. Assumes nothing.
use mathlib.Core.Path.{◌≡◌, refl, sym, ap, ◌∙◌}
use mathlib.Core.Logic.{◌⊎◌, inl, inr}
use mathlib.Core.Bool.{Bool, true, false, true≢false}
use mathlib.Core.List.{List}
use Prim.Native.Nat.{ℕ, zero, suc, ◌+◌, ◌-◌, ◌<◌, ◌≤◌}
use borrow.Author.Tests.{eq-eqb, lt-ltb}
use Rattle.lists.proofs.Bools.{both-and}
use Rattle.lists.proofs.Tallies.{tally-some}
use native.Mathlib.Numerals.{add-one}
use native.Mathlib.Decide.{ℕ_discrete, dec_lt}
use native.Mathlib.Omega.{arith}
use lib.Dec.{eqb}
use lib.ListN.{length, get_or, set, length-set, replicate, length-replicate, get_or-replicate}
use lib.Seq.{get_or-set_same, get_or-set_other}
use Rattle.lists.specs.First.{first}
use Rattle.matrices.specs.Matrix.{bit_of}
use Rattle.lists.proofs.Searches.{Sought, sought-next}
use Rattle.index.specs.Pairs.{self, step}
use Rattle.index.proofs.Below.{within-trans}
use Rattle.groups.specs.Search.{State, state_of, pushed, part_of, WayOf, GoodOf, VisitedOf, Leading, Callable, Cut, Numbered, Room, Pushed, Settled, Searchable, Searched}
use Rattle.groups.specs.declared.components.Path.{Path}
use Rattle.groups.proofs.Gray.{with}
use Rattle.groups.proofs.Walking.{Walk, walk-looked, walk-begin, reaches, walk-skip, walk-cut, walk_call, walk-stay, walk-close}
use Rattle.groups.proofs.Searching.{empty-good, search-done}

-- the state that arrays hold
abbrev pub laid : List ℕ → List ℕ → List ℕ → List ℕ → ℕ → ℕ → ℕ → State
laid pos done path bounds len top count =
    state_of (record { pos = pos; done = done; pieces = path; bounds = bounds; len = len; top = top; count = count })

module _ (n : ℕ) (small : n ≤ 2048) (e : List ℕ) where
  pub pair-bit : (x y : ℕ) → y < n → bit_of e x y ≡ true → part_of n e y x ≡ true
  unfolding part_of
  pair-bit x y l f = both-and (lt-ltb y n l) f

  abbrev pub ws : (x : ℕ) → WayOf n e x x
  ws x = self

  abbrev pub wj : (x y z : ℕ) → WayOf n e x y → WayOf n e y z → WayOf n e x z
  wj x y z a b = within-trans b a

  abbrev pub we : (x y : ℕ) → y < n → bit_of e x y ≡ true → WayOf n e x y
  we x y l f = step (pair-bit x y l f) self

  abbrev pub WalkOf : State → State → ℕ → ℕ → (ℕ → Bool) → Type 0
  WalkOf S₀ S v from gray = Walk n 2048 small (bit_of e) (WayOf n e) ws wj we S₀ S v from gray

  -- where the call for v began, and where it has put v on the path
  pub record Entered (S₀ : State) (gray : ℕ → Bool) (v : ℕ) (S : State) : Type 0 where
    pub good : GoodOf n e S₀ gray
    pub piece : v < n
    pub new : S₀.pos v ≡ 2048
    pub leading : Leading n e S₀ v
    pub pushed : Pushed n 2048 (bit_of e) (WayOf n e) S₀ S v

  pub pushed-is : (pos done path bounds : List ℕ) (len top count v : ℕ) → v < length pos → len < length path → top < length bounds
      → Pushed n 2048 (bit_of e) (WayOf n e) (laid pos done path bounds len top count) (laid (set pos v len) done (set path len v) (set bounds top len) (len + 1) (top + 1) count) v
  pushed-is pos done path bounds len top count v a b c = record {
    len_is = add-one len;
    top-is = add-one top;
    count-is = refl;
    pos-at = get_or-set_same pos v len 0 a;
    pos-other = λ x q. get_or-set_other pos v x len 0 q;
    done-is = λ x. refl;
    path-at = get_or-set_same path len v 0 b;
    path-other = λ i l. get_or-set_other path len i v 0 (λ q. omega arith);
    bound_at = get_or-set_same bounds top len 0 c;
    bound-other = λ k l. get_or-set_other bounds top k len 0 (λ q. omega arith);
  }

  module _ (S₀ : State) (gray : ℕ → Bool) (v : ℕ) (S₁ : State) (E : Entered S₀ gray v S₁) where
    -- on to the next edge
    on-to : (S : State) (from q w : ℕ) → from ≡ q → q ≤ 2048 → w ≡ first (bit_of e v) q (2048 - q) → WalkOf S₀ S v from gray → WalkOf S₀ S v w gray
    on-to S from q w z b f W = walk-looked n 2048 small (bit_of e) (WayOf n e) ws wj we S₀ S v from w gray W (λ y l m g. pick y l m g (dec_lt y from))
      where
        T : Sought (bit_of e v) q 2048 w
        T = sought-next (bit_of e v) q 2048 w b f

        pick : (y : ℕ) → y < n → y < w → bit_of e v y ≡ true → Dec (y < from) → Settled n 2048 (bit_of e) (WayOf n e) S v y
        pick y l m g (yes d) = W.looked y l d g
        pick y l m g (no d) = let z : true ≡ false = sym g ∙ T.before y (omega arith) m in absurd (true≢false z)

    pub begin : (w : ℕ) → w ≡ first (bit_of e v) 0 (2048 - 0) → WalkOf S₀ S₁ v w gray
    begin w f = on-to S₁ 0 0 w refl (omega arith) f (walk-begin n 2048 small (bit_of e) (WayOf n e) ws wj we S₀ gray E.good v E.piece S₁ E.new E.leading E.pushed)

    module _ (S : State) (w w' : ℕ) (W : WalkOf S₀ S v w gray) (wn : w < n) (edge : bit_of e v w ≡ true) where
      idle : (y : ℕ) → w ≤ y → y < w → bit_of e v y ≡ false
      idle y a b = absurd (omega arith)

      pub leads-on : Leading n e S w
      leads-on = reaches n 2048 small (bit_of e) (WayOf n e) ws wj we S₀ gray E.good v E.piece S w w W (omega arith) idle wn edge

      pub skip-more : w' ≡ first (bit_of e v) (w + 1) (2048 - (w + 1)) → S.pos w < 2048 → S.done w < 2048 → WalkOf S₀ S v w' gray
      skip-more f a b = on-to S (suc w) (w + 1) w' (sym (add-one w)) (omega arith) f
          (walk-skip n 2048 small (bit_of e) (WayOf n e) ws wj we S₀ gray E.good v E.piece S w w W (omega arith) idle wn edge a b)

      pub call-more : (S' : State) → w' ≡ first (bit_of e v) (w + 1) (2048 - (w + 1)) → S.pos w ≡ 2048 → VisitedOf n e S S' w (with gray v) → WalkOf S₀ S' v w' gray
      call-more S' f a Y = on-to S' (suc w) (w + 1) w' (sym (add-one w)) (omega arith) f
          (walk_call n 2048 small (bit_of e) (WayOf n e) ws wj we S₀ gray E.good v E.piece S w w W (omega arith) idle wn edge S' a Y)

    -- the bounds after the place of w go
    pub cut_on : (pos done path bounds : List ℕ) (len top count w w' t : ℕ) (W : WalkOf S₀ (laid pos done path bounds len top count) v w gray) → w < n → bit_of e v w ≡ true
        → w' ≡ first (bit_of e v) (w + 1) (2048 - (w + 1)) → get_or pos w 0 < 2048 → get_or done w 0 ≡ 2048 → Cut bounds top (get_or pos w 0) t → WalkOf S₀ (laid pos done path bounds len t count) v w' gray
    cut_on pos done path bounds len top count w w' t W wn edge f a b C =
        on-to (laid pos done path bounds len t count) (suc w) (w + 1) w' (sym (add-one w)) (omega arith) f
        (walk-cut n 2048 small (bit_of e) (WayOf n e) ws wj we S₀ gray E.good v E.piece (laid pos done path bounds len top count) w w W (omega arith) (λ y p q. absurd (omega arith)) wn edge a b t C.fewer
        (λ k l. low k l (ℕ_discrete k (t - 1))) C.high)
      where
        low : (k : ℕ) → k < t → Dec (k ≡ t - 1) → get_or bounds k 0 ≤ get_or pos w 0
        low k l (yes q) = omega (arith, ap (λ (j : ℕ). get_or bounds j 0) q, C.low (omega arith))
        low k l (no q) = omega (arith, W.good.climb k (t - 1) (omega arith) (omega (arith, C.fewer)), C.low (omega arith))

    -- the group of v stays on the path
    pub stay : (S : State) (w : ℕ) → WalkOf S₀ S v w gray → n ≤ w → (t : ℕ) → S.top ≡ suc t → (S.bound t ≡ S₀.len → ⊥) → VisitedOf n e S₀ S v gray
    stay S w W o t z ne = walk-stay n 2048 small (bit_of e) (WayOf n e) ws wj we S₀ gray E.good v E.piece S w W (λ y l g. W.looked y l (omega arith) g) t z ne

    -- or ends
    pub shut : (pos done path bounds done' : List ℕ) (len top count w at : ℕ) → WalkOf S₀ (laid pos done path bounds len top count) v w gray → n ≤ w → 0 < top → at ≡ S₀.len
        → get_or bounds (top - 1) 0 ≡ at → Numbered path done done' at len count → VisitedOf n e S₀ (laid pos done' path bounds at (top - 1) (count + 1)) v gray
    shut pos done path bounds done' len top count w at W o pos-top ae be N =
        walk-close n 2048 small (bit_of e) (WayOf n e) ws wj we S₀ gray E.good v E.piece (laid pos done path bounds len top count) (laid pos done' path bounds at (top - 1) (count + 1)) w W
        (λ y l g. W.looked y l (omega arith) g) (top - 1)
        (record {
          top-was = omega arith;
          begins = be ∙ ae;
          len_is = ae;
          top-is = refl;
          count-is = add-one count;
          pos-is = λ x. refl;
          path-is = λ i. refl;
          bound-is = λ k. refl;
          done-in = λ i a b. N.hit i (omega arith) b;
          done-out = λ x h. N.miss x (λ i a b q. h i (omega arith) b q);
        })

  -- ## What fits

  pub tops_fit : (S : State) (gray : ℕ → Bool) → GoodOf n e S gray → S.top ≤ S.len
  tops_fit S gray G = go S.top refl
    where
      go : (t : ℕ) → S.top ≡ t → t ≤ S.len
      go zero q = omega arith
      go (suc t) q = omega (arith, G.steps t (omega arith))

  pub len_below : (s : Path) (v : ℕ) → Callable n e s v → s.len < n
  len_below s v C =
      omega (arith, C.good.room, tally-some (λ x. eqb (get_or s.pos x 0) 2048) n v C.piece (eq-eqb (get_or s.pos v 0) 2048 C.new))

  pub top-below : (s : Path) (v : ℕ) → Callable n e s v → s.top < n
  top-below s v C = omega (arith, len_below s v C, tops_fit (state_of s) C.gray C.good)

  -- the call for v puts it on the path
  pub entered : (s s' : Path) (v : ℕ) (gray : ℕ → Bool) → Callable n e s v → s' ≡ pushed s v → GoodOf n e (state_of s) gray → Leading n e (state_of s) v → Entered (state_of s) gray v (state_of s')
  entered s s' v gray C p G L =
      let l = len_below s v C in
      let t = top-below s v C in
      rw p (record {
        good = G;
        piece = C.piece;
        new = C.new;
        leading = L;
        pushed = pushed-is s.pos s.done s.pieces s.bounds s.len s.top s.count v (omega (arith, C.room.pos-is, C.piece, C.few)) (omega (arith, C.room.pieces-are, l, C.few)) (omega (arith, C.room.bounds-are, t, C.few));
      })

  pub push-room : (s s' : Path) (v : ℕ) → s' ≡ pushed s v → Room s → Room s'
  push-room s s' v p R = rw p (record {
    pos-is = length-set s.pos v s.len ∙ R.pos-is;
    done-is = R.done-is;
    pieces-are = length-set s.pieces s.len v ∙ R.pieces-are;
    bounds-are = length-set s.bounds s.top s.len ∙ R.bounds-are;
  })

  -- what the path has at most
  pub fits : (s : Path) (gray : ℕ → Bool) → GoodOf n e (state_of s) gray → (s.count + s.len ≤ 2048) × (s.top ≤ s.len)
  fits s gray G = (omega (arith, G.room), tops_fit (state_of s) gray G)

  pub met-small : (S : State) (gray : ℕ → Bool) → GoodOf n e S gray → (w : ℕ) → w < n → (S.pos w ≡ 2048 → ⊥) → S.pos w < 2048
  met-small S gray G w l ne = go (G.spot w l)
    where
      go : (S.pos w ≡ 2048) ⊎ (S.pos w < 2048) → S.pos w < 2048
      go (inl q) = absurd (ne q)
      go (inr q) = q

  pub ended-small : (S : State) (gray : ℕ → Bool) → GoodOf n e S gray → (w : ℕ) → w < n → (S.done w ≡ 2048 → ⊥) → S.done w < 2048
  ended-small S gray G w l ne = go (G.ended w l)
    where
      go : (S.done w ≡ 2048) ⊎ ((S.done w < S.count) × (S.pos w < 2048)) → S.done w < 2048
      go (inl q) = absurd (ne q)
      go (inr q) = omega (arith, q.0, G.room)

-- ## The whole

-- where the search begins
abbrev pub blank : Path
blank = record { pos = replicate 2048 2048; done = replicate 2048 2048; pieces = replicate 2048 0; bounds = replicate 2048 0; len = 0; top = 0; count = 0 }

module _ (n : ℕ) (e : List ℕ) (room : ℕ) (R : Searchable n e room) where
  pub first_good : (gray : ℕ → Bool) → GoodOf n e (state_of blank) gray
  first_good gray = empty-good n 2048 R.few (bit_of e) (WayOf n e) (state_of blank) gray refl refl refl
      (λ x l. get_or-replicate 2048 x 2048 0 (omega (arith, R.few)))
      (λ x l. get_or-replicate 2048 x 2048 0 (omega (arith, R.few)))

  pub first-call : Callable n e blank 0
  first-call = record {
    few = R.few;
    matrix = R.matrix;
    room = record {
      pos-is = length-replicate {A = ℕ} 2048 2048;
      done-is = length-replicate {A = ℕ} 2048 2048;
      pieces-are = length-replicate {A = ℕ} 2048 0;
      bounds-are = length-replicate {A = ℕ} 2048 0;
    };
    piece = R.some;
    new = get_or-replicate 2048 0 2048 0 (omega arith);
    gray = λ x. false;
    good = first_good (λ x. false);
    leading = λ i l. absurd (omega arith);
  }

  pub all_done : (S : State) → VisitedOf n e (state_of blank) S 0 (λ x. false) → Searched n 2048 (bit_of e) (WayOf n e) S.done
  all_done S Y = search-done n 2048 R.few (bit_of e) (WayOf n e) (state_of blank) S R.some refl refl Y R.crowned
