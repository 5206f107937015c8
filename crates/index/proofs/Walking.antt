-- The four parts while the tree is walked: at the node c, whose parts below `from` are done. Assumes nothing.
use mathlib.Core.Path.{◌≡◌, sym, ap, ◌∙◌}
use mathlib.Core.Bool.{Bool}
use mathlib.Core.List.{List, [], ◌∷◌}
use Prim.Native.Nat.{ℕ, ◌+◌, ◌*◌, ◌-◌, ◌≤◌, ◌<◌}
use native.Mathlib.Omega.{arith}
use native.Mathlib.Numerals.{add-one}
use native.Mathlib.Decide.{ℕ_discrete, dec_lt}
use lib.ListN.{length, get_or, set, replicate, length-set, length-replicate, get_or-replicate, get_or-eq_default}
use lib.Seq.{get_or-set_other, set-get_or}
use Rattle.lists.specs.First.{first}
use Rattle.matrices.specs.Matrix.{bit_of}
use Rattle.index.specs.Pairs.{Book}
use Rattle.index.specs.Breadth.{parent}
use Rattle.index.specs.Tree.{Visit, node, shadow, whole, visits}
use Rattle.index.specs.Parts.{parens, shadows, place}
use Rattle.index.specs.Index.{parentheses_of, visits_of}
use Rattle.index.specs.Matrix.{pair_of}
use Rattle.index.specs.Steps.{Walkable, Walked, Zero}
use Rattle.index.proofs.Reached.{parent-edge}
use Rattle.lists.proofs.Bounds.{upto}
use Rattle.index.proofs.Nodes.{once}
use Rattle.index.proofs.Sizes.{node-or-shadow}
use Rattle.index.proofs.Ranges.{parens-length}
use Rattle.index.proofs.Standing.{node_at, place-small}
use Rattle.index.proofs.Nexts.{Next, next-part}
use Rattle.index.proofs.Events.{enter, leave, events, rest, parens-events, visits-events, step-next, step-shadow, step-node, step-leave, step_end, start}
use Rattle.index.proofs.Written.{Written, Put, Done, written_start, written-leave, written-node, written-shadow, written-end, bit-room, shadow-room}

-- what is left to do
unfoldable pub left : ℕ → (ℕ → ℕ → Bool) → ℕ → ℕ → ℕ
left n edge c from = length (rest n edge c from)

module _ (n : ℕ) (edge : ℕ → ℕ → Bool) where
  abbrev P : List Bool
  P = parens (whole n edge)

  abbrev U : List Visit
  U = visits (whole n edge)

  pub record Walking (lb lm ls lp : ℕ) (ps mks sh pl : List ℕ) (c from at k m : ℕ) : Type 0 where
    pub inner : c < n
    pub upto : from ≤ n
    pub len_parens : length ps ≡ lb
    pub len_marks : length mks ≡ lm
    pub len_shadows : length sh ≡ ls
    pub len_places : length pl ≡ lp
    pub spare : (q : ℕ) → n ≤ q → get_or pl q 0 ≡ 0
    pub state : Written (parens (whole n edge)) (visits (whole n edge)) ps mks sh pl at k m (rest n edge c from)

-- what is known of the walk, from what it is given
pub record Given (n : ℕ) (edge : ℕ → ℕ → Bool) (par : List ℕ) (lb lm ls lp : ℕ) : Type 0 where
  pub book : Book n edge
  pub parents : (p : ℕ) → 0 < p → p < n → get_or par p 0 ≡ parent n edge p
  pub parens_room : length (parens (whole n edge)) ≤ 8 * lb
  pub marks_room : length (visits (whole n edge)) ≤ 8 * lm
  pub shadow_room : length (shadows (visits (whole n edge))) ≤ ls
  pub place_room : n ≤ lp
  pub few : length (visits (whole n edge)) ≤ 65536

pub given : {n : ℕ} {m par : List ℕ} {lb lm ls lp : ℕ} → Walkable n m par lb lm ls lp → Given n (pair_of n m) par lb lm ls lp
unfolding parentheses_of visits_of
given W = record {
  book = W.book;
  parents = W.parents;
  parens_room = W.room.parens;
  marks_room = W.room.marks;
  shadow_room = W.room.shadows;
  place_room = W.room.places;
  few = W.few;
}

-- the same, of other lists of the same lengths
pub resized : {n : ℕ} {m par : List ℕ} {lb lm ls lp lb' lm' ls' lp' : ℕ} → Walkable n m par lb lm ls lp → lb' ≡ lb → lm' ≡ lm → ls' ≡ ls → lp' ≡ lp
    → Walkable n m par lb' lm' ls' lp'
resized W a b d e = rw (a, b, d, e) W

-- the next part, as the walk finds it
pub stepping : {n : ℕ} {e par : List ℕ} {lb lm ls lp : ℕ} {ps mks sh pl : List ℕ} {c from at k m p : ℕ} → Walkable n e par lb lm ls lp
    → Walking n (pair_of n e) lb lm ls lp ps mks sh pl c from at k m → p ≡ first (bit_of e c) from (2048 - from) → Next n (pair_of n e) c from p
stepping W G f = next-part _ _ _ _ _ G.inner W.small (upto _ _ _ G.upto W.small) f

-- cleared
pub cleared : {xs : List ℕ} (n : ℕ) → xs ≡ replicate n 0 → Zero xs
cleared n e = record {
  zeros = λ i. elim (dec_lt i n) [
    | yes l ↦ rw e (get_or-replicate n i 0 0 l)
    | no l ↦ rw e (get_or-eq_default (replicate n 0) 0 {n = i} (omega (arith, length-replicate {A = ℕ} n 0)))
  ];
}

module _ {n : ℕ} {edge : ℕ → ℕ → Bool} {par : List ℕ} {lb lm ls lp : ℕ} (R : Given n edge par lb lm ls lp) where
  -- entering piece 0
  module _ {ps mks sh pl : List ℕ} (a : length ps ≡ lb) (b : length mks ≡ lm) (d : length sh ≡ ls) (e : length pl ≡ lp)
      (z₁ : Zero ps) (z₂ : Zero mks) (z₃ : Zero sh) (z₄ : Zero pl) where
    begun : Written (P n edge) (U n edge) ps mks sh pl 0 0 0 (enter (node 0) ∷ rest n edge 0 1)
    begun = rw (start n edge R.book) at (written_start (P n edge) (U n edge) ps mks sh pl (events (whole n edge)) (parens-events (whole n edge)) (visits-events (whole n edge))
        (rw a R.parens_room) (rw b R.marks_room) (rw d R.shadow_room) z₁.zeros z₂.zeros z₃.zeros)

    pub start-room : 0 < 8 * length ps
    start-room = (bit-room (P n edge) (U n edge) ps mks sh pl 0 0 0 (rest n edge 0 1) (node 0) begun).1

    -- piece 0 has place 0 already
    first-place : set pl 0 0 ≡ pl
    first-place = rw (z₄.zeros 0) at (set-get_or pl 0 0)

    pub walk_start : {ps' : List ℕ} → Put ps ps' 0 → Walking n edge lb lm ls lp ps' mks sh pl 0 1 1 1 0
    walk_start {ps'} w =
        record {
          inner = R.book.some;
          upto = R.book.some;
          len_parens = w.same ∙ a;
          len_marks = b;
          len_shadows = d;
          len_places = e;
          spare = λ q h. z₄.zeros q;
          state = rw first-place at (written-node (P n edge) (U n edge) ps mks sh pl 0 0 0 (rest n edge 0 1) 0 ps' begun w (once n edge R.book 0 R.book.some) (omega (arith, R.place_room, R.book.some)));
        }

  module _ {ps mks sh pl : List ℕ} {c from at k m : ℕ} (G : Walking n edge lb lm ls lp ps mks sh pl c from at k m) {p : ℕ} (N : Next n edge c from p) where
    its-parent : p < n → get_or par p 0 ≡ parent n edge p
    its-parent l = R.parents p (R.book.below p c (N.hit l)) l

    node-next : p < n → get_or par p 0 ≡ c → rest n edge c from ≡ enter (node p) ∷ rest n edge p 1
    node-next l x = step-next n edge R.book c from p N ∙ (step-node n edge R.book c p l G.inner (N.hit l) (sym (its-parent l) ∙ x))

    shadow-next : p < n → (get_or par p 0 ≡ c → ⊥) → rest n edge c from ≡ enter (shadow p) ∷ leave ∷ rest n edge c (p + 1)
    shadow-next l x = step-next n edge R.book c from p N ∙ rw (add-one p) (step-shadow n edge R.book c p l (N.hit l) (λ y. x (its-parent l ∙ y)))

    -- a part is entered: room for its 1
    pub walk-room : p < n → (at < 131072) × (at < 8 * length ps) × (k < 65536)
    walk-room l = go (ℕ_discrete (get_or par p 0) c)
      where
        sized : (at < length (P n edge)) × (at < 8 * length ps) × (k < length (U n edge)) → (at < 131072) × (at < 8 * length ps) × (k < 65536)
        sized r = (omega (arith, r.0, parens-length (whole n edge), R.few), r.1, omega (arith, r.2, R.few))

        go : Dec (get_or par p 0 ≡ c) → (at < 131072) × (at < 8 * length ps) × (k < 65536)
        go (yes x) = sized (bit-room (P n edge) (U n edge) ps mks sh pl at k m _ (node p) (rw (node-next l x) at G.state))
        go (no x) = sized (bit-room (P n edge) (U n edge) ps mks sh pl at k m _ (shadow p) (rw (shadow-next l x) at G.state))

    pub walk-less : p < n → get_or par p 0 ≡ c → left n edge p 1 < left n edge c from
    unfolding left
    walk-less l x = omega (arith, ap length (node-next l x))

    pub place-room : p < n → p < length pl
    place-room l = omega (arith, G.len_places, R.place_room)

    pub walk-node : p < n → get_or par p 0 ≡ c → {ps' : List ℕ} → Put ps ps' at → Walking n edge lb lm ls lp ps' mks sh (set pl p k) p 1 (at + 1) (k + 1) m
    walk-node l x {ps'} w =
        record {
          inner = l;
          upto = omega arith;
          len_parens = w.same ∙ G.len_parens;
          len_marks = G.len_marks;
          len_shadows = G.len_shadows;
          len_places = length-set pl p k ∙ G.len_places;
          spare = λ q h. get_or-set_other pl p q k 0 (λ y. omega arith) ∙ G.spare q h;
          state = written-node (P n edge) (U n edge) ps mks sh pl at k m (rest n edge p 1) p ps' (rw (node-next l x) at G.state) w (once n edge R.book p l) (place-room l);
        }

    module _ (l : p < n) (x : get_or par p 0 ≡ c → ⊥) where
      now-shadow : Written (P n edge) (U n edge) ps mks sh pl at k m (enter (shadow p) ∷ leave ∷ rest n edge c (p + 1))
      now-shadow = rw (shadow-next l x) at G.state

      pub mark-room : (k < 8 * length mks) × (m < length sh) × (m < 65536)
      mark-room =
          let r = shadow-room (P n edge) (U n edge) ps mks sh pl at k m (leave ∷ rest n edge c (p + 1)) p now-shadow in
          (r.0, omega (arith, r.1, G.len_shadows, R.shadow_room), omega (arith, r.1, node-or-shadow (U n edge), R.few))

      pub shadow-less : left n edge c (p + 1) < left n edge c from
      unfolding left
      shadow-less = omega (arith, ap length (shadow-next l x))

      pub walk-shadow : {ps' mks' : List ℕ} → Put ps ps' at → Put mks mks' k → Walking n edge lb lm ls lp ps' mks' (set sh m p) pl c (p + 1) (at + 2) (k + 1) (m + 1)
      walk-shadow {ps'} {mks'} w w' =
          let s = written-shadow (P n edge) (U n edge) ps mks sh pl at k m (leave ∷ rest n edge c (p + 1)) p now-shadow ps' mks' w w' in
          let v = written-leave (P n edge) (U n edge) ps' mks' (set sh m p) pl (at + 1) (k + 1) (m + 1) (rest n edge c (p + 1)) s in
          let two : at + 1 + 1 ≡ at + 2 = omega arith in
          record {
            inner = G.inner;
            upto = omega arith;
            len_parens = w.same ∙ G.len_parens;
            len_marks = w'.same ∙ G.len_marks;
            len_shadows = length-set sh m p ∙ G.len_shadows;
            len_places = G.len_places;
            spare = G.spare;
            state = rw two at v.1;
          }

    -- no part is left
    module _ (l : n ≤ p) (x : c ≡ 0 → ⊥) where
      leave-next : rest n edge c from ≡ leave ∷ rest n edge (get_or par c 0) (c + 1)
      leave-next = step-next n edge R.book c from p N ∙ rw (add-one c, R.parents c (omega arith) G.inner) (step-leave n edge R.book c p (omega arith) G.inner l)

      left_one : (at < length (P n edge)) × Written (P n edge) (U n edge) ps mks sh pl (at + 1) k m (rest n edge (get_or par c 0) (c + 1))
      left_one = written-leave (P n edge) (U n edge) ps mks sh pl at k m (rest n edge (get_or par c 0) (c + 1)) (rw leave-next at G.state)

      pub leave_room : at < 131072
      leave_room = omega (arith, left_one.0, parens-length (whole n edge), R.few)

      pub leave-less : left n edge (get_or par c 0) (c + 1) < left n edge c from
      unfolding left
      leave-less = omega (arith, ap length leave-next)

      pub walk-leave : Walking n edge lb lm ls lp ps mks sh pl (get_or par c 0) (c + 1) (at + 1) k m
      walk-leave =
          record {
            inner = omega (
              arith,
              R.parents c (omega arith) G.inner,
              R.book.whole c (parent n edge c) (parent-edge n edge R.book c (omega arith) G.inner),
              G.inner,
            );
            upto = omega (arith, G.inner);
            len_parens = G.len_parens;
            len_marks = G.len_marks;
            len_shadows = G.len_shadows;
            len_places = G.len_places;
            spare = G.spare;
            state = left_one.1;
          }

    pub walk_end : n ≤ p → c ≡ 0 → Walked n edge ps mks sh pl k m
    unfolding parentheses_of visits_of
    walk_end l z =
        record {
          nodes-are = D.nodes;
          shadowed-are = D.shadowed;
          parens-are = D.parens-are.each;
          marks-are = D.marks-are.each;
          pieces_are = D.pieces_are;
          places-are = λ q b. D.places-are q (place (U n edge) q) (place-small n edge R.book q b) (node_at n edge R.book q b);
          spare = G.spare;
        }
      where
        over : rest n edge c from ≡ leave ∷ []
        over = step-next n edge R.book c from p N ∙ rw z (step_end n edge R.book p l)

        D : Done (P n edge) (U n edge) ps mks sh pl k m
        D = written-end (P n edge) (U n edge) ps mks sh pl (at + 1) k m (written-leave (P n edge) (U n edge) ps mks sh pl at k m [] (rw over at G.state)).1
