-- The path-based search for groups: what holds of its arrays, and what a call for one piece promises. Assumes nothing.
-- A path of pieces, each of which leads to the next ones; it falls into groups of pieces that lead to each other, and `bounds` has the places where
-- they begin. A piece has a place on the path once it is met, and the number of its group, in the order in which groups end, once that ended.
use Rattle.std.specs.Prelude.{◌≡◌, ◌⊎◌, Bool, true, false, ◌&&◌, List, ℕ, suc, ◌+◌, ◌-◌, ◌<◌, ◌≤◌, eqb, ltb, length, get_or, set}
use Rattle.matrices.specs.Matrix.{bit_of}
use Rattle.index.specs.Pairs.{Within}
use Rattle.lists.specs.Tally.{tally}
use Rattle.groups.specs.declared.components.Path.{Path}

pub record State : Type 0 where
  pub pos : ℕ → ℕ
  pub done : ℕ → ℕ
  pub path : ℕ → ℕ
  pub bound : ℕ → ℕ
  pub len : ℕ
  pub top : ℕ
  pub count : ℕ

-- no group begins after i and up to j
abbrev pub Free : State → ℕ → ℕ → Type 0
Free S i j = (k : ℕ) → k < S.top → (S.bound k ≤ i) ⊎ (j < S.bound k)

-- `edge x y`: y is a part of x. `Way x y`: y is reached from x by edges. `none` stands for no place and for no number
module _ (n none : ℕ) (edge : ℕ → ℕ → Bool) (Way : ℕ → ℕ → Type 0) where
  -- an edge from a piece all of whose edges are looked at: not out of the ended, and not to an earlier group of the path
  pub record Settled (S : State) (x y : ℕ) : Type 0 where
    pub seen : S.pos y < none
    pub over : S.done x < none → S.done y ≤ S.done x
    pub onto : S.done x ≡ none → (S.done y < none) ⊎ Free S (S.pos y) (S.pos x)

  -- gray are the pieces whose edges are still being looked at
  pub record Good (S : State) (gray : ℕ → Bool) : Type 0 where
    pub seat : (i : ℕ) → i < S.len → (S.path i < n) × (S.pos (S.path i) ≡ i) × (S.done (S.path i) ≡ none)
    pub active : (x : ℕ) → x < n → S.pos x < none → S.done x ≡ none → (S.pos x < S.len) × (S.path (S.pos x) ≡ x)
    pub spot : (x : ℕ) → x < n → (S.pos x ≡ none) ⊎ (S.pos x < none)
    pub ended : (x : ℕ) → x < n → (S.done x ≡ none) ⊎ ((S.done x < S.count) × (S.pos x < none))
    pub steps : (k : ℕ) → k < S.top → (k ≤ S.bound k) × (S.bound k < S.len)
    pub climb : (k l : ℕ) → k < l → l < S.top → S.bound k < S.bound l
    pub base : 0 < S.len → (0 < S.top) × (S.bound 0 ≡ 0)
    pub forth : (i j : ℕ) → i ≤ j → j < S.len → Way (S.path i) (S.path j)
    pub back : (i j : ℕ) → i ≤ j → j < S.len → Free S i j → Way (S.path j) (S.path i)
    pub one : (x y : ℕ) → x < n → y < n → S.done x < none → S.done x ≡ S.done y → Way x y
    pub settled : (x : ℕ) → x < n → S.pos x < none → gray x ≡ false → (y : ℕ) → y < n → edge x y ≡ true → Settled S x y
    pub full : (f : ℕ) → f < S.count → (x : ℕ) × (x < n) × (S.done x ≡ f)
    pub room : S.count + S.len + tally (λ x. eqb (S.pos x) none) n ≤ n

  pub record Pushed (S S' : State) (v : ℕ) : Type 0 where
    pub len_is : S'.len ≡ suc S.len
    pub top-is : S'.top ≡ suc S.top
    pub count-is : S'.count ≡ S.count
    pub pos-at : S'.pos v ≡ S.len
    pub pos-other : (x : ℕ) → (x ≡ v → ⊥) → S'.pos x ≡ S.pos x
    pub done-is : (x : ℕ) → S'.done x ≡ S.done x
    pub path-at : S'.path S.len ≡ v
    pub path-other : (i : ℕ) → i < S.len → S'.path i ≡ S.path i
    pub bound_at : S'.bound S.top ≡ S.len
    pub bound-other : (k : ℕ) → k < S.top → S'.bound k ≡ S.bound k

  pub record Closed (S S' : State) (t at : ℕ) : Type 0 where
    pub top-was : S.top ≡ suc t
    pub begins : S.bound t ≡ at
    pub len_is : S'.len ≡ at
    pub top-is : S'.top ≡ t
    pub count-is : S'.count ≡ suc S.count
    pub pos-is : (x : ℕ) → S'.pos x ≡ S.pos x
    pub path-is : (i : ℕ) → S'.path i ≡ S.path i
    pub bound-is : (k : ℕ) → S'.bound k ≡ S.bound k
    pub done-in : (i : ℕ) → at ≤ i → i < S.len → S'.done (S.path i) ≡ S.count
    pub done-out : (x : ℕ) → ((i : ℕ) → at ≤ i → i < S.len → S.path i ≡ x → ⊥) → S'.done x ≡ S.done x

  -- what was seen stays as it was, and bounds are only taken away
  pub record Kept (S S' : State) : Type 0 where
    pub longer : S.len ≤ S'.len
    pub path-kept : (i : ℕ) → i < S.len → S'.path i ≡ S.path i
    pub pos-kept : (x : ℕ) → x < n → S.pos x < none → S'.pos x ≡ S.pos x
    pub done-kept : (x : ℕ) → x < n → S.pos x < none → S'.done x ≡ S.done x
    pub top-less : S'.top ≤ S.top
    pub bound-kept : (k : ℕ) → k < S'.top → S'.bound k ≡ S.bound k

  pub record Visited (S S' : State) (v : ℕ) (gray : ℕ → Bool) : Type 0 where
    pub good : Good S' gray
    pub kept : Kept S S'
    pub met : S'.pos v ≡ S.len

  pub record Searched (done : ℕ → ℕ) : Type 0 where
    pub ended : (x : ℕ) → x < n → done x < n
    pub one : (x y : ℕ) → x < n → y < n → done x ≡ done y → Way x y
    pub order : (x y : ℕ) → x < n → y < n → edge x y ≡ true → done y ≤ done x
    pub full : (x f : ℕ) → x < n → f < done x → (y : ℕ) × (y < n) × (done y ≡ f)

-- the state that the arrays of a path hold
abbrev pub state_of : Path → State
state_of s = record {
  pos = λ x. get_or s.pos x 0;
  done = λ x. get_or s.done x 0;
  path = λ i. get_or s.pieces i 0;
  bound = λ k. get_or s.bounds k 0;
  len = s.len;
  top = s.top;
  count = s.count;
}

-- v at the end of the path, as a group of its own
abbrev pub pushed : Path → ℕ → Path
pushed s v = record {
  pos = set s.pos v s.len;
  done = s.done;
  pieces = set s.pieces s.len v;
  bounds = set s.bounds s.top s.len;
  len = s.len + 1;
  top = s.top + 1;
  count = s.count;
}

-- the pairs of the matrix e whose part is one of the n pieces
unfoldable pub part_of : ℕ → List ℕ → ℕ → ℕ → Bool
part_of n e p c = ltb p n && bit_of e c p

-- y lies within x, by these pairs
abbrev pub WayOf : ℕ → List ℕ → ℕ → ℕ → Type 0
WayOf n e x y = Within (part_of n e) y x

abbrev pub GoodOf : ℕ → List ℕ → State → (ℕ → Bool) → Type 0
GoodOf n e S gray = Good n 2048 (bit_of e) (WayOf n e) S gray

abbrev pub VisitedOf : ℕ → List ℕ → State → State → ℕ → (ℕ → Bool) → Type 0
VisitedOf n e S S' v gray = Visited n 2048 (bit_of e) (WayOf n e) S S' v gray

-- all that is on the path leads to v
abbrev pub Leading : ℕ → List ℕ → State → ℕ → Type 0
Leading n e S v = (i : ℕ) → i < S.len → WayOf n e (S.path i) v

-- the arrays have an entry for each row
pub record Room (s : Path) : Type 0 where
  pub pos-is : length s.pos ≡ 2048
  pub done-is : length s.done ≡ 2048
  pub pieces-are : length s.pieces ≡ 2048
  pub bounds-are : length s.bounds ≡ 2048

-- what the call for v asks
pub record Callable (n : ℕ) (e : List ℕ) (s : Path) (v : ℕ) : Type 0 where
  pub few : n ≤ 2048
  pub matrix : length e ≡ 65536
  pub room : Room s
  pub piece : v < n
  pub new : get_or s.pos v 0 ≡ 2048
  pub gray : ℕ → Bool
  pub good : GoodOf n e (state_of s) gray
  pub leading : Leading n e (state_of s) v

-- the bounds up to p are kept
pub record Cut (bounds : List ℕ) (top p t : ℕ) : Type 0 where
  pub fewer : t ≤ top
  pub low : 0 < t → get_or bounds (t - 1) 0 ≤ p
  pub high : (k : ℕ) → t ≤ k → k < top → p < get_or bounds k 0

-- the pieces of the path from `at` on have the number `count`
pub record Numbered (path done done' : List ℕ) (at len count : ℕ) : Type 0 where
  pub sized : length done' ≡ length done
  pub hit : (i : ℕ) → at ≤ i → i < len → get_or done' (get_or path i 0) 0 ≡ count
  pub miss : (x : ℕ) → ((i : ℕ) → at ≤ i → i < len → get_or path i 0 ≡ x → ⊥) → get_or done' x 0 ≡ get_or done x 0

-- the pieces of the path may be used as places of `done`
pub record Inside (path : List ℕ) (at len room : ℕ) : Type 0 where
  pub pieces : (i : ℕ) → at ≤ i → i < len → get_or path i 0 < room

-- what the search asks: a matrix whose row 0 has every other piece below n
pub record Searchable (n : ℕ) (e : List ℕ) (room : ℕ) : Type 0 where
  pub some : 0 < n
  pub few : n ≤ 2048
  pub matrix : length e ≡ 65536
  pub sized : room ≡ 2048
  pub crowned : (y : ℕ) → 0 < y → y < n → bit_of e 0 y ≡ true
