-- What the builder's inner functions promise of each other. Assumes nothing.
use Rattle.std.specs.Prelude.{◌≡◌, ◌⊎◌, Bool, true, false, not, List, [], ◌∷◌, ◌++◌, ℕ, ◌+◌, ◌<◌, ◌≤◌, eqb, length, get_or, take}
use Rattle.lists.specs.Any.{any_below}
use Rattle.parentheses.specs.Bits.{bits}
use Rattle.lists.specs.Tally.{num}
use Rattle.matrices.specs.Matrix.{bit_of}
use Rattle.lists.specs.Numbers.{range, keep, find}
use Rattle.index.specs.Pairs.{joined, Book}
use Rattle.index.specs.Breadth.{breadth, parent}
use Rattle.index.specs.Parts.{place, marks, shadows}
use Rattle.index.specs.Index.{parentheses_of, visits_of, Room}
use Rattle.index.specs.Matrix.{pair_of}

-- ---- the joins

-- held has a 1 for each part of c, and is as it was elsewhere
pub record Marked (m : List ℕ) (c : ℕ) (held held' : List ℕ) : Type 0 where
  pub same : length held' ≡ length held
  pub hit : (q : ℕ) → q < 2048 → bit_of m c q ≡ true → get_or held' q 0 ≡ 1
  pub miss : (q : ℕ) → q < 2048 → bit_of m c q ≡ false → get_or held' q 0 ≡ get_or held q 0

-- held has a 1 for each part of one of the first n pieces, and 0 elsewhere
pub record Held (n : ℕ) (m held : List ℕ) : Type 0 where
  pub each : (q : ℕ) → q < 2048 → get_or held q 0 ≡ num (any_below (λ c. bit_of m c q) n)

-- a matrix that is a book's once it has the joins
pub record Joinable (n : ℕ) (m : List ℕ) : Type 0 where
  pub some : 0 < n
  pub small : n ≤ 2048
  pub matrix : length m ≡ 65536
  pub book : Book n (joined n (pair_of n m))

-- ---- the parents, breadth first

-- a book in a matrix, with room for its parents and its queue
pub record Sized (n : ℕ) (m : List ℕ) (parents queue : ℕ) : Type 0 where
  pub book : Book n (pair_of n m)
  pub small : n ≤ 2048
  pub matrix : length m ≡ 65536
  pub par_room : n ≤ parents
  pub ord_room : n ≤ queue

-- 2048 stands for the parent of a piece that is not met yet
unfoldable pub fresh : List ℕ → ℕ → Bool
fresh par p = eqb (get_or par p 0) 2048

unfoldable pub unmet : ℕ → List ℕ → List ℕ
unmet n par = keep (fresh par) (range 0 n)

-- one round: the parts of c that were not met have c for their parent, and stand at the end of the queue
pub record Spread (n : ℕ) (edge : ℕ → ℕ → Bool) (c : ℕ) (par₀ ord₀ : List ℕ) (tail₀ : ℕ) (par ord : List ℕ) (tail : ℕ) : Type 0 where
  pub par_length : length par ≡ length par₀
  pub ord_length : length ord ≡ length ord₀
  pub queued : take tail ord ≡ take tail₀ ord₀ ++ keep (λ q. edge q c) (unmet n par₀)
  pub count : tail ≡ tail₀ + length (keep (λ q. edge q c) (unmet n par₀))
  pub left : unmet n par ≡ keep (λ q. not (edge q c)) (unmet n par₀)
  pub stays : (q : ℕ) → q < n → fresh par q ≡ true → (fresh par₀ q ≡ true) × (edge q c ≡ false)
  pub settled : (q : ℕ) → q < n → fresh par q ≡ false
      → ((fresh par₀ q ≡ true) × (edge q c ≡ true) × (get_or par q 0 ≡ c)) ⊎ ((fresh par₀ q ≡ false) × (get_or par q 0 ≡ get_or par₀ q 0))

-- the pieces in the order in which they are met from k
unfoldable pub order_from : ℕ → (ℕ → ℕ → Bool) → ℕ → List ℕ
order_from n edge k = breadth n edge n (k ∷ []) (keep (λ q. not (eqb q k)) (range 0 n))

-- p has its parent: its first container in that order, met itself, and at a lower level
pub record Hung (n : ℕ) (edge : ℕ → ℕ → Bool) (k : ℕ) (level : ℕ → ℕ) (par : List ℕ) (p : ℕ) : Type 0 where
  pub piece : get_or par p 0 < n
  pub met : fresh par (get_or par p 0) ≡ false
  pub part : edge p (get_or par p 0) ≡ true
  pub lower : level (get_or par p 0) < level p
  pub first : get_or par p 0 ≡ find (λ c. edge p c) (order_from n edge k)

-- k is met, and so are the parts of what is met; each of these pieces but k has its parent, and their levels are below n
pub record Searched (n : ℕ) (edge : ℕ → ℕ → Bool) (k : ℕ) (par : List ℕ) : Type 0 where
  pub start : fresh par k ≡ false
  pub parts : (p c : ℕ) → p < n → c < n → edge p c ≡ true → fresh par c ≡ false → fresh par p ≡ false
  pub level : ℕ → ℕ
  pub fits : (p : ℕ) → p < n → fresh par p ≡ false → level p < n
  pub hung : (p : ℕ) → p < n → (p ≡ k → ⊥) → fresh par p ≡ false → Hung n edge k level par p

-- every piece has its parent
pub record Parented (n : ℕ) (edge : ℕ → ℕ → Bool) (par : List ℕ) : Type 0 where
  pub parents : (q : ℕ) → 0 < q → q < n → get_or par q 0 ≡ parent n edge q

-- ---- the walk, depth first

pub record Zero (xs : List ℕ) : Type 0 where
  pub zeros : (i : ℕ) → get_or xs i 0 ≡ 0

-- a book in a matrix, its parents, and parts that have room
pub record Walkable (n : ℕ) (m par : List ℕ) (bytes mark_bytes shadow_count place_count : ℕ) : Type 0 where
  pub book : Book n (pair_of n m)
  pub small : n ≤ 2048
  pub matrix : length m ≡ 65536
  pub parents : (p : ℕ) → 0 < p → p < n → get_or par p 0 ≡ parent n (pair_of n m) p
  pub room : Room n (pair_of n m) bytes mark_bytes shadow_count place_count
  pub few : length (visits_of n (pair_of n m)) ≤ 65536

-- the parts, but that the shadow list has pieces yet and not places
pub record Walked (n : ℕ) (edge : ℕ → ℕ → Bool) (parens mks sh pl : List ℕ) (nodes shadowed : ℕ) : Type 0 where
  pub nodes-are : nodes ≡ length (visits_of n edge)
  pub shadowed-are : shadowed ≡ length (shadows (visits_of n edge))
  pub parens-are : (k : ℕ) → get_or (bits parens) k false ≡ get_or (parentheses_of n edge) k false
  pub marks-are : (k : ℕ) → get_or (bits mks) k false ≡ get_or (marks (visits_of n edge)) k false
  pub pieces_are : (j : ℕ) → j < length sh → get_or sh j 0 ≡ get_or (shadows (visits_of n edge)) j 0
  pub places-are : (q : ℕ) → q < n → get_or pl q 0 ≡ place (visits_of n edge) q
  pub spare : (q : ℕ) → n ≤ q → get_or pl q 0 ≡ 0

-- ---- the shadow list

-- the first m of a list are pieces that have places
pub record Resolvable (sh pl : List ℕ) (m : ℕ) : Type 0 where
  pub fits : m ≤ length sh
  pub known : (j : ℕ) → j < m → get_or sh j 0 < length pl

-- each of the first m has given way to its place
pub record Resolved (sh pl : List ℕ) (m : ℕ) (sh' : List ℕ) : Type 0 where
  pub same : length sh' ≡ length sh
  pub changed : (j : ℕ) → j < m → get_or sh' j 0 ≡ get_or pl (get_or sh j 0) 0
  pub kept : (j : ℕ) → m ≤ j → get_or sh' j 0 ≡ get_or sh j 0
