-- What the matrices of a closure hold, for n pieces, of which some are marked, and a list of facts: D is containment by the stored facts, whatever
-- the marks, U its transpose, and with the stored facts A, M, N T = D·M, P = U·A, Q = D·N ∪ T·P. Marks count in M alone. Assumes nothing.
use Rattle.std.specs.Prelude.{ℕ, ◌<◌, ◌≡◌, Bool, true, false, ◌&&◌, ◌||◌, List, ltb, length}
use Rattle.lists.specs.Any.{any_below}
use Rattle.matrices.specs.Matrix.{bit_of}
use Rattle.rules.specs.Fact.{Fact, PART, unmarked}
use Rattle.rules.specs.Follows.{follows, clash}
use Rattle.closure.specs.Stored.{stored_bit, meet_bit}

-- D, row h, column g: g is part of h by the stored facts
unfoldable pub part_bit : ℕ → List Fact → ℕ → ℕ → Bool
part_bit n fs h g = (ltb g n && ltb h n) && follows unmarked n fs (PART g h)

-- U
unfoldable pub whole_bit : ℕ → List Fact → ℕ → ℕ → Bool
whole_bit n fs g h = part_bit n fs h g

-- T: y is a part of g that is not marked, or a part of g meets y by a stored fact
unfoldable pub toward_bit : (ℕ → Bool) → ℕ → List Fact → ℕ → ℕ → Bool
toward_bit void n fs g y = any_below (λ x. part_bit n fs g x && meet_bit void n fs x y) 2048

-- P: what g is part of is apart from y by a stored fact
unfoldable pub away_bit : ℕ → List Fact → ℕ → ℕ → Bool
away_bit n fs g y = any_below (λ x. whole_bit n fs g x && stored_bit fs 2 true true x y) 2048

-- Q: a part of g is not part of y by a stored fact; or what g meets is apart from y
unfoldable pub out_bit : (ℕ → Bool) → ℕ → List Fact → ℕ → ℕ → Bool
out_bit void n fs g y =
    any_below (λ x. part_bit n fs g x && stored_bit fs 4 true false x y) 2048 || any_below (λ x. toward_bit void n fs g x && away_bit n fs x y) 2048

-- a matrix of 2,048 rows of 32 words has these bits in its rows below n; those behind them are free
pub record Holds (n : ℕ) (m : List ℕ) (f : ℕ → ℕ → Bool) : Type 0 where
  pub sized : length m ≡ 65536
  pub bits : (r i : ℕ) → r < n → i < 2048 → bit_of m r i ≡ f r i

-- m' is m with the bits of f set
pub record Grown (m m' : List ℕ) (f : ℕ → ℕ → Bool) : Type 0 where
  pub bits : (r i : ℕ) → r < 2048 → i < 2048 → bit_of m' r i ≡ (bit_of m r i || f r i)

-- the five matrices from which every claim is answered, where piece 0 is not marked and there is no contradiction
pub record Closed (void : ℕ → Bool) (n : ℕ) (fs : List Fact) (d u p t q : List ℕ) : Type 0 where
  pub whole : void 0 ≡ false
  pub free : false ≡ clash void n fs
  pub parts : Holds n d (part_bit n fs)
  pub wholes : Holds n u (whole_bit n fs)
  pub away : Holds n p (away_bit n fs)
  pub toward : Holds n t (toward_bit void n fs)
  pub outside : Holds n q (out_bit void n fs)
