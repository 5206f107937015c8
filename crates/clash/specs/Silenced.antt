-- A copy of a book in which no record from number i on states a fact: these have kind 5. Numbers and marks stay. And what the inner functions promise each
-- other. Assumes nothing.
use Rattle.std.specs.Prelude.{ℕ, ◌*◌, ◌/◌, ◌%◌, ◌≤◌, ◌≡◌, Bool, true, false, ◌&&◌, List, eqb, leb, length, get_or, take, Ok}
use Rattle.lists.specs.Tab.{tab}
use Rattle.lists.specs.Front.{front}
use Rattle.records.specs.Pieces.{piece_count}
use Rattle.records.specs.Marked.{marked}
use Rattle.records.specs.Check.{book_check}
use Rattle.closure.specs.Counted.{MarksOf}
use Rattle.contradiction.specs.Settled.{Clashed}
use Rattle.chain_format.specs.Twice.{NoneTwice}
use Rattle.clash.specs.Clash.{clash_ok}

-- byte p is the kind of a record from number i on, and states a fact
unfoldable pub silences : ℕ → ℕ → ℕ → Bool
silences i p x = eqb (p % 6) 0 && (leb i (p / 6) && (leb 1 x && leb x 4))

unfoldable pub silenced_byte : ℕ → ℕ → ℕ → ℕ
silenced_byte i p x = elim (silences i p x) [ true ↦ 5 | false ↦ x ]

unfoldable pub silenced : List ℕ → ℕ → List ℕ
silenced s i = tab (λ p. silenced_byte i p (get_or s p 0)) 0 (length s)

-- a book that 14 refuses at this place
pub record Clashes (s : List ℕ) (place : ℕ) : Type 0 where
  pub sound : book_check s ≡ Ok (piece_count s)
  pub clashed : Clashed (marked s) (piece_count s) s place

-- its piece count and its marks
pub record Placed (s : List ℕ) (place n : ℕ) (voids : List ℕ) : Type 0 where
  pub clashes : Clashes s place
  pub count : n ≡ piece_count s
  pub void : MarksOf s voids

-- r steps, behind which nothing is written
pub record Behind (s : List ℕ) (place : ℕ) (c : List ℕ) (r : ℕ) (c' : List ℕ) : Type 0 where
  pub some : 1 ≤ r
  pub few : r ≤ 16400
  pub ok : clash_ok s place (take (10 * r) c') ≡ true
  pub none-twice : NoneTwice (take (10 * r) c')
  pub rest : c' ≡ front (take (10 * r) c') c
