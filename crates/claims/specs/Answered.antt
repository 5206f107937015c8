-- What the steps from a closure to the answers promise each other. Assumes nothing.
use Rattle.std.specs.Prelude.{ℕ, ◌≤◌, ◌<◌, ◌≡◌, Bool, false, List, ltb, length, get_or, Ok}
use Rattle.lists.specs.Any.{any_below}
use Rattle.rules.specs.Fact.{Fact}
use Rattle.rules.specs.Follows.{clash}
use Rattle.rules.specs.Verdict.{verdict}
use Rattle.records.specs.Record.{record_at, records}
use Rattle.records.specs.Facts.{facts}
use Rattle.records.specs.Check.{claims_check}
use Rattle.closure.specs.Void.{void_of, Voids}
use Rattle.closure.specs.Bounded.{Bounded}
use Rattle.closure.specs.Stepped.{Stepped}
use Rattle.closure.specs.Closed.{Holds, Closed, part_bit, toward_bit}
use Rattle.records.specs.Claimed.{claimed}
use Rattle.closure.specs.Counted.{MarksOf, Counted}

-- marks, claims on n pieces, and room for their answers
pub record Closing (cs voids : List ℕ) (room : ℕ) : Type 0 where
  pub n : ℕ
  pub small : n ≤ 2048
  pub fit : claims_check n cs ≡ Ok tt
  pub rooms : room ≡ records cs
  pub voids-sized : length voids ≡ 32

-- the claims of one origin are answered from these facts and marks, and the other answers are as they were
pub record AnsweredFrom (void : ℕ → Bool) (origin n : ℕ) (fs : List Fact) (cs before answers : List ℕ) : Type 0 where
  pub are : (i : ℕ) → i < records cs → (record_at cs i).origin ≡ origin → get_or answers i 0 ≡ verdict void n fs (claimed cs i)
  pub others : (i : ℕ) → ((record_at cs i).origin ≡ origin → ⊥) → get_or answers i 0 ≡ get_or before i 0

-- and so from every list of facts whose closure the matrices are
pub record Answers (void : ℕ → Bool) (origin : ℕ) (cs d u p t q before answers : List ℕ) : Type 0 where
  pub are :
      (n : ℕ) (fs : List Fact) → Bounded n fs → Closed void n fs d u p t q → claims_check n cs ≡ Ok tt → AnsweredFrom void origin n fs cs before answers

-- some claim is to be answered from the cutting sheets alone
unfoldable pub restricted : List ℕ → Bool
restricted cs = any_below (λ i. ltb 0 (record_at cs i).origin) (records cs)

-- a book that is not contradictory, its marks, claims, and room for the answers
pub record Restrictable (s : List ℕ) (n : ℕ) (voids cs : List ℕ) (room : ℕ) : Type 0 where
  pub sound : Counted s n
  pub void : Voids voids
  pub free : false ≡ clash (void_of voids) n (facts s)
  pub fit : claims_check n cs ≡ Ok tt
  pub rooms : room ≡ records cs

-- a book that is not contradictory, claims that pass the rows before 14, the book's marks, steps, D and T
pub record Answerable (s : List ℕ) (n : ℕ) (voids cs e order lead d t : List ℕ) (room : ℕ) : Type 0 where
  pub sound : Counted s n
  pub void : MarksOf s voids
  pub free : false ≡ clash (void_of voids) n (facts s)
  pub fit : claims_check n cs ≡ Ok tt
  pub rooms : room ≡ records cs
  pub stepped : Stepped n (facts s) e order lead
  pub parts : Holds n d (part_bit n (facts s))
  pub toward : Holds n t (toward_bit (void_of voids) n (facts s))
