-- Demands 2 and 3 of the users' committee, and refusal 14 by document 01's own word, as promises over the number of an outcome. Assumes nothing.
use Rattle.std.specs.Prelude.{◌≡◌, ◌↔◌, Bool, List, ℕ, ◌<◌, get_or}
use Rattle.rules.specs.Fact.{Fact, opposite}
use Rattle.rules.specs.Derives.{Derives}
use Rattle.rules.specs.Model.{Model, keeps, keeps_all}
use Rattle.records.specs.Record.{records}
use Rattle.records.specs.Facts.{facts}
use Rattle.records.specs.Pieces.{piece_count}
use Rattle.records.specs.Marked.{marked}
use Rattle.records.specs.Contradiction.{Contradiction}
use Rattle.outcomes.specs.Lent.{Lent}
use Rattle.records.specs.Claimed.{claimed, picked_facts}
use Rattle.outcomes.specs.Call.{Passed}

-- demand 2, of one claim: FOLLOWS exactly when it has a derivation, DENIED exactly when its opposite has one, OPEN exactly when neither has
pub record Derived (void : ℕ → Bool) (n : ℕ) (fs : List Fact) (f : Fact) (answer : ℕ) : Type 0 where
  pub follows : (answer ≡ 1) ↔ Derives void n fs f
  pub denied : (answer ≡ 2) ↔ Derives void n fs (opposite f)
  pub undecided : (answer ≡ 3) ↔ ((Derives void n fs f → ⊥) × (Derives void n fs (opposite f) → ⊥))

-- of every claim, on acceptance, by derivations from the facts that it picks and the book's marks
abbrev pub Demand2 : List ℕ → List ℕ → List ℕ → ℕ → Type 0
Demand2 book claims answers number = number ≡ 0 → (i : ℕ) → i < records claims → Derived (marked book) (piece_count book) (picked_facts book claims i) (claimed claims i) (get_or answers i 0)

-- demand 3, of one claim: FOLLOWS exactly when it is true in every model of the facts, DENIED exactly when it is true in none, OPEN exactly when it is
-- true in one and untrue in another
pub record Entailed (void : ℕ → Bool) (n : ℕ) (fs : List Fact) (f : Fact) (answer : ℕ) : Type 0 where
  pub follows : (answer ≡ 1) ↔ ((M : Model void n) → keeps_all M fs → keeps M f)
  pub denied : (answer ≡ 2) ↔ ((M : Model void n) → keeps_all M fs → keeps M f → ⊥)
  pub undecided : (answer ≡ 3) ↔ (((M : Model void n) × keeps_all M fs × keeps M f) × ((M : Model void n) × keeps_all M fs × (keeps M f → ⊥)))

-- of every claim, on acceptance, by models of the book's pieces, with no point in those that it marks and one at least in every other, that keep the
-- facts it picks; where no row before 14 refuses, a book is refused as contradictory exactly when it has no model; and every accepted book has one
pub record Demand3 (book claims : List ℕ) (l : Lent) (answers : List ℕ) (number : ℕ) : Type 0 where
  pub answered : number ≡ 0 → (i : ℕ) → i < records claims → Entailed (marked book) (piece_count book) (picked_facts book claims i) (claimed claims i) (get_or answers i 0)
  pub refused : (n : ℕ) → Passed book claims l n → (number ≡ 14) ↔ ((M : Model (marked book) n) → keeps_all M (facts book) → ⊥)
  pub modelled : number ≡ 0 → (M : Model (marked book) (piece_count book)) × keeps_all M (facts book)

-- refusal 14: with the book's marks the records up to the place are contradictory, and no fewer are
abbrev pub Contradicted : List ℕ → ℕ → ℕ → Type 0
Contradicted book number place = number ≡ 14 → Contradiction (marked book) (piece_count book) book place
