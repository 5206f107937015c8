-- Demands 2 and 3 of two books: the answers, the joint answer and refusal 14 by derivations and by models. Assumes nothing.
use Rattle.compare.specs.Refused.{Comparison}
use Rattle.std.specs.Prelude.{ℕ, ◌+◌, ◌*◌, ◌<◌, ◌≤◌, ◌≡◌, ◌↔◌, List, get_or, Ok}
use Rattle.rules.specs.Model.{Model, keeps_all}
use Rattle.records.specs.Record.{records}
use Rattle.records.specs.Facts.{facts}
use Rattle.records.specs.Marked.{marked}
use Rattle.records.specs.Check.{book_check}
use Rattle.compare.specs.Joint.{pieces, either_marked}
use Rattle.compare.specs.Agreement.{agreement}
use Rattle.records.specs.Claimed.{claimed, picked_facts}
use Rattle.outcomes.specs.Demands.{Derived, Entailed}
use Rattle.compare.specs.Outcome.{number, book, together}

-- a book's answer to claim i among n pieces: by derivations from the facts of the book that the claim picks and its own marks, and by the models of these
pub record Right (s : List ℕ) (n : ℕ) (cs : List ℕ) (i answer : ℕ) : Type 0 where
  pub derived : Derived (marked s) n (picked_facts s cs i) (claimed cs i) answer
  pub entailed : Entailed (marked s) n (picked_facts s cs i) (claimed cs i) answer

-- the three bytes of claim i
pub record Answered (s t cs out : List ℕ) (i : ℕ) : Type 0 where
  pub first : Right s (pieces s t) cs i (get_or out (3 * i) 0)
  pub second : Right t (pieces s t) cs i (get_or out (3 * i + 1) 0)
  pub third : get_or out (3 * i + 2) 0 ≡ agreement (get_or out (3 * i) 0) (get_or out (3 * i + 1) 0)

-- no model of a book's n pieces keeps all its facts
abbrev pub NoModel : List ℕ → ℕ → Type 0
NoModel s n = (M : Model (marked s) n) → keeps_all M (facts s) → ⊥

-- on acceptance each claim has its three bytes, and the books can be laid together exactly when a model, with no point in what one of them marks and one
-- at least in every other piece, keeps all facts of both; where no row before refuses, 14 of a book is exactly that it has no model
pub record Demanded (s t cs : List ℕ) (room : ℕ) (out : List ℕ) (r : Comparison) : Type 0 where
  pub answered : number r ≡ 0 → (i : ℕ) → i < records cs → Answered s t cs out i
  pub joint : number r ≡ 0 → (together r ≡ 1) ↔ ((M : Model (either_marked s t) (pieces s t)) × keeps_all M (facts s) × keeps_all M (facts t))
  pub first : (n : ℕ) → 3 * records cs ≤ room → book_check s ≡ Ok n → ((number r ≡ 14) × (book r ≡ 1)) ↔ NoModel s n
  pub second :
      (n m : ℕ) → 3 * records cs ≤ room → book_check s ≡ Ok n → (NoModel s n → ⊥) → book_check t ≡ Ok m
      → ((number r ≡ 14) × (book r ≡ 2)) ↔ NoModel t m
