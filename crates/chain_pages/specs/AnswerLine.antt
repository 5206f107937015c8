-- The line of a claim with its answer. Assumes nothing.
use Rattle.std.specs.Prelude.{ℕ, zero, suc, List, [], ◌∷◌, ◌++◌}
use Rattle.pages.specs.Text.{ascii, line}
use Rattle.pages.specs.Decimal.{decimal}
use Rattle.records.specs.declared.Record.{Record}
use Rattle.sentences.specs.Words.{kind_name, answer_name}

-- the choice of facts, where it is not all
abbrev pub choice : ℕ → List (List ℕ)
choice zero = []
choice (suc o) = ascii "sheets" ∷ []

unfoldable pub answer_line : Record → ℕ → List ℕ
answer_line r answer = line (kind_name r.kind ∷ decimal r.a ∷ decimal r.b ∷ (choice r.origin ++ (answer_name answer ∷ [])))
