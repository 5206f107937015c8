-- The line of a step: its number, kind, a and b, and what it rests on. Assumes nothing.
use Rattle.std.specs.Prelude.{ℕ, zero, suc, List, [], ◌∷◌, get_or}
use Rattle.pages.specs.Text.{ascii, line}
use Rattle.pages.specs.Decimal.{decimal}
use Rattle.pages.specs.Entry.{entry}
use Rattle.sentences.specs.Words.{kind_name}
use Rattle.chain_format.specs.declared.steps.Step.{Step}
use Rattle.chain_format.specs.Step.{step_at}
use Rattle.pages.specs.Lines.{lines}

-- for each rule of `chain_format` `Rule`, by number, its words, and how many numbers stand behind them: a record's, or two earlier steps'
abbrev pub grounds : List ℕ
grounds = ascii "RECORD\nRULE a FROM\nRULE b FROM\nRULE c\nRULE f\nRULE a' FROM\nRULE b' FROM\nRULE c' FROM\nRULE d' FROM\nRULE e'\nRULE d RECORD\nRULE e RECORD\n"

abbrev pub counts : List ℕ
counts = 1 ∷ 2 ∷ 2 ∷ 0 ∷ 0 ∷ 2 ∷ 2 ∷ 2 ∷ 2 ∷ 0 ∷ 1 ∷ 1 ∷ []

unfoldable pub count : ℕ → ℕ
count rule = get_or counts rule 0

abbrev pub numbers : ℕ → Step → List (List ℕ)
numbers zero s = []
numbers (suc zero) s = decimal s.first ∷ []
numbers (suc (suc n)) s = decimal s.first ∷ decimal s.second ∷ []

unfoldable pub ground : Step → List ℕ
ground s = line (entry s.rule grounds ∷ numbers (count s.rule) s)

unfoldable pub step_line : ℕ → Step → List ℕ
step_line i s = line (decimal i ∷ kind_name s.kind ∷ decimal s.a ∷ decimal s.b ∷ entry s.rule grounds ∷ numbers (count s.rule) s)

-- the lines of the first n steps
unfoldable pub step_lines : List ℕ → ℕ → List ℕ
step_lines c n = lines (λ i. step_line i (step_at c i)) n
