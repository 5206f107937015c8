-- The text of a chain: the claim with its answer, then a line a step. Assumes nothing.
use Rattle.std.specs.Prelude.{ℕ, ◌<◌, List, ◌++◌, get_or}
use Rattle.records.specs.declared.Record.{Record}
use Rattle.verdicts.specs.declared.Answer.{Answer}
use Rattle.verdicts.specs.Answers.{answer_byte}
use Rattle.chain_format.specs.Step.{steps}
use Rattle.chain_pages.specs.StepLine.{step_lines}
use Rattle.chain_pages.specs.AnswerLine.{answer_line}

unfoldable pub chain_text : Record → Answer → (c : List ℕ) → List ℕ
chain_text claim answer c = answer_line claim (answer_byte answer) ++ step_lines c (steps c)

abbrev pub Bytes : List ℕ → Type 0
Bytes l = (j : ℕ) → get_or l j 0 < 256
