-- Each book's answers, and the three bytes of each claim. Assumes nothing.
use Rattle.std.specs.Prelude.{ℕ, List}
use Rattle.rules.specs.Verdict.{verdict}
use Rattle.records.specs.Record.{records}
use Rattle.records.specs.Marked.{marked}
use Rattle.compare.specs.Joint.{pieces}
use Rattle.compare.specs.Agreement.{threes}
use Rattle.records.specs.Claimed.{claimed, picked_facts}

-- a book's answer to claim i among n pieces, with its own marks and the facts of it that the claim picks
unfoldable pub answer_of : List ℕ → ℕ → List ℕ → ℕ → ℕ
answer_of s n cs i = verdict (marked s) n (picked_facts s cs i) (claimed cs i)

unfoldable pub bytes_of : List ℕ → List ℕ → List ℕ → List ℕ
bytes_of s t cs = threes (answer_of s (pieces s t) cs) (answer_of t (pieces s t) cs) (records cs)
