-- The answer of a reply, by derivations and by models. Assumes nothing.
use Rattle.std.specs.Prelude.{ℕ, ◌≡◌, List}
use Rattle.records.specs.Marked.{marked}
use Rattle.records.specs.Pieces.{piece_count}
use Rattle.records.specs.Claimed.{claimed, picked_facts}
use Rattle.outcomes.specs.Demands.{Derived, Entailed}
use Rattle.chain_writing.specs.Call.{reply}
use Rattle.chain_writing.specs.ReplyNumbers.{number, answer}

-- from the facts that the claim picks, with the book's marks
abbrev pub ReplyDemanded : Type 0
ReplyDemanded =
    (s cs : List ℕ) (room : ℕ) → number (reply s cs room) ≡ 0
    → Derived (marked s) (piece_count s) (picked_facts s cs 0) (claimed cs 0) (answer (reply s cs room))
    × Entailed (marked s) (piece_count s) (picked_facts s cs 0) (claimed cs 0) (answer (reply s cs room))
