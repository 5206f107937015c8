-- What the call of include/piecebook.h that writes a chain hands back: the promise of `chain_writing`, with document 01's numbers. Assumes nothing.
use Rattle.chain_writing.specs.Reply.{Reply}
use Rattle.std.specs.Prelude.{◌≡◌, true, false, List, ℕ, ◌*◌, length, take}
use Rattle.lists.specs.Front.{front}
use Rattle.chain_writing.specs.Call.{reply, shown, Steps}
use Rattle.chain_writing.specs.ReplyNumbers.{number, place, answer}
use Rattle.piecebook.specs.declared.chain_calls.PiecebookChainResult.{PiecebookChainResult}

pub record Replied (o : Reply) (steps : ℕ) (r : PiecebookChainResult) : Type 0 where
  pub number_is : r.number ≡ number o
  pub place_is : r.place ≡ place o
  pub answer-is : r.answer ≡ answer o
  pub steps-are : r.steps ≡ steps

-- number, place and answer from the input alone; with FOLLOWS and DENIED so many steps that pass, no two of which show the same, else none; and the bytes behind them as they were. Which of
-- several chains is written is free
pub record Chained (s cs c : List ℕ) (r : PiecebookChainResult) (c' : List ℕ) : Type 0 where
  pub number_is : r.number ≡ number (reply s cs (length c))
  pub place_is : r.place ≡ place (reply s cs (length c))
  pub answer-is : r.answer ≡ answer (reply s cs (length c))
  pub passing : shown (reply s cs (length c)) ≡ true → Steps s cs c' r.steps
  pub none : shown (reply s cs (length c)) ≡ false → r.steps ≡ 0
  pub behind : c' ≡ front (take (10 * r.steps) c') c
