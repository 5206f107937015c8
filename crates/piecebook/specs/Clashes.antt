-- What the call of include/piecebook.h that writes the chain behind a contradiction hands back: the promise of `clash`, with document 01's numbers. Assumes nothing.
use Rattle.clash.specs.Reply.{Reply}
use Rattle.std.specs.Prelude.{◌≡◌, true, false, List, ℕ, ◌*◌, length, take, Err, Ok}
use Rattle.lists.specs.Front.{front}
use Rattle.records.specs.Refusal.{refusal_number}
use Rattle.clash.specs.Clash.{reply, shown, Steps}
use Rattle.piecebook.specs.declared.chain_calls.PiecebookClashResult.{PiecebookClashResult}

-- 0 where there is no contradiction, or the refusal's number; and its place
abbrev pub number : Reply → ℕ
number (Ok _) = 0
number (Err r) = refusal_number r.refusal

abbrev pub place : Reply → ℕ
place (Ok _) = 0
place (Err r) = r.place

pub record Replied (o : Reply) (steps : ℕ) (r : PiecebookClashResult) : Type 0 where
  pub number_is : r.number ≡ number o
  pub place_is : r.place ≡ place o
  pub steps-are : r.steps ≡ steps

-- number and place from the input alone; with 14 so many steps that pass, no two of which show the same, else none; and the bytes behind them as they were. Which of several chains is written
-- is free
pub record Clashed (s c : List ℕ) (r : PiecebookClashResult) (c' : List ℕ) : Type 0 where
  pub number_is : r.number ≡ number (reply s (length c))
  pub place_is : r.place ≡ place (reply s (length c))
  pub passing : shown (reply s (length c)) ≡ true → Steps s c' r.steps
  pub none : shown (reply s (length c)) ≡ false → r.steps ≡ 0
  pub behind : c' ≡ front (take (10 * r.steps) c') c
