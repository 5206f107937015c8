-- A working book by its standing run alone: what an addition and a withdrawal come to, and that a state and an area hold a run. Assumes nothing.
use Rattle.outcomes.specs.Accepted.{Outcome, accepted_with}
use Rattle.std.specs.Prelude.{◌≡◌, ℕ, ◌+◌, ◌*◌, ◌≤◌, not, List, [], ◌++◌, eqb, leb, length, take, drop, Err, Ok}
use Rattle.records.specs.Record.{records}
use Rattle.records.specs.declared.Refusal.TheVariants.{BookLength, NotStanding}
use Rattle.working.specs.declared.keeping.Working.{Working}
use Rattle.outcomes.specs.Fresh.{fresh_call}
use Rattle.working.specs.Standing.{standing}
use Rattle.outcomes.specs.One.{refuse_if}

unfoldable pub add_to : List ℕ → List ℕ → Outcome
add_to s a = refuse_if (not (eqb (length a) 6)) BookLength (fresh_call (s ++ a) [])

unfoldable pub withdraw_from : List ℕ → ℕ → Outcome
withdraw_from s i = refuse_if (leb (records s) i) NotStanding (fresh_call (take (6 * i) s ++ drop (6 * i + 6) s) [])

-- the run after a call: the new one where it was accepted
unfoldable pub chosen : Outcome → List ℕ → List ℕ → List ℕ
chosen (Ok n) new old = new
chosen (Err r) new old = old

-- the run s stands in the area, a fresh call accepts it, and the counts kept are its own
pub record Stands (w : Working) (area s : List ℕ) : Type 0 where
  pub long : 49152 ≤ length area
  pub few : w.records ≤ 8192
  pub counted : length s ≡ 6 * w.records
  pub run_is : standing area w.records ≡ s
  pub nodes : ℕ
  pub shadows : ℕ
  pub pieces_are : fresh_call s [] ≡ accepted_with w.pieces nodes shadows
