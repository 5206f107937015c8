-- What C gets of a part of the measurement log, from what the call promises. Assumes nothing.
use Prim.Native.Nat.{ℕ}
use mathlib.Core.Path.{ap, ◌∙◌}
use mathlib.Core.List.{List}
use Rattle.outcomes.specs.Outcome.{number, place}
use Rattle.replicates.specs.Call.{handed_back, left, Determined}
use Rattle.replicates.specs.declared.Window.{Window}
use Rattle.replicates.specs.declared.Replicated.{Replicated}
use Rattle.piecebook.specs.OpenBook.{Replied}
use Rattle.piecebook.specs.Replicates.{Replicates}
use Rattle.piecebook.specs.declared.PiecebookWorkingResult.{PiecebookWorkingResult}

pub replicated :
    (s : List ℕ) (w : Window) (log out : List ℕ) (d : Replicated) (out' : List ℕ) (t : PiecebookWorkingResult) → Determined s w log out d out' → Replied d.outcome 0 t
    → Replicates s w log out (record { number = t.number; place = t.place; window = d.window }) out'
replicated s w log out d out' t D R =
    record {
      number_is = R.number_is ∙ ap number D.outcome-is;
      place_is = R.place_is ∙ ap place D.outcome-is;
      window-is = D.window-is ∙ ap (handed_back w log) D.outcome-is;
      left_is = D.bytes-are ∙ ap (left s w log out) D.outcome-is;
    }
