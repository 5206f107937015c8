-- `verdicts::clashes` meets its contract: the invariant is that no record passed is contradicted. Assumes nothing.
use mathlib.Core.Path.{◌≡◌}
use mathlib.Core.Bool.{false}
use Rattle.lists.specs.Any.{any_below}
use Rattle.records.specs.Record.{record_at}
use Rattle.closure.specs.Void.{void_of}
use Rattle.verdicts.specs.Opposed.{opposed}
use Rattle.verdicts.proofs.clashes.Given as goal

abbrev pub invariant-loop-i : goal.invariant-loop-i
invariant-loop-i l =
    (any_below (λ j. opposed (void_of l.voids) l.d l.t (record_at l.run j)) l.i ≡ false)
