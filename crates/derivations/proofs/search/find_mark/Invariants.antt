use Prim.Native.Nat.{ℕ, ◌<◌}
use mathlib.Core.Path.{◌≡◌}
use mathlib.Core.Bool.{false}
use Rattle.records.specs.Record.{record_at}
use Rattle.records.specs.Marked.{marks}
use Rattle.derivations.proofs.search.find_mark.Given as goal

abbrev pub invariant-loop-i : goal.invariant-loop-i
invariant-loop-i l = (j : ℕ) → j < l.i → marks l.g (record_at l.book j) ≡ false
