use Prim.Native.Nat.{ℕ, ◌<◌}
use mathlib.Core.Path.{◌≡◌}
use mathlib.Core.Bool.{false}
use Rattle.records.specs.Record.{record_at}
use Rattle.derivations.specs.Aim.{serving}
use Rattle.derivations.proofs.search.find_record.Given as goal

abbrev pub invariant-loop-i : goal.invariant-loop-i
invariant-loop-i l = (j : ℕ) → j < l.i → serving l.aim l.claim l.d l.t l.a l.b (record_at l.book j) ≡ false
