-- `text::words::read_number` meets its contract: the digits passed are n's, and those left go on from it. Assumes nothing.
use Prim.Native.Nat.{◌≤◌}
use lib.ListN.{drop}
use Rattle.text.specs.Number.{number, number_from}
use mathlib.Core.Path.{◌≡◌}
use Rattle.text.proofs.words.read_number.Given as goal

abbrev pub invariant-loop-x : goal.invariant-loop-x
invariant-loop-x l = (l.n ≤ 65535) × (number l.w ≡ number_from l.n (drop l.x-index l.w))
