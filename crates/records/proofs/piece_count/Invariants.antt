-- `records::piece_count` meets its contract: the loop keeps the count of the records passed. Assumes nothing.
use mathlib.Core.Path.{◌≡◌}
use Rattle.records.specs.Pieces.{pieces_up_to}
use Rattle.records.proofs.piece_count.Given as goal

abbrev pub invariant-loop-i : goal.invariant-loop-i
invariant-loop-i l = l.pieces ≡ pieces_up_to l.run l.i
