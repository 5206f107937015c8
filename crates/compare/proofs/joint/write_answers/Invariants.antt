-- `joint::write_answers` meets its contract. Assumes nothing.
use mathlib.Core.Path.{◌≡◌}
use lib.ListN.{get_or}
use Rattle.lists.specs.Front.{front}
use Rattle.compare.specs.Agreement.{threes}
use Rattle.compare.proofs.joint.write_answers.Given as goal

abbrev pub invariant-loop-i : goal.invariant-loop-i
invariant-loop-i l =
    (l.out ≡ front (threes (λ j. get_or l.ours j 0) (λ j. get_or l.theirs j 0) l.i) l.initial.out)
