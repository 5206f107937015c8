-- `showing::show_lift` meets its contract: nothing, or the way and the joining step, on either branch. Assumes nothing.
use Rattle.derivations.proofs.Lifting.{lifted-none, lifted-first, lifted-second}
use Rattle.derivations.proofs.showing.show_lift.Goals as goal
use Rattle.derivations.proofs.showing.show_lift.Goals.{then-l-2, else-l-2}

pub returns-then-l : goal.returns-then-l
returns-then-l c = lifted-none _ c.if-l.true

pub returns : goal.returns
returns c =
    elim c.if-l-2.branch [
      | then-l-2 w ↦
          lifted-first _ c.requires.1.left c.requires.1.right c.requires.4 c.if-l.false c.show_part-m.ensures w.if-l-2.true (rw w.first-is at c.put_step.ensures)
      | else-l-2 w ↦
          lifted-second _ c.requires.1.left c.requires.1.right c.requires.4 c.if-l.false c.show_part-m.ensures w.if-l-2.false (rw w.first-is at c.put_step.ensures)
    ]
