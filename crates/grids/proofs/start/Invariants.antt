use Rattle.rules.specs.Fact.{PART, APART, MEETS}
use Rattle.grids.proofs.Starts.{Made}
use Rattle.grids.proofs.start.Given as goal

abbrev pub invariant-loop-a : goal.invariant-loop-a
invariant-loop-a l =
    Made l.marks l.n PART l.part l.a × Made l.marks l.n APART l.apart l.a × Made l.marks l.n MEETS l.meets l.a
