-- `beside_pages::put_pairs` meets its contract. Assumes nothing.
use Rattle.pages.specs.Put.{Put}
use Rattle.beside_pages.specs.ComparisonText.{pair_lines}
use Rattle.beside_pages.proofs.comparison.put_pairs.Given as goal

abbrev pub invariant-loop-i : goal.invariant-loop-i
invariant-loop-i l = Put l.initial.page l.at (pair_lines l.claims l.bytes l.i) l.page l.end
