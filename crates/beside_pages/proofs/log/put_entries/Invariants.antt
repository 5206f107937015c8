-- `beside_pages::put_entries` meets its contract. Assumes nothing.
use Rattle.pages.specs.Put.{Put}
use Rattle.beside_pages.specs.LogText.{entry_lines}
use Rattle.beside_pages.proofs.log.put_entries.Given as goal

abbrev pub invariant-loop-i : goal.invariant-loop-i
invariant-loop-i l = Put l.initial.page 0 (entry_lines l.log l.bytes l.i) l.page l.end
