-- `pages::put` meets its contract: the loop keeps that the bytes passed are put. Assumes nothing.
use lib.ListN.{take}
use Rattle.pages.specs.Put.{Put}
use Rattle.pages.proofs.put.Given as goal

abbrev pub invariant-loop-byte : goal.invariant-loop-byte
invariant-loop-byte l = Put l.initial.page l.at (take l.byte-index l.text) l.page l.end
