-- `parentheses::enclose` meets its contract: `shut` is how many more zeros than ones stand from `p` to before `open`.
-- Assumes nothing.
use Prim.Native.Nat.{◌+◌, ◌≤◌}
use Rattle.parentheses.specs.Bits.{bits}
use Rattle.parentheses.proofs.Encloses.{Shut, Left}
use Rattle.parentheses.proofs.enclose.Given as goal

abbrev pub invariant-loop-p : goal.invariant-loop-p
invariant-loop-p l = (l.shut + l.p ≤ l.open) × Shut (bits l.bytes) l.open l.p l.shut × Left (bits l.bytes) l.open l.p
