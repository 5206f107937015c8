-- `reading::read_steps` meets its contract. Assumes nothing.
use Prim.Native.Nat.{◌-◌, ◌*◌, ◌≤◌}
use mathlib.Core.Path.{◌≡◌}
use mathlib.Core.List.{◌++◌}
use lib.ListN.{length, take, drop}
use Rattle.chain_pages.specs.Read.{steps_in}
use Rattle.chain_pages.proofs.reading.read_steps.Given as goal

abbrev pub invariant-loop-n : goal.invariant-loop-n
invariant-loop-n l = record {
  inside : l.at ≤ length l.s;
  kept : length l.c ≡ length l.initial.c;
  so_far : take (10 * l.n) l.c ++ steps_in (16400 - l.n) (drop l.at l.s) ≡ steps_in 16400 (drop l.at-2 l.s);
}
