-- `replicates::last_window` meets its contract. Assumes nothing.
use mathlib.Core.Path.{◌≡◌}
use native.Mathlib.Omega.{arith}
use lib.ListN.{drop}
use Rattle.std.proofs.lemmas.Grind.{common_steps}
use Rattle.replicates.proofs.Sequences.{window-copied}
use Rattle.replicates.proofs.last_window.Goals as goal

pub returns : goal.returns
returns c =
    let z : c.copy_from_slice.new.self ≡ drop c.oldest_of-from.result c.args.xs.now = grind (arith, common_steps) in
    window-copied _ _ _ c.oldest_of-from.ensures z
