-- A run at the front of what holds a book. Assumes nothing.
use mathlib.Core.Path.{◌≡◌, ap, ◌∙◌}
use mathlib.Core.List.{List}
use Prim.Native.Nat.{ℕ, ◌≤◌}
use native.Mathlib.Omega.{arith}
use lib.ListN.{length, take, drop, length-append, length-drop}
use lib.Seq.{take_at, length-take-le}
use Rattle.lists.specs.Front.{front}
use Rattle.working.specs.Standing.{Stands}

-- written over what was there
pub stands : (run was held : List ℕ) (end : ℕ) → held ≡ front run was → length run ≡ end → end ≤ 49152 → length was ≡ 49152 → Stands run held end
unfolding front
stands run was held end e l s w =
    let long : length held ≡ length was = omega (arith, ap length e, length-append run (drop (length run) was), length-drop (length run) was) in
    record { is = ap (take end) e ∙ take_at run (drop (length run) was) end l; within = omega arith; short = s }

pub stands-short : {run held : List ℕ} {end : ℕ} → Stands run held end → length (take end held) ≤ 49152
stands-short {run} {held} {end} S = let e = length-take-le end held S.within in let s = S.short in omega arith
