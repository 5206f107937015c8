-- The record that is read from six bytes. Assumes nothing.
use Prim.Native.Nat.{ℕ, ◌+◌, ◌*◌}
use mathlib.Core.Path.{◌≡◌}
use mathlib.Core.List.{List}
use native.Mathlib.Omega.{arith}
use lib.ListN.{get_or}
use Rattle.records.specs.Record.{record_at}

pub read-record :
    (s : List ℕ) (i a b : ℕ) → a ≡ get_or s (6 * i + 2) 0 + 256 * get_or s (6 * i + 2 + 1) 0 → b ≡ get_or s (6 * i + 4) 0 + 256 * get_or s (6 * i + 4 + 1) 0
    → record { kind = get_or s (6 * i) 0; origin = get_or s (6 * i + 1) 0; a = a; b = b } ≡ record_at s i
unfolding record_at
read-record s i a b e f =
    let n : 6 * i + 2 + 1 ≡ 6 * i + 3 = omega arith in
    let m : 6 * i + 4 + 1 ≡ 6 * i + 5 = omega arith in
    rw (e, f, n, m)
