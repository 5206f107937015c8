-- Records of 6 bytes within 49,152: sums and bounds, stated apart so that a need that asks one reads no more than it hands over.
-- Assumes nothing.
use mathlib.Core.Path.{◌≡◌}
use mathlib.Core.List.{List}
use Prim.Native.Nat.{ℕ, ◌+◌, ◌-◌, ◌*◌, ◌≤◌, ◌<◌}
use native.Mathlib.Omega.{arith}
use lib.ListN.{length, take}
use lib.Seq.{length-take-le}
use mir.Syntax.{w64}
use mir.Val.{Fits}

pub fits-six : (k : ℕ) → k ≤ 8192 → Fits w64 (6 * k)
fits-six k h = omega arith

pub fits_next : (k : ℕ) → k < 8192 → Fits w64 (6 * k + 6)
fits_next k h = omega arith

pub at_most : (k : ℕ) → k < 8192 → k ≤ 8192
at_most k h = omega arith

pub before : (i k : ℕ) → i < k → k ≤ 8192 → i ≤ 8192
before i k h l = omega arith

pub within : (k n : ℕ) → k ≤ 8192 → 49152 ≤ n → 6 * k ≤ n
within k n h l = omega arith

pub next-within : (k n : ℕ) → k < 8192 → n ≡ 49152 → 6 * k + 6 ≤ n
next-within k n h e = omega arith

pub less-within : (k n : ℕ) → k ≤ 8192 → n ≡ 49152 → 6 * k - 6 ≤ n
less-within k n h e = omega arith

pub some-six : (i k : ℕ) → i < k → 6 ≤ 6 * k
some-six i k h = omega arith

pub six-behind : (i k : ℕ) → i < k → 6 * i + 6 ≤ 6 * k
six-behind i k h = omega arith

-- room for the records of an area and one more
pub room : (area addition : List ℕ) (k n : ℕ) → k < 8192 → 49152 ≤ length area → length addition ≡ 6 → n ≡ 49152 → length (take (6 * k) area) + length addition ≤ n
room area addition k n h l e f = omega (arith, length-take-le (6 * k) area (within k (length area) (at_most k h) l))
