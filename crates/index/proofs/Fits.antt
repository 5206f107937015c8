-- Sums and bounds of small numbers, stated apart so that a need that asks one reads no more than it hands over. Assumes nothing.
use Prim.Native.Nat.{ℕ, ◌+◌, ◌*◌, ◌<◌}
use native.Mathlib.Omega.{arith}
use mir.Syntax.{w8, w64}
use mir.Val.{Fits}

pub fits_one : (x : ℕ) → x < 131072 → Fits w64 (x + 1)
fits_one x h = omega arith

pub fits-twice : (x : ℕ) → x < 131072 → Fits w64 (x * 2)
fits-twice x h = omega arith

pub low_small : (x : ℕ) → x < 2048 → x < 131072
low_small x h = omega arith

pub count_small : (x : ℕ) → x < 65536 → x < 131072
count_small x h = omega arith

pub byte : (x : ℕ) → Fits w8 x → x < 256
byte x h = omega arith
