-- Bounds of indices, stated apart so that a need that asks one reads no more than it hands over. Assumes nothing.
use Prim.Native.Nat.{ℕ, ◌+◌, ◌-◌, ◌≤◌, ◌<◌}
use native.Mathlib.Omega.{arith}

pub upto : (x y z : ℕ) → x ≤ y → y ≤ z → x ≤ z
upto x y z a b = omega arith

pub inside : (x y z : ℕ) → x < y → y ≤ z → x < z
inside x y z a b = omega arith

pub next-in : (x y z : ℕ) → x < y → y ≤ z → x + 1 ≤ z
next-in x y z a b = omega arith

pub closer : (i n : ℕ) → i < n → n - (i + 1) < n - i
closer i n h = omega arith

pub nearer : (p r n : ℕ) → p < n → p + 1 ≤ r → n - r < n - p
nearer p r n h l = omega arith
