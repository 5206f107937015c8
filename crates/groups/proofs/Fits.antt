-- Sums and bounds of numbers below 2,048, stated apart so that a need that asks one reads no more than it hands over. Assumes nothing.
use mathlib.Core.Path.{◌≡◌}
use Prim.Native.Nat.{ℕ, suc, ◌-◌, ◌≤◌, ◌<◌}
use native.Mathlib.Omega.{arith}

pub below : (x n : ℕ) → x < n → n ≤ 2048 → x < 2048
below x n h l = omega arith

pub positive : (x y : ℕ) → x < y → 0 < y
positive x y h = omega arith

pub falls_below : (x y t : ℕ) → x < y → y ≡ t → x < t
falls_below x y t h e = omega arith

pub pred-is : (x : ℕ) → 0 < x → x ≡ suc (x - 1)
pred-is x h = omega arith

pub fit : (n k m : ℕ) → n ≤ 2048 → k ≡ m → m ≡ 2048 → n ≤ k
fit n k m h e f = omega arith
