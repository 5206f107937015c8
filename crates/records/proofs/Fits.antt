-- Sums and bounds of record numbers, stated apart so that a need that asks one reads no more than it hands over. Assumes nothing.
use mathlib.Core.Path.{◌≡◌}
use Prim.Native.Nat.{ℕ, ◌+◌, ◌*◌, ◌≤◌, ◌<◌}
use native.Mathlib.Omega.{arith}
use mir.Syntax.{w64}
use mir.Val.{Fits}

pub low : (n : ℕ) → 0 ≤ n
low n = omega arith

pub next : (i n : ℕ) → i < n → i + 1 ≤ n
next i n h = omega arith

pub later : (p i : ℕ) → p < i → p < i + 1
later p i h = omega arith

pub six-in : (i n l : ℕ) → i < n → 6 * n ≤ l → 6 * i + 6 ≤ l
six-in i n l h r = omega arith

pub below : (i n : ℕ) → i < n → n ≤ 8192 → i < 8192
below i n h l = omega arith

pub in-keys : (i n l m : ℕ) → i < n → n ≤ m → l ≡ m → i < l
in-keys i n l m h g e = omega arith

pub under-keys : (j i n l m : ℕ) → j < i → i < n → n ≤ m → l ≡ m → j < l
under-keys j i n l m k h g e = omega arith

pub under : (j i n : ℕ) → j < i → i < n → n ≤ 8192 → j < 8192
under j i n g h l = omega arith

pub fits-eight : (i : ℕ) → i < 8192 → Fits w64 (i * 8)
fits-eight i h = omega arith

pub fits_more : (i : ℕ) → i < 8192 → Fits w64 (i + 1)
fits_more i h = omega arith

pub fits-named : (r x : ℕ) → r ≡ x → x ≤ 2047 → Fits w64 (r + 1)
fits-named r x e h = omega arith
