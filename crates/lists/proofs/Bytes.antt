-- Numbers made of bytes, high byte first: after n bytes below 256 ^ n, so that what the width holds is seen by computation. Assumes nothing.
use mathlib.Core.Path.{◌≡◌, ap, ◌∙◌}
use Prim.Native.Nat.{ℕ, ◌+◌, ◌*◌, ◌^◌, ◌≤◌, ◌<◌}
use native.Mathlib.Nat.{lt_of_lt_of_le}
use native.Mathlib.Omega.{arith}
use lib.Dec.{T, leb, lit≤}
use mir.Syntax.{w64}
use mir.Val.{Fits}

-- byte k of the m from i on, as a number and in the bytes
pub index : (m i k : ℕ) → i + m < 2 ^ 64 → T (leb k m) → Fits w64 (i + k)
index m i k h t = record { fits = before m i k h (lit≤ t) }
  where
    before : (m i k : ℕ) → i + m < 2 ^ 64 → k ≤ m → i + k < 2 ^ 64
    before m i k h g = omega arith

pub inside : (m i k n : ℕ) → i + m ≤ n → T (leb (k + 1) m) → i + k < n
inside m i k n h t = before m i k n h (lit≤ t)
  where
    before : (m i k n : ℕ) → i + m ≤ n → k + 1 ≤ m → i + k < n
    before m i k n h g = omega arith

-- a byte more below
pub more : (h b p : ℕ) → h < p → b < 256 → h * 256 + b < p * 256
more h b p g f = omega arith

-- the number, and the room for a byte more, below a power that the width holds
pub room : (h p : ℕ) → h < p → T (leb (p * 256) (2 ^ 64)) → Fits w64 (h * 256)
room h p g t = record { fits = before h p g (lit≤ t) }
  where
    before : (h p : ℕ) → h < p → p * 256 ≤ 2 ^ 64 → h * 256 < 2 ^ 64
    before h p g f = omega arith

pub fits : (h p : ℕ) → h < p → T (leb p (2 ^ 64)) → Fits w64 h
fits h p g t = record { fits = lt_of_lt_of_le g (lit≤ t) }

pub same : {h k b a : ℕ} → h ≡ k → b ≡ a → h * 256 + b ≡ k * 256 + a
same {h} {k} {b} {a} e f = ap (λ (x : ℕ). x * 256 + b) e ∙ ap (λ (x : ℕ). k * 256 + x) f
