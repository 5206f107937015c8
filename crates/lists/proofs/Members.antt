-- A list's members by their places. Assumes nothing.
use Prim.Native.Nat.{ℕ, zero, suc, ◌<◌}
use mathlib.Core.Path.{◌≡◌, refl, sym}
use mathlib.Core.List.{List, [], ◌∷◌, Memᴰ}
use native.Mathlib.Omega.{arith}
use lib.ListN.{length, get_or}

pub at-member : {A : Type 0} (l : List A) (d : A) (s : ℕ) → s < length l → Memᴰ (get_or l s d) l
at-member [] d s h = absurd (omega arith)
at-member (x ∷ xs) d zero h = Memᴰ.head refl
at-member (x ∷ xs) d (suc s) h = Memᴰ.tail (at-member xs d s (omega arith))

pub member-at : {A : Type 0} {x : A} {l : List A} (d : A) → Memᴰ x l → (s : ℕ) × (s < length l) × (get_or l s d ≡ x)
member-at d (Memᴰ.head {xs = xs} q) = (0, omega arith, sym q)
member-at d (Memᴰ.tail m) = let r = member-at d m in (suc r.0, omega arith, r.2)
