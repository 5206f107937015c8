-- The next part of a container, by the next set bit of its row. Assumes nothing.
use mathlib.Core.Path.{◌≡◌}
use mathlib.Core.Bool.{Bool, true, false, ◌&&◌, and-false}
use mathlib.Core.List.{List}
use Prim.Native.Nat.{ℕ, ◌-◌, ◌≤◌, ◌<◌}
use native.Mathlib.Omega.{arith}
use lib.Dec.{ltb}
use borrow.Author.Tests.{lt-ltb}
use Rattle.lists.specs.First.{first}
use Rattle.matrices.specs.Matrix.{bit_of}
use Rattle.lists.proofs.Searches.{sought-next}
use Rattle.index.specs.Matrix.{pair_of}

-- r is the first part of c from p on, or at least n where there is none
pub record Next (n : ℕ) (edge : ℕ → ℕ → Bool) (c p r : ℕ) : Type 0 where
  pub from : p ≤ r
  pub upto : r ≤ 2048
  pub before : (q : ℕ) → p ≤ q → q < r → edge q c ≡ false
  pub hit : r < n → edge r c ≡ true

pub next-part : (n : ℕ) (m : List ℕ) (c p r : ℕ) → c < n → n ≤ 2048 → p ≤ 2048 → r ≡ first (bit_of m c) p (2048 - p) → Next n (pair_of n m) c p r
unfolding pair_of
next-part n m c p r lc small h e =
    let S = sought-next (bit_of m c) p 2048 r h e in
    record {
      from = S.from;
      upto = S.upto;
      before = λ q a b. rw (S.before q a b) (and-false (ltb q n && ltb c n));
      hit = λ l. rw (lt-ltb r n l, lt-ltb c n lc) (S.hit (omega arith));
    }
