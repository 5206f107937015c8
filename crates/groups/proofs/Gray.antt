-- The search for groups: a piece is gray while its edges are looked at, and no longer once all of them are. Assumes nothing.
use mathlib.Core.Path.{◌≡◌}
use mathlib.Core.Bool.{Bool, true, false, ◌||◌}
use Prim.Native.Nat.{ℕ, ◌<◌}
use native.Mathlib.Decide.{ℕ_discrete}
use borrow.Author.Tests.{ne_eqb}
use lib.Dec.{eqb}
use Rattle.groups.specs.Search as on
use Rattle.groups.specs.Search.{State}

-- the gray pieces with v
abbrev pub with : (ℕ → Bool) → ℕ → ℕ → Bool
with gray v x = gray x || eqb x v

both_false : (a b : Bool) → a ≡ false → b ≡ false → (a || b) ≡ false
both_false a b e f = rw (e, f)

module _ (n none : ℕ) (edge : ℕ → ℕ → Bool) (Way : ℕ → ℕ → Type 0) where
  abbrev Settled : State → ℕ → ℕ → Type 0
  Settled = on.Settled n none edge Way

  abbrev Good : State → (ℕ → Bool) → Type 0
  Good = on.Good n none edge Way

  pub black-good : (S : State) (gray : ℕ → Bool) (v : ℕ) → Good S (with gray v) → ((y : ℕ) → y < n → edge v y ≡ true → Settled S v y) → Good S gray
  black-good S gray v G all = record {
    seat = G.seat;
    active = G.active;
    spot = G.spot;
    ended = G.ended;
    steps = G.steps;
    climb = G.climb;
    base = G.base;
    forth = G.forth;
    back = G.back;
    one = G.one;
    settled = λ x a b c y d e. pick x a b c y d e (ℕ_discrete x v);
    full = G.full;
    room = G.room;
  }
    where
      pick : (x : ℕ) → x < n → S.pos x < none → gray x ≡ false → (y : ℕ) → y < n → edge x y ≡ true → Dec (x ≡ v) → Settled S x y
      pick x a b c y d e (yes q) = rw q (all y d (rw q at e))
      pick x a b c y d e (no q) = G.settled x a b (both_false (gray x) (eqb x v) c (ne_eqb x v q)) y d e
