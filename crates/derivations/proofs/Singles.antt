-- Steps that need no earlier one. Assumes nothing.
use Prim.Native.Nat.{ℕ, ◌≤◌, ◌<◌}
use mathlib.Core.Path.{◌≡◌, refl, sym, ◌∙◌}
use mathlib.Core.Bool.{true}
use mathlib.Core.List.{List}
use native.Mathlib.Omega.{arith}
use lib.ListN.{get_or}
use Rattle.chain_format.specs.Step.{showing}
use Rattle.chain_format.specs.Citing.{Cited, none}
use Rattle.chain_format.specs.Justified.{cites}
use Rattle.chain_format.proofs.Stepping.{by-f}
use Rattle.derivations.proofs.Hopping.{justify}
use Rattle.derivations.proofs.Carries.{saying, as_said, stored-grounded}
use Rattle.derivations.specs.Found.{Singly}

module _ {n : ℕ} {es : List Cited} {k a b : ℕ} (small : n ≤ 2048) (la : a < n) (lb : b < n) where
  -- by rule (f)
  pub single-top : showing (saying 4 k a b 0) 1 a 0 ≡ true → Singly n es k a b (saying 4 k a b 0)
  single-top q =
      record {
        grounded =
            record {
              holds = λ j x y. justify n es j (saying 4 k a b 0) x y la lb (sym (by-f es j (saying 4 k a b 0) x y 4 refl) ∙ q);
              left = omega arith;
              right = omega arith;
              first = omega arith;
              second = omega arith;
            };
        shown = as_said 4 k a b 0;
      }

  -- by a record
  pub single-cited : (i : ℕ) → i < 65536 → cites (get_or es i none) (saying 0 k a b i) ≡ true → Singly n es k a b (saying 0 k a b i)
  single-cited i l q = record { grounded = stored-grounded n es small k a b i la lb l q; shown = as_said 0 k a b i }
