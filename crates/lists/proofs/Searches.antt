-- What a search says of where it ends. Assumes nothing.
use mathlib.Core.Path.{◌≡◌, ap, ◌∙◌, fun_ext}
use mathlib.Core.Bool.{Bool, true, false}
use Prim.Native.Nat.{ℕ, zero, suc, ◌+◌, ◌-◌, ◌<◌, ◌≤◌}
use native.Mathlib.Decide.{dec_lt}
use native.Mathlib.Omega.{arith}
use Rattle.lists.specs.First.{first}
use Rattle.lists.proofs.Bools.{Known, is_true, is_false, known}

-- r is where a search from p to e ends
pub record Sought (f : ℕ → Bool) (p e r : ℕ) : Type 0 where
  pub from : p ≤ r
  pub upto : r ≤ e
  pub before : (q : ℕ) → p ≤ q → q < r → f q ≡ false
  pub hit : r < e → f r ≡ true

pub sought : (f : ℕ → Bool) (p n : ℕ) → Sought f p (p + n) (first f p n)
unfolding first
sought f p zero = record { from = omega arith; upto = omega arith; before = λ q k l. absurd (omega arith); hit = λ k. absurd (omega arith) }
sought f p (suc n) = pick (known (f p)) (sought f (suc p) n)
  where
    pick : Known (f p) → Sought f (suc p) (suc p + n) (first f (suc p) n) → Sought f p (p + suc n) (first f p (suc n))
    pick (is_true h) S = rw (h, first) (record { from = omega arith; upto = omega arith; before = λ q k l. absurd (omega arith); hit = λ k. h })
    pick (is_false h) S =
        rw (h, first)
        (record {
          from = omega (arith, S.from);
          upto = omega (arith, S.upto);
          before = λ q k l. elim (dec_lt p q) [ yes y ↦ S.before q (omega arith) l | no y ↦ let e : q ≡ p = omega arith in ap f e ∙ h ];
          hit = λ k. S.hit (omega arith);
        })

-- the same, of a search of what is left below e
pub sought-next : (f : ℕ → Bool) (p e r : ℕ) → p ≤ e → r ≡ first f p (e - p) → Sought f p e r
sought-next f p e r h is =
    let k : p + (e - p) ≡ e = omega arith in
    rw is (rw k at (sought f p (e - p)))

-- two tests that agree end the search at one place
pub first-same : (f g : ℕ → Bool) → ((q : ℕ) → f q ≡ g q) → (p n : ℕ) → first f p n ≡ first g p n
first-same f g h p n = ap (λ (t : ℕ → Bool). first t p n) (fun_ext h)
