-- The filter of keys met: a bit that is marked is set, the others stay, and a key with a clear bit is equal to no earlier one. Assumes nothing.
use Prim.Native.Nat.{ℕ, max, ◌+◌, ◌*◌, ◌/◌, ◌%◌, ◌^◌, ◌≤◌, ◌<◌}
use mathlib.Core.Path.{◌≡◌, sym, ap, subst, ◌∙◌}
use mathlib.Core.Bool.{Bool, true, false, true≢false}
use mathlib.Core.List.{List}
use native.Mathlib.Decide.{ℕ_discrete}
use native.Mathlib.Omega.{arith}
use borrow.Author.Tests.{eqb-true, eq-eqb}
use borrow.Author.Count.{below_more}
use lib.Bits.{bit_and, bit_or, or_shr, or_step, and_mask}
use lib.Dec.{eqb, lit<}
use lib.ListN.{length, get_or, set}
use lib.Pow.{shl-shr, shl_exact}
use lib.Seq.{get_or-set_same, get_or-set_other}
use Rattle.lists.proofs.Bools.{and_both, both-and}
use Rattle.records.specs.Key.{key_at, slot_of, other_slot}
use Rattle.records.specs.Met.{met, Marked, noted, Noted, start}

-- the machine's `1 << k` at 64 bits, and its `x >> k & 1 == 1`
pub one_shl : (k : ℕ) → k < 64 → (1 * 2 ^ k) % 2 ^ 64 ≡ 1 * 2 ^ k
one_shl k h = shl_exact 1 k 64 (lit< tt) (omega arith)

pub read-bit : (m : List ℕ) (k : ℕ) → eqb (bit_and (get_or m (k / 64) 0 / 2 ^ (k % 64)) 1) 1 ≡ met m k
unfolding met
read-bit m k = ap (λ (y : ℕ). eqb y 1) (and_mask (get_or m (k / 64) 0 / 2 ^ (k % 64)) 1)

or-digit : (a b k : ℕ) → bit_or a b / 2 ^ k % 2 ≡ max (a / 2 ^ k % 2) (b / 2 ^ k % 2)
or-digit a b k = ap (λ (x : ℕ). x % 2) (or_shr a b k) ∙ (omega (arith, or_step (a / 2 ^ k) (b / 2 ^ k)))

one-digit : (k : ℕ) → 1 * 2 ^ k / 2 ^ k % 2 ≡ 1
one-digit k = ap (λ (x : ℕ). x % 2) (shl-shr 1 k)

pub marked : (m : List ℕ) (k : ℕ) → k / 64 < length m → Marked m (set m (k / 64) (bit_or (get_or m (k / 64) 0) (1 * 2 ^ (k % 64)))) k
unfolding met
marked m k h =
    record {
      hit = eq-eqb _ 1 (at (k % 64) ∙ (omega (arith, one-digit (k % 64))));
      kept = λ j e. eq-eqb _ 1 (keeps j (eqb-true _ 1 e) (ℕ_discrete (j / 64) (k / 64)));
    }
  where
    x : ℕ
    x = get_or m (k / 64) 0

    m' : List ℕ
    m' = set m (k / 64) (bit_or x (1 * 2 ^ (k % 64)))

    at : (d : ℕ) → get_or m' (k / 64) 0 / 2 ^ d % 2 ≡ max (x / 2 ^ d % 2) (1 * 2 ^ (k % 64) / 2 ^ d % 2)
    at d = ap (λ (y : ℕ). y / 2 ^ d % 2) (get_or-set_same m (k / 64) _ 0 h) ∙ or-digit x (1 * 2 ^ (k % 64)) d

    keeps : (j : ℕ) → get_or m (j / 64) 0 / 2 ^ (j % 64) % 2 ≡ 1 → Dec (j / 64 ≡ k / 64) → get_or m' (j / 64) 0 / 2 ^ (j % 64) % 2 ≡ 1
    keeps j e (yes s) =
        let e' = subst (λ (w : ℕ). get_or m w 0 / 2 ^ (j % 64) % 2 ≡ 1) s e in
        subst (λ (w : ℕ). get_or m' w 0 / 2 ^ (j % 64) % 2 ≡ 1) (sym s) (at (j % 64) ∙ (omega (arith, e')))
    keeps j e (no s) = ap (λ (y : ℕ). y / 2 ^ (j % 64) % 2) (get_or-set_other m (k / 64) (j / 64) _ 0 s) ∙ e

-- both bits of a key are marked
module _
    (mask : ℕ) (m m₁ m₂ : List ℕ) (key : ℕ) {k j : ℕ} (e : k ≡ slot_of key) (f : j ≡ other_slot key) (K : Marked m m₁ (bit_and k mask)) (J : Marked m₁ m₂ (bit_and j mask)) where
  M : Marked m m₁ (bit_and (slot_of key) mask)
  M = subst (λ (x : ℕ). Marked m m₁ (bit_and x mask)) e K

  O : Marked m₁ m₂ (bit_and (other_slot key) mask)
  O = subst (λ (x : ℕ). Marked m₁ m₂ (bit_and x mask)) f J

  kept-both : (x : ℕ) → noted mask m x ≡ true → noted mask m₂ x ≡ true
  unfolding noted
  kept-both x h = let b = and_both (met m (bit_and (slot_of x) mask)) _ h in both-and (O.kept _ (M.kept _ b.0)) (O.kept _ (M.kept _ b.1))

  hit-both : noted mask m₂ key ≡ true
  unfolding noted
  hit-both = both-and (O.kept _ M.hit) O.hit

  pub noted-second : (t : Bool) → t ≡ met m₁ (bit_and j mask) → Noted mask m m₂ key t
  unfolding noted
  noted-second t q =
      record {
        hit = hit-both;
        kept = kept-both;
        told = λ h. q ∙ ap (λ (x : ℕ). met m₁ (bit_and x mask)) f ∙ M.kept _ (and_both (met m (bit_and (slot_of key) mask)) _ h).1;
      }

  pub noted-new : (t : Bool) → t ≡ met m (bit_and k mask) → t ≡ false → Noted mask m m₂ key false
  unfolding noted
  noted-new t q clear =
      record {
        hit = hit-both;
        kept = kept-both;
        told = λ h. sym clear ∙ q ∙ ap (λ (x : ℕ). met m (bit_and x mask)) e ∙ (and_both (met m (bit_and (slot_of key) mask)) _ h).0;
      }

-- each of the first i keys is noted
abbrev pub AllMet : ℕ → List ℕ → List ℕ → ℕ → Type 0
AllMet mask s m i = (p : ℕ) → p < i → noted mask m (key_at s (6 * p)) ≡ true

-- one key more
pub met-more :
    (mask : ℕ) (s m m' : List ℕ) (i key : ℕ) (t : Bool) → key ≡ key_at s (6 * i) → Noted mask m m' key t → AllMet mask s m i → AllMet mask s m' (i + 1)
met-more mask s m m' i key t e M before =
    below_more (λ p. noted mask m' (key_at s (6 * p)) ≡ true) i (λ p l. M.kept _ (before p l)) (subst (λ (x : ℕ). noted mask m' x ≡ true) e M.hit)

-- where the key was new, no earlier key is equal; else the search begins at the first
pub spared :
    (mask : ℕ) (s K m m' : List ℕ) (i key r : ℕ) (t : Bool) → Noted mask m m' key t → r ≡ start t i → AllMet mask s m i
    → ((p : ℕ) → p < i → get_or K p 0 ≡ key_at s (6 * p)) → (r ≤ i) × ((q : ℕ) → q < r → get_or K q 0 ≡ key → ⊥)
spared mask s K m m' i key r true M d all keyed = (omega arith, λ q h. absurd (omega arith))
spared mask s K m m' i key r false M d all keyed =
    (omega arith, λ q h g. true≢false (sym (M.told (subst (λ (x : ℕ). noted mask m x ≡ true) (sym (keyed q (omega arith)) ∙ g) (all q (omega arith))))))
