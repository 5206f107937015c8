-- Rows put into their leaders' and back, one row at a time. Assumes nothing.
use mathlib.Core.Path.{◌≡◌, refl, sym, ap, ◌∙◌}
use mathlib.Core.List.{List}
use mathlib.Core.Bool.{Bool, true, false, ◌||◌, ◌&&◌, or-false, or_assoc, or_comm}
use Prim.Native.Nat.{ℕ, ◌+◌, ◌<◌, ◌≤◌}
use native.Mathlib.Numerals.{add-one}
use native.Mathlib.Decide.{ℕ_discrete, dec_lt}
use native.Mathlib.Omega.{arith}
use lib.Dec.{eqb}
use lib.ListN.{get_or}
use borrow.Author.Tests.{eqb-true, eq-eqb, ne_eqb}
use Rattle.lists.specs.Any.{any_below}
use Rattle.lists.proofs.Bools.{and_both, not-true}
use Rattle.lists.proofs.Anys.{below-find}
use Rattle.matrices.specs.Matrix.{bit_of, United}
use Rattle.matrices.specs.Led.{Led, Pooled, Shared}

twice : (a : Bool) → (a || a) ≡ a
twice true = refl
twice false = refl

-- a row that follows leads none
pub leads-none : (n : ℕ) (lead : List ℕ) (i g : ℕ) → Led n lead → (get_or lead i 0 ≡ i → ⊥) → g < n → get_or lead g 0 ≡ i → ⊥
leads-none n lead i g L ne l q = ne (ap (λ (k : ℕ). get_or lead k 0) (sym q) ∙ L.own g l ∙ q)

pub pool-none : (lead m : List ℕ) → Pooled 0 lead m m
unfolding any_below
pool-none lead m = record { bits = λ h y a b. sym (or-false (bit_of m h y)) }

module _ (lead m m' : List ℕ) (i : ℕ) (P : Pooled i lead m m') where
  -- what the rows below k bring to bit y of row h
  abbrev brought : ℕ → ℕ → ℕ → Bool
  brought h y k = any_below (λ g. eqb (get_or lead g 0) h && bit_of m g y) k

  brought-more : (h y : ℕ) → brought h y (i + 1) ≡ ((eqb (get_or lead i 0) h && bit_of m i y) || brought h y i)
  unfolding any_below
  brought-more h y = ap (brought h y) (add-one i)

  -- row i brings nothing new to row h
  same : (h y : ℕ) → h < 2048 → y < 2048 → (bit_of m h y || (eqb (get_or lead i 0) h && bit_of m i y)) ≡ bit_of m h y → bit_of m' h y ≡ (bit_of m h y || brought h y (i + 1))
  same h y a b e =
      P.bits h y a b ∙ ap (λ (t : Bool). t || brought h y i) (sym e) ∙ or_assoc (bit_of m h y) (eqb (get_or lead i 0) h && bit_of m i y) (brought h y i)
      ∙ ap (λ (t : Bool). bit_of m h y || t) (sym (brought-more h y))

  pub pool-skip : get_or lead i 0 ≡ i → Pooled (i + 1) lead m m'
  pool-skip q = record { bits = λ h y a b. same h y a b (pick h y (ℕ_discrete h i)) }
    where
      pick : (h y : ℕ) → Dec (h ≡ i) → (bit_of m h y || (eqb (get_or lead i 0) h && bit_of m i y)) ≡ bit_of m h y
      pick h y (yes e) = rw e (ap (λ (t : Bool). bit_of m i y || (t && bit_of m i y)) (eq-eqb (get_or lead i 0) i q) ∙ twice (bit_of m i y))
      pick h y (no e) = ap (λ (t : Bool). bit_of m h y || (t && bit_of m i y)) (ne_eqb (get_or lead i 0) h (λ z. e (sym z ∙ q))) ∙ or-false (bit_of m h y)

  module _ (n h : ℕ) (m'' : List ℕ) (L : Led n lead) (small : n ≤ 2048) (l : i < n) (eh : h ≡ get_or lead i 0) (ne : h ≡ i → ⊥) (U : United m' m'' h m' i) where
    -- row i follows, so it still is as at the start
    still : (y : ℕ) → y < 2048 → bit_of m' i y ≡ bit_of m i y
    still y b =
        P.bits i y (omega arith) b
        ∙ ap (λ (t : Bool). bit_of m i y || t)
        (not-true (brought i y i)
        (λ t.
        let f = below-find (λ g. eqb (get_or lead g 0) i && bit_of m g y) i t in
        leads-none n lead i f.0 L (λ q. ne (eh ∙ q)) (omega (arith, f.1)) (eqb-true (get_or lead f.0 0) i (and_both _ _ f.2).0)))
        ∙ or-false (bit_of m i y)

    pub pool-more : Pooled (i + 1) lead m m''
    pool-more = record { bits = λ k y a b. pick k y a b (ℕ_discrete k h) }
      where
        pick : (k y : ℕ) → k < 2048 → y < 2048 → Dec (k ≡ h) → bit_of m'' k y ≡ (bit_of m k y || brought k y (i + 1))
        pick k y a b (yes e) =
            rw e
            (U.row y b ∙ ap (λ (t : Bool). bit_of m' h y || t) (still y b) ∙ ap (λ (t : Bool). t || bit_of m i y) (P.bits h y (omega (arith, e)) b)
            ∙ or_assoc (bit_of m h y) (brought h y i) (bit_of m i y)
            ∙ ap (λ (t : Bool). bit_of m h y || t)
            (or_comm (brought h y i) (bit_of m i y) ∙ sym (brought-more h y ∙ ap (λ (t : Bool). (t && bit_of m i y) || brought h y i) (eq-eqb (get_or lead i 0) h (sym eh)))))
        pick k y a b (no e) =
            U.other k y b e
            ∙ same k y a b (ap (λ (t : Bool). bit_of m k y || (t && bit_of m i y)) (ne_eqb (get_or lead i 0) k (λ z. e (sym z ∙ sym eh))) ∙ or-false (bit_of m k y))

-- ---- and back
module _ (lead m m' : List ℕ) (i : ℕ) (S : Shared i lead m m') where
  module _ (n h : ℕ) (m'' : List ℕ) (L : Led n lead) (small : n ≤ 2048) (l : i < n) (eh : h ≡ get_or lead i 0) (U : United m' m'' i m' h) where
    -- a leader's row still is as at the start
    unchanged : (y : ℕ) → y < 2048 → bit_of m' h y ≡ bit_of m h y
    unchanged y b = pick (dec_lt h i)
      where
        own : get_or lead h 0 ≡ h
        own = ap (λ (k : ℕ). get_or lead k 0) eh ∙ L.own i l ∙ sym eh

        pick : Dec (h < i) → bit_of m' h y ≡ bit_of m h y
        pick (yes a) = S.row h y a b ∙ ap (λ (k : ℕ). bit_of m h y || bit_of m k y) own ∙ twice (bit_of m h y)
        pick (no a) = S.other h y (omega arith) (omega (arith, L.below i l)) b
