-- What stands in an area, and whether one of its pairs lies in two ranges. Assumes nothing.
use mathlib.Core.Path.{◌≡◌, refl, sym, ap, ap₂, ◌∙◌}
use mathlib.Core.Bool.{Bool, true, false, ◌&&◌, ◌||◌}
use mathlib.Core.List.{List, [], ◌∷◌, ◌++◌}
use mathlib.Core.Logic.{◌⊎◌, inl, inr}
use Prim.Native.Nat.{ℕ, zero, suc, ◌+◌, ◌-◌, ◌*◌, ◌/◌, ◌%◌, ◌≤◌, ◌<◌}
use native.Mathlib.Omega.{arith}
use lib.ListN.{length, get_or, drop, replicate, length-append, get_or-append}
use Rattle.lists.specs.Any.{any, any_below}
use Rattle.lists.proofs.Anys.{any-find, any-hit, below-find, below-hit}
use Rattle.lists.proofs.Bools.{or-either, left_or, right_or, and_both, both-and, same_truth}
use Rattle.lists.proofs.Members.{at-member, member-at}
use Rattle.lists.specs.Passing.{passing, each}
use Rattle.lists.specs.Front.{front}
use Rattle.areas.specs.Area.{cell, filled}
use Rattle.areas.specs.Between.{inside, between, RowsRise}
use Rattle.lists.proofs.Passed.{passing-rises}
use Rattle.areas.proofs.Lists.{twice}

-- the two numbers of pair i
abbrev pub Pair : List ℕ → ℕ → ℕ → Type 0
Pair area i j = (get_or area (2 * i) 0 ≡ j / 10240) × (get_or area (2 * i + 1) 0 ≡ j % 10240)

cells_at : (ks : List ℕ) (i : ℕ) → i < length ks → Pair (each cell ks) i (get_or ks i 0)
unfolding each
cells_at [] i l = absurd (omega arith)
cells_at (k ∷ ks) zero l = (refl, refl)
cells_at (k ∷ ks) (suc i) l =
    let a : 2 * suc i ≡ suc (suc (2 * i)) = omega arith in
    let b : 2 * suc i + 1 ≡ suc (suc (2 * i + 1)) = omega arith in
    let w = cells_at ks i (omega arith) in
    (ap (λ (x : ℕ). get_or (each cell (k ∷ ks)) x 0) a ∙ w.0, ap (λ (x : ℕ). get_or (each cell (k ∷ ks)) x 0) b ∙ w.1)

module _ (ks old : List ℕ) where
  area-long : 2 * length ks ≤ length (filled ks old)
  unfolding filled front
  area-long =
      let xs = each cell ks in
      let zs = replicate {A = ℕ} (16384 - 2 * length ks) 0 in
      omega (arith, length-append (xs ++ zs) (drop (length (xs ++ zs)) old), length-append xs zs, twice cell (λ k. refl) ks)

  start : (i : ℕ) → i < 2 * length ks → get_or (filled ks old) i 0 ≡ get_or (each cell ks) i 0
  unfolding filled front
  start i l =
      let xs = each cell ks in
      let zs = replicate {A = ℕ} (16384 - 2 * length ks) 0 in
      let n = twice cell (λ k. refl) ks in
      get_or-append (xs ++ zs) (drop (length (xs ++ zs)) old) 0 i (omega (arith, length-append xs zs)) ∙ get_or-append xs zs 0 i (omega arith)

  area-at : (i : ℕ) → i < length ks → Pair (filled ks old) i (get_or ks i 0)
  area-at i l = let w = cells_at ks i l in (start (2 * i) (omega arith) ∙ w.0, start (2 * i + 1) (omega arith) ∙ w.1)

-- in an area of kept pairs the rows do not fall
area-rises : (p : ℕ → Bool) (n : ℕ) (old : List ℕ) → RowsRise (filled (passing p n) old) (length (passing p n))
area-rises p n old =
    record {
      rise = λ i j l h.
          let a = area-at (passing p n) old i (omega arith) in
          let b = area-at (passing p n) old j h in
          omega (arith, passing-rises p n i j l h, a.0, b.0);
    }

-- some pair lies in the ranges, or in an unordered kind the other way round
module _ (area ks : List ℕ) (at : (i : ℕ) → i < length ks → Pair area i (get_or ks i 0)) (u : Bool) (rf rt cf ct : ℕ) where
  abbrev Lies : ℕ → Bool
  Lies i = inside rf rt cf ct (get_or area (2 * i) 0) (get_or area (2 * i + 1) 0)

  abbrev Turned : ℕ → Bool
  Turned i = inside cf ct rf rt (get_or area (2 * i) 0) (get_or area (2 * i + 1) 0)

  abbrev First : ℕ → Bool
  First j = inside rf rt cf ct (j / 10240) (j % 10240)

  abbrev Second : ℕ → Bool
  Second j = inside cf ct rf rt (j / 10240) (j % 10240)

  some-between : any (between u rf rt cf ct) ks ≡ (any_below Lies (length ks) || (u && any_below Turned (length ks)))
  unfolding between
  some-between = same_truth _ _ there back
    where
      there : any (between u rf rt cf ct) ks ≡ true → (any_below Lies (length ks) || (u && any_below Turned (length ks))) ≡ true
      there e =
          let w = any-find (between u rf rt cf ct) ks e in
          let v = member-at 0 w.1 in
          pick v.0 v.1 (or-either (First (get_or ks v.0 0)) (u && Second (get_or ks v.0 0)) (ap (between u rf rt cf ct) v.2 ∙ w.2))
        where
          pick :
              (i : ℕ) → i < length ks → (First (get_or ks i 0) ≡ true) ⊎ ((u && Second (get_or ks i 0)) ≡ true)
              → (any_below Lies (length ks) || (u && any_below Turned (length ks))) ≡ true
          pick i l (inl h) = left_or _ (below-hit Lies (length ks) i l (ap₂ (inside rf rt cf ct) (at i l).0 (at i l).1 ∙ h))
          pick i l (inr h) =
              let b = and_both u (Second (get_or ks i 0)) h in
              right_or (any_below Lies (length ks)) (both-and b.0 (below-hit Turned (length ks) i l (ap₂ (inside cf ct rf rt) (at i l).0 (at i l).1 ∙ b.1)))

      back : (any_below Lies (length ks) || (u && any_below Turned (length ks))) ≡ true → any (between u rf rt cf ct) ks ≡ true
      back e = pick (or-either (any_below Lies (length ks)) (u && any_below Turned (length ks)) e)
        where
          pick : (any_below Lies (length ks) ≡ true) ⊎ ((u && any_below Turned (length ks)) ≡ true) → any (between u rf rt cf ct) ks ≡ true
          pick (inl h) =
              let w = below-find Lies (length ks) h in
              any-hit (between u rf rt cf ct) (at-member ks 0 w.0 w.1) (left_or _ (sym (ap₂ (inside rf rt cf ct) (at w.0 w.1).0 (at w.0 w.1).1) ∙ w.2))
          pick (inr h) =
              let b = and_both u (any_below Turned (length ks)) h in
              let w = below-find Turned (length ks) b.1 in
              any-hit (between u rf rt cf ct) (at-member ks 0 w.0 w.1)
              (right_or (First (get_or ks w.0 0)) (both-and b.0 (sym (ap₂ (inside cf ct rf rt) (at w.0 w.1).0 (at w.0 w.1).1) ∙ w.2)))

-- of an area and a count as they were left
module _ (p : ℕ → Bool) (n : ℕ) (old area : List ℕ) (count : ℕ) (e : area ≡ filled (passing p n) old) (k : count ≡ length (passing p n)) where
  pub left-rises : RowsRise area count
  left-rises = rw (e, k) (area-rises p n old)

  pub left-long : 2 * count ≤ length area
  left-long = rw (e, k) (area-long (passing p n) old)

  pub left-between :
      (u : Bool) (rf rt cf ct : ℕ)
      → any (between u rf rt cf ct) (passing p n)
      ≡ (any_below (λ i. inside rf rt cf ct (get_or area (2 * i) 0) (get_or area (2 * i + 1) 0)) count || (u && any_below (λ i. inside cf ct rf rt (get_or area (2 * i) 0) (get_or area (2 * i + 1) 0)) count))
  left-between u rf rt cf ct = rw (e, k) (some-between (filled (passing p n) old) (passing p n) (area-at (passing p n) old) u rf rt cf ct)

-- the answer from its two halves
pub neither : {a u : Bool} (b : Bool) → a ≡ false → u ≡ false → (a || (u && b)) ≡ false
neither b p q = rw (p, q)

pub other : {a u b t : Bool} → a ≡ false → u ≡ true → t ≡ b → (a || (u && b)) ≡ t
other p q r = rw (p, q) (sym r)
