-- The order of the pieces, followers and then leaders: one piece more. Assumes nothing.
use mathlib.Core.Path.{◌≡◌, refl, sym, ap, ◌∙◌}
use mathlib.Core.Bool.{true, false}
use mathlib.Core.List.{List}
use Prim.Native.Nat.{ℕ, suc, ◌+◌, ◌-◌, ◌<◌, ◌≤◌}
use native.Mathlib.Numerals.{add-one}
use native.Mathlib.Decide.{ℕ_discrete}
use native.Mathlib.Omega.{arith}
use borrow.Author.Tests.{eq-eqb, ne_eqb}
use lib.ListN.{length, get_or, set}
use lib.Seq.{get_or-set_same, get_or-set_other}
use Rattle.lists.specs.Tally.{tally}
use Rattle.lists.proofs.Tallies.{tally-upto}
use Rattle.groups.specs.Ranks.{follower, Arrangeable}

module _ (n m : ℕ) (done lead : List ℕ) where
  pub leading : (g : ℕ) → get_or lead g 0 ≡ g → follower lead g ≡ false
  unfolding follower
  leading g e = rw (eq-eqb (get_or lead g 0) g e)

  pub following : (g : ℕ) → (get_or lead g 0 ≡ g → ⊥) → follower lead g ≡ true
  unfolding follower
  following g e = rw (ne_eqb (get_or lead g 0) g e)

  -- the pieces below g have their places, j followers among them
  pub record Arranging (order : List ℕ) (j g : ℕ) : Type 0 where
    pub counted : j ≡ tally (follower lead) g
    pub followers : (h : ℕ) → h < g → (get_or lead h 0 ≡ h → ⊥) → get_or order (tally (follower lead) h) 0 ≡ h
    pub leaders : (h : ℕ) → h < g → get_or lead h 0 ≡ h → get_or order (n - m + get_or done h 0) 0 ≡ h

  pub arrange-none : (order : List ℕ) → Arranging order 0 0
  unfolding tally
  arrange-none order = record { counted = refl; followers = λ h l. absurd (omega arith); leaders = λ h l. absurd (omega arith) }

  module _ (room : ℕ) (A : Arrangeable n m done lead room) where
    -- a follower's place is before those of the leaders
    pub follower-place : (h : ℕ) → h < n → (get_or lead h 0 ≡ h → ⊥) → tally (follower lead) h < n - m
    follower-place h l e = omega (arith, A.counted, tally-upto (follower lead) h h n (omega arith) l (following h e))

    pub leader-place : (h : ℕ) → h < n → get_or lead h 0 ≡ h → n - m + get_or done h 0 < n
    leader-place h l e = omega (arith, A.counted, A.small h l e)

    module _ (order : List ℕ) (j g : ℕ) (S : Arranging order j g) (l : g < n) (big : n ≤ length order) where
      pub arrange-leader : get_or lead g 0 ≡ g → Arranging (set order (n - m + get_or done g 0) g) j (g + 1)
      arrange-leader e = record {
        counted = count (add-one g);
        followers = λ h a f. let k = before h a (λ q. f (ap (λ (x : ℕ). get_or lead x 0) q ∙ e ∙ sym q)) in
            get_or-set_other order (n - m + get_or done g 0) (tally (follower lead) h) g 0 (λ q. omega (arith, follower-place h (omega arith) f)) ∙ S.followers h k f;
        leaders = λ h a f. at h a f (ℕ_discrete h g);
      }
        where
          before : (h : ℕ) → h < g + 1 → (h ≡ g → ⊥) → h < g
          before h a ne = omega arith

          count : g + 1 ≡ suc g → j ≡ tally (follower lead) (g + 1)
          count q = unfold tally in rw (q, leading g e) (omega (arith, S.counted))

          at : (h : ℕ) → h < g + 1 → get_or lead h 0 ≡ h → Dec (h ≡ g) → get_or (set order (n - m + get_or done g 0) g) (n - m + get_or done h 0) 0 ≡ h
          at h a f (yes q) = rw q (get_or-set_same order (n - m + get_or done g 0) g 0 (omega (arith, leader-place g l e)))
          at h a f (no q) =
              get_or-set_other order (n - m + get_or done g 0) (n - m + get_or done h 0) g 0 (λ z. q (A.one h g (omega arith) l f e (omega arith))) ∙ S.leaders h (before h a q) f

      pub arrange-follower : (get_or lead g 0 ≡ g → ⊥) → Arranging (set order j g) (j + 1) (g + 1)
      arrange-follower e = record {
        counted = count (add-one g);
        followers = λ h a f. at h a f (ℕ_discrete h g);
        leaders = λ h a f. let k : h < g = before h a (λ q. e (ap (λ (x : ℕ). get_or lead x 0) (sym q) ∙ f ∙ q)) in
            get_or-set_other order j (n - m + get_or done h 0) g 0 (λ q. omega (arith, follower-place g l e, S.counted)) ∙ S.leaders h k f;
      }
        where
          before : (h : ℕ) → h < g + 1 → (h ≡ g → ⊥) → h < g
          before h a ne = omega arith

          count : g + 1 ≡ suc g → j + 1 ≡ tally (follower lead) (g + 1)
          count q = unfold tally in rw (q, following g e) (omega (arith, S.counted))

          at : (h : ℕ) → h < g + 1 → (get_or lead h 0 ≡ h → ⊥) → Dec (h ≡ g) → get_or (set order j g) (tally (follower lead) h) 0 ≡ h
          at h a f (yes q) = rw (q, sym S.counted) (get_or-set_same order j g 0 (omega (arith, follower-place g l e, S.counted)))
          at h a f (no q) =
              let k = before h a q in
              get_or-set_other order j (tally (follower lead) h) g 0 (λ z. omega (arith, S.counted, tally-upto (follower lead) h h g (omega arith) k (following h f))) ∙ S.followers h k f
