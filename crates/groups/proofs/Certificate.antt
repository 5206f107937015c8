-- What an algorithm must show: a number for each piece, such that pieces of one number contain each other, and no step up leads to a lower
-- number. Then its classes are the groups, and a part's number is lower than its container's. Assumes nothing.
use mathlib.Core.Path.{◌≡◌, sym, ap, ◌∙◌}
use mathlib.Core.Logic.{◌⊎◌, inl, inr, ◌↔◌}
use mathlib.Core.Bool.{Bool, true, ◌&&◌, ◌||◌}
use Prim.Native.Nat.{ℕ, ◌<◌, ◌≤◌}
use native.Mathlib.Decide.{ℕ_discrete}
use native.Mathlib.Omega.{arith}
use Rattle.index.specs.Pairs.{Within, self, step}
use Rattle.lists.specs.Tally.{tally}
use Rattle.groups.specs.Groups.{lies, same, lowest, first_of, number, groups}
use Rattle.groups.specs.Grouped.{Edged}
use Rattle.lists.proofs.Bools.{and_both, both-and, or-either, left_or, right_or}
use Rattle.groups.specs.Ranks.{lowest_by, first_by, number_by}
use lib.Dec.{eqb, ltb}
use borrow.Author.Tests.{eq-eqb, ne_eqb, ltb-true, lt-ltb}
use Rattle.lists.proofs.Firsts.{first-is}
use Rattle.lists.proofs.Tallies.{tally-mono}
use mathlib.Core.List.{List}
use Rattle.matrices.specs.Matrix.{bit_of}
use Rattle.groups.specs.Search.{part_of, WayOf, Searched}
use Rattle.groups.proofs.Lying.{Pairs, leads, leads-in, leads-split, lies_within, within-lies}
use Rattle.groups.proofs.Grouping.{same-both, both-same, lowest-member, lowest-below, lowest-le}
use Rattle.groups.proofs.Numbered.{same-to-number, number-to-same}

pub record Certified (n : ℕ) (fact : ℕ → ℕ → Bool) (done : ℕ → ℕ) : Type 0 where
  pub one : (g h : ℕ) → g < n → h < n → done g ≡ done h → lies n fact g h ≡ true
  pub order : (g c : ℕ) → leads n fact g c ≡ true → done g ≤ done c

module _ (n : ℕ) (fact : ℕ → ℕ → Bool) (P : Pairs n fact) (done : ℕ → ℕ) (C : Certified n fact done) where
  along : {g h : ℕ} → Within (leads n fact) g h → done g ≤ done h
  along self = omega arith
  along (step {g = g} {c = c} e w) = omega (arith, C.order g c e, along w)

  pub lies-done : (g h : ℕ) → g < n → h < n → lies n fact g h ≡ true → done g ≤ done h
  lies-done g h l k e = along (lies_within n fact P g h l k e)

  -- THE THEOREM: its classes are the groups
  pub certified : (g h : ℕ) → g < n → h < n → (done g ≡ done h) ↔ (number n fact g ≡ number n fact h)
  certified g h l k = (
    λ e. same-to-number n fact P g h l k (both-same n fact P g h (C.one g h l k e) (C.one h g k l (sym e))),
    λ e. let s = same-both n fact P g h (number-to-same n fact P g h l k e) in omega (arith, lies-done g h l k s.0, lies-done h g k l s.1),
  )

-- the numbers made from it are those of the groups
module _ (n : ℕ) (fact : ℕ → ℕ → Bool) (P : Pairs n fact) (done : ℕ → ℕ) (C : Certified n fact done) where
  done-same : (g h : ℕ) → g < n → h < n → done g ≡ done h → same n fact g h ≡ true
  done-same g h l k e = both-same n fact P g h (C.one g h l k e) (C.one h g k l (sym e))

  pub low_by : (g : ℕ) → g < n → lowest_by n done g ≡ lowest n fact g
  unfolding lowest_by
  low_by g l =
      let k = lowest-below n fact P g l in
      first-is (λ h. eqb (done g) (done h)) 0 n (lowest n fact g) (omega arith) (omega arith)
      (λ q a b. ne_eqb (done g) (done q) (λ e. omega (arith, lowest-le n fact P g q l (omega arith) (done-same g q l (omega arith) e))))
      (eq-eqb (done g) (done (lowest n fact g)) ((certified n fact P done C g (lowest n fact g) l k).1 (same-to-number n fact P g (lowest n fact g) l k (lowest-member n fact P g l))))

  tally-eq : (m : ℕ) → m ≤ n → tally (first_by n done) m ≡ tally (first_of n fact) m
  unfolding first_by first_of
  tally-eq m l = omega (arith, tally-mono (first_by n done) (first_of n fact) m (λ x k e. sym (ap (λ (y : ℕ). eqb y x) (low_by x (omega arith))) ∙ e), tally-mono (first_of n fact) (first_by n done) m (λ x k e. ap (λ (y : ℕ). eqb y x) (low_by x (omega arith)) ∙ e))

  pub number-by : (g : ℕ) → g < n → number_by n done g ≡ number n fact g
  unfolding number_by number
  number-by g l = ap (tally (first_by n done)) (low_by g l) ∙ tally-eq (lowest n fact g) (omega (arith, lowest-below n fact P g l))

  pub count_by : tally (first_by n done) n ≡ groups n fact
  unfolding groups
  count_by = tally-eq n (omega arith)

-- what the search finds is such a number, where its matrix has the pairs
module _ (n : ℕ) (fact : ℕ → ℕ → Bool) (P : Pairs n fact) (e : List ℕ) (E : Edged n fact e) where
  bit-leads : (g c : ℕ) → g < n → c < n → bit_of e c g ≡ true → leads n fact g c ≡ true
  unfolding leads
  bit-leads g c l k b = both-and (lt-ltb g n l) (go (or-either (fact g c) (eqb c 0 && ltb 0 g) (sym (E.bits c g k l) ∙ b)))
    where
      go : (fact g c ≡ true) ⊎ ((eqb c 0 && ltb 0 g) ≡ true) → (eqb c 0 || fact g c) ≡ true
      go (inl f) = right_or (eqb c 0) f
      go (inr z) = left_or (fact g c) (and_both (eqb c 0) (ltb 0 g) z).0

  leads-bit : (g c : ℕ) → leads n fact g c ≡ true → (g ≡ c → ⊥) → bit_of e c g ≡ true
  leads-bit g c t ne = let b = leads-in n fact P g c t in E.bits c g b.1 b.0 ∙ go (leads-split n fact P g c t)
    where
      go : (c ≡ 0) ⊎ (fact g c ≡ true) → (fact g c || (eqb c 0 && ltb 0 g)) ≡ true
      go (inl z) = right_or (fact g c) (both-and (eq-eqb c 0 z) (lt-ltb 0 g (omega arith)))
      go (inr f) = left_or (eqb c 0 && ltb 0 g) f

  parted : (g c : ℕ) → part_of n e g c ≡ true → (g < n) × (bit_of e c g ≡ true)
  unfolding part_of
  parted g c b = let d = and_both (ltb g n) (bit_of e c g) b in (ltb-true g n d.0, d.1)

  start-in : {g h : ℕ} → Within (part_of n e) g h → h < n → g < n
  start-in self l = l
  start-in (step {g = g} {c = c} b w) l = (parted g c b).0

  way-within : {g h : ℕ} → Within (part_of n e) g h → h < n → Within (leads n fact) g h
  way-within self l = self
  way-within (step {g = g} {c = c} b w) l = let d = parted g c b in step (bit-leads g c d.0 (start-in w l) d.1) (way-within w l)

  pub searched : (done : ℕ → ℕ) → Searched n 2048 (bit_of e) (WayOf n e) done → Certified n fact done
  searched done R = record {
    one = λ g h l k q. within-lies n fact P (way-within (R.one h g k l (sym q)) k) l;
    order = λ g c q. pick g c q (ℕ_discrete g c);
  }
    where
      pick : (g c : ℕ) → leads n fact g c ≡ true → Dec (g ≡ c) → done g ≤ done c
      pick g c q (yes z) = omega (arith, ap done z)
      pick g c q (no z) = let b = leads-in n fact P g c q in R.order c g b.1 b.0 (leads-bit g c q z)
