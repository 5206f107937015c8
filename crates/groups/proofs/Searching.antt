-- The search for groups as a whole: from empty arrays, by one call for piece 0, of which every other piece is a part. Assumes nothing.
use mathlib.Core.Path.{◌≡◌, refl, ap}
use mathlib.Core.Logic.{◌⊎◌, inl, inr}
use mathlib.Core.Bool.{Bool, true, false}
use Prim.Native.Nat.{ℕ, ◌<◌, ◌≤◌}
use native.Mathlib.Decide.{ℕ_discrete}
use native.Mathlib.Omega.{arith}
use lib.Dec.{eqb}
use Rattle.lists.proofs.Tallies.{tally-le}
use Rattle.groups.specs.Search as on
use Rattle.groups.specs.Search.{State}

module _ (n none : ℕ) (wide : n ≤ none) (edge : ℕ → ℕ → Bool) (Way : ℕ → ℕ → Type 0) where
  abbrev Good : State → (ℕ → Bool) → Type 0
  Good = on.Good n none edge Way

  abbrev Visited : State → State → ℕ → (ℕ → Bool) → Type 0
  Visited = on.Visited n none edge Way

  pub empty-good : (S : State) (gray : ℕ → Bool) → S.len ≡ 0 → S.top ≡ 0 → S.count ≡ 0 → ((x : ℕ) → x < n → S.pos x ≡ none) → ((x : ℕ) → x < n → S.done x ≡ none) → Good S gray
  empty-good S gray a b c p d = record {
    seat = λ i l. absurd (omega arith);
    active = λ x l m e. absurd (omega (arith, p x l));
    spot = λ x l. inl (p x l);
    ended = λ x l. inl (d x l);
    steps = λ k l. absurd (omega arith);
    climb = λ k l m o. absurd (omega arith);
    base = λ l. absurd (omega arith);
    forth = λ i j l m. absurd (omega arith);
    back = λ i j l m F. absurd (omega arith);
    one = λ x y l m e. absurd (omega (arith, d x l));
    settled = λ x l m. absurd (omega (arith, p x l));
    full = λ f l. absurd (omega arith);
    room = omega (arith, tally-le (λ x. eqb (S.pos x) none) n);
  }

  pub search-done : (S S' : State) → 0 < n → S.len ≡ 0 → S.top ≡ 0 → Visited S S' 0 (λ x. false) → ((y : ℕ) → 0 < y → y < n → edge 0 y ≡ true) → on.Searched n none edge Way S'.done
  search-done S S' some a b Y all = record {
    ended = λ x l. ended x l (ℕ_discrete x 0);
    one = λ x y l m e. G.one x y l m (omega (arith, ended x l (ℕ_discrete x 0))) e;
    full = λ x f l m. G.full f (omega (arith, low x l (ℕ_discrete x 0)));
    order = λ x y l m e. let q = ended x l (ℕ_discrete x 0) in (G.settled x l (seen x l (ℕ_discrete x 0)) refl y m e).over (omega arith);
  }
    where
      G : Good S' (λ x. false)
      G = Y.good

      root-seen : S'.pos 0 < none
      root-seen = omega (arith, Y.met)

      count_small : S'.count ≤ n
      count_small = omega (arith, G.room)

      root : S'.done 0 < S'.count
      root = go (G.ended 0 some)
        where
          go : (S'.done 0 ≡ none) ⊎ ((S'.done 0 < S'.count) × (S'.pos 0 < none)) → S'.done 0 < S'.count
          go (inl e) = absurd (omega (arith, G.base (omega (arith, (G.active 0 some root-seen e).0)), Y.kept.top-less))
          go (inr e) = e.0

      low : (x : ℕ) → x < n → Dec (x ≡ 0) → S'.done x < S'.count
      low x l (yes e) = omega (arith, ap S'.done e, root)
      low x l (no e) = omega (arith, (G.settled 0 some root-seen refl x l (all x (omega arith) l)).over (omega (arith, root, count_small)), root)

      ended : (x : ℕ) → x < n → Dec (x ≡ 0) → S'.done x < n
      ended x l (yes e) = omega (arith, ap S'.done e, root, count_small)
      ended x l (no e) = omega (arith, (G.settled 0 some root-seen refl x l (all x (omega arith) l)).over (omega (arith, root, count_small)), root, count_small)

      seen : (x : ℕ) → x < n → Dec (x ≡ 0) → S'.pos x < none
      seen x l (yes e) = omega (arith, ap S'.pos e, root-seen)
      seen x l (no e) = (G.settled 0 some root-seen refl x l (all x (omega arith) l)).seen
