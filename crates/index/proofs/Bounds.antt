-- How many nodes and shadows a book can have. Assumes nothing.
use mathlib.Core.Path.{◌≡◌, refl}
use mathlib.Core.Logic.{◌⊎◌, inl, inr}
use mathlib.Core.Bool.{Bool, true, false, not, ◌&&◌, ◌||◌}
use mathlib.Core.List.{List, [], ◌∷◌}
use Prim.Native.Nat.{ℕ, zero, suc, ◌+◌, ◌*◌, ◌-◌, ◌≤◌, ◌<◌}
use native.Mathlib.Omega.{arith}
use lib.Dec.{eqb, ltb}
use lib.ListN.{length}
use borrow.Author.Tests.{eq-eqb, eqb-false, ne_eqb}
use Rattle.lists.specs.Any.{any, any_below}
use Rattle.lists.specs.Tab.{tab}
use Rattle.lists.proofs.Bools.{left_or}
use Rattle.lists.specs.Tally.{num}
use Rattle.lists.specs.Numbers.{range, keep, sum}
use Rattle.index.specs.Pairs.{parts, pairs, joined, Book}
use Rattle.index.specs.Tree.{whole, visits}
use Rattle.index.specs.Parts.{shadows}
use Rattle.lists.proofs.Numbers.{which, range_length}
use Rattle.lists.proofs.Sums.{sum-add, sum-at, sum-none, sum-le, keep-le, keep-or, none_kept, keep-sum, one_at_most}
use Rattle.index.specs.Index.{parentheses_of, visits_of, Room}
use Rattle.index.proofs.Ranges.{parens-length}
use Rattle.index.proofs.Sizes.{visit-count, shadow-count}

-- ---- the joins

module _ (n : ℕ) (fact : ℕ → ℕ → Bool) where
  join : ℕ → ℕ → Bool
  join c p = eqb c 0 && (ltb 0 p && (ltb p n && not (any_below (fact p) n)))

  -- at most n - 1 of them, all in 0
  joins : (c : ℕ) → length (keep (join c) (range 0 n)) ≤ num (eqb c 0) * (n - 1)
  unfolding join
  joins zero = at n
    where
      at : (m : ℕ) → length (keep (join 0) (range 0 m)) ≤ 1 * (m - 1)
      at zero = unfold keep range tab in omega arith
      at (suc m) = unfold keep range tab join in omega (arith, keep-le (join 0) (tab (λ i. i) 1 m), range_length 1 m)
  joins (suc c) = rw (none_kept (join (suc c)) (range 0 n) (λ p. rw (ne_eqb (suc c) 0 (λ w. omega arith)))) (omega arith)

  pub joined-pairs : 0 < n → pairs n (joined n fact) ≤ pairs n fact + (n - 1)
  unfolding pairs parts joined
  joined-pairs pos =
      omega (
        arith,
        sum-le (λ c. length (keep (λ p. joined n fact p c) (range 0 n))) (λ c. length (keep (λ p. fact p c) (range 0 n)) + num (eqb c 0) * (n - 1)) (range 0 n)
            (λ c. omega (arith, keep-or (λ p. joined n fact p c) (λ p. fact p c) (join c) (range 0 n) (λ p e. unfold join in e), joins c)),
        sum-add (λ c. length (keep (λ p. fact p c) (range 0 n))) (λ c. num (eqb c 0) * (n - 1)) (range 0 n),
        sum-at (λ c. n - 1) 0 0 n (omega arith) (omega arith),
      )

  -- THE BOUNDS
  module _ (B : Book n (joined n fact)) where
    pub nodes-bound : length (visits (whole n (joined n fact))) ≤ pairs n fact + n
    nodes-bound = omega (arith, visit-count n (joined n fact) B, joined-pairs B.some, B.some)

    pub shadows-bound : length (shadows (visits (whole n (joined n fact)))) ≤ pairs n fact
    shadows-bound = omega (arith, shadow-count n (joined n fact) B, joined-pairs B.some, B.some)

    -- ROOM: parts with room for so many pairs and pieces have room for the index
    pub room_for : (count bytes mark_bytes shadow_count place_count : ℕ) → pairs n fact ≤ count → count + n ≤ 4 * bytes → count + n ≤ 8 * mark_bytes
        → count ≤ shadow_count → n ≤ place_count → Room n (joined n fact) bytes mark_bytes shadow_count place_count
    unfolding visits_of parentheses_of
    room_for count bytes mark_bytes shadow_count place_count few a b c d =
        record {
          parens = omega (arith, parens-length (whole n (joined n fact)), nodes-bound);
          marks = omega (arith, nodes-bound);
          shadows = omega (arith, shadows-bound);
          places = d;
        }

    -- document 01's limits
    pub limits : n ≤ 2048 → pairs n fact ≤ 8192
        → (length (visits (whole n (joined n fact))) ≤ 10240) × (length (shadows (visits (whole n (joined n fact)))) ≤ 8192)
    limits a b = (omega (arith, nodes-bound), omega (arith, shadows-bound))

-- ---- pairs from a list

-- a test that only one part and container pass
single : (n part container : ℕ) (f : ℕ → ℕ → Bool) → ((p c : ℕ) → f p c ≡ true → (p ≡ part) × (c ≡ container))
    → sum (λ c. length (keep (λ p. f p c) (range 0 n))) (range 0 n) ≤ 1
single n part container f h = omega (arith, one_at_most container n, sum-le (λ c. length (keep (λ p. f p c) (range 0 n))) (λ c. num (eqb c container)) (range 0 n) at)
  where
    at : (c : ℕ) → length (keep (λ p. f p c) (range 0 n)) ≤ num (eqb c container)
    at c = go (which (eqb c container))
      where
        no : eqb c container ≡ false → (p : ℕ) → (f p c ≡ true) ⊎ (f p c ≡ false) → f p c ≡ false
        no e p (inl t) = absurd (eqb-false c container e (h p c t).1)
        no e p (inr t) = t

        go : (eqb c container ≡ true) ⊎ (eqb c container ≡ false) → length (keep (λ p. f p c) (range 0 n)) ≤ num (eqb c container)
        go (inl e) = rw e (omega (
          arith,
          keep-or (λ p. f p c) (λ p. eqb p part) (λ p. false) (range 0 n) (λ p t. left_or false (eq-eqb p part (h p c t).0)),
          none_kept (λ p. false) (range 0 n) (λ p. refl),
          keep-sum (λ p. eqb p part) (range 0 n),
          one_at_most part n,
        ))
        go (inr e) = rw e (omega (arith, none_kept (λ p. f p c) (range 0 n) (λ p. no e p (which (f p c)))))

-- no more pairs than members of a list in which they are found, if each member stands for one pair at most
pub pairs-any : {A : Type 0} (n : ℕ) (test : ℕ → ℕ → A → Bool) (part container : A → ℕ)
    → ((p c : ℕ) (x : A) → test p c x ≡ true → (p ≡ part x) × (c ≡ container x)) → (xs : List A) → pairs n (λ p c. any (test p c) xs) ≤ length xs
unfolding pairs parts any
pairs-any n test part container h [] = omega (arith, sum-none (λ c. length (keep (λ p. false) (range 0 n))) (range 0 n) (λ c m. none_kept (λ p. false) (range 0 n) (λ p. refl)))
pairs-any n test part container h (x ∷ xs) =
    omega (
      arith,
      pairs-any n test part container h xs,
      single n (part x) (container x) (λ p c. test p c x) (λ p c e. h p c x e),
      sum-add (λ c. length (keep (λ p. test p c x) (range 0 n))) (λ c. length (keep (λ p. any (test p c) xs) (range 0 n))) (range 0 n),
      sum-le (λ c. length (keep (λ p. test p c x || any (test p c) xs) (range 0 n))) (λ c. length (keep (λ p. test p c x) (range 0 n)) + length (keep (λ p. any (test p c) xs) (range 0 n))) (range 0 n)
          (λ c. keep-or (λ p. test p c x || any (test p c) xs) (λ p. test p c x) (λ p. any (test p c) xs) (range 0 n) (λ p e. e)),
    )
