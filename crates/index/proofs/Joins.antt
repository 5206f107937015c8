-- The joins to 0: which pieces are nobody's part, and the matrix with the joins put into row 0. Assumes nothing.
use mathlib.Core.Path.{◌≡◌, refl, sym, ap, ap₂, ◌∙◌, fun_ext}
use mathlib.Core.Bool.{Bool, true, false, not, ◌&&◌, ◌||◌, true≢false, and-false}
use mathlib.Core.List.{List}
use Prim.Native.Nat.{ℕ, zero, suc, ◌+◌, ◌-◌, ◌≤◌, ◌<◌}
use native.Mathlib.Decide.{ℕ_discrete, dec_lt}
use native.Mathlib.Omega.{arith}
use native.Mathlib.Numerals.{add-one}
use lib.Dec.{eqb, ltb}
use lib.ListN.{length, get_or, set}
use lib.Seq.{get_or-set_same, get_or-set_other}
use borrow.Author.Tests.{lt-ltb, le-ltb, ne_eqb}
use Rattle.lists.specs.Any.{any_below}
use Rattle.lists.specs.First.{first}
use Rattle.lists.proofs.Bools.{Known, is_true, is_false, known}
use Rattle.lists.specs.Tally.{num}
use Rattle.matrices.specs.Matrix.{bit_of}
use Rattle.lists.proofs.Searches.{Sought, sought-next}
use Rattle.index.specs.Pairs.{joined, Book}
use Rattle.index.specs.Matrix.{pair_of, Completed}
use Rattle.index.specs.Steps.{Marked, Held}
use Rattle.lists.proofs.Numbers.{same_test}
use Rattle.index.proofs.Joined.{joined-book}

-- ## The parts of one piece

-- the parts of c below p are marked
pub record Marking (m : List ℕ) (c : ℕ) (held₀ held : List ℕ) (p : ℕ) : Type 0 where
  pub upto : p ≤ 2048
  pub hit : (q : ℕ) → q < p → bit_of m c q ≡ true → get_or held q 0 ≡ 1
  pub miss : (q : ℕ) → q < p → bit_of m c q ≡ false → get_or held q 0 ≡ get_or held₀ q 0
  pub later : (q : ℕ) → p ≤ q → get_or held q 0 ≡ get_or held₀ q 0

module _ (m : List ℕ) (c : ℕ) (held₀ : List ℕ) where
  pub mark-start : Marking m c held₀ held₀ 0
  mark-start = record { upto = omega arith; hit = λ q l. absurd (omega arith); miss = λ q l. absurd (omega arith); later = λ q l. refl }

  -- up to the next part
  pub mark-next : (held : List ℕ) (p r : ℕ) → Marking m c held₀ held p → r ≡ first (bit_of m c) p (2048 - p)
      → Marking m c held₀ held r × (r < 2048 → bit_of m c r ≡ true) × (p ≤ r)
  mark-next held p r M e = (
    record {
      upto = S.upto;
      hit = λ q l f. elim (dec_lt q p) [ yes b ↦ M.hit q b f | no b ↦ absurd (true≢false (sym f ∙ S.before q (omega arith) l)) ];
      miss = λ q l f. elim (dec_lt q p) [ yes b ↦ M.miss q b f | no b ↦ M.later q (omega arith) ];
      later = λ q l. M.later q (omega (arith, S.from));
    },
    S.hit,
    S.from,
  )
    where
      S : Sought (bit_of m c) p 2048 r
      S = sought-next (bit_of m c) p 2048 r M.upto e

  pub mark-more : (held : List ℕ) (p : ℕ) → Marking m c held₀ held p → bit_of m c p ≡ true → p < 2048 → p < length held → Marking m c held₀ (set held p 1) (p + 1)
  mark-more held p M h l room = record {
    upto = omega arith;
    hit = λ q b f. elim (ℕ_discrete q p) [
      | yes x ↦ rw x (get_or-set_same held p 1 0 room)
      | no x ↦ get_or-set_other held p q 1 0 x ∙ M.hit q (omega arith) f
    ];
    miss = λ q b f. elim (ℕ_discrete q p) [
      | yes x ↦ absurd (true≢false (sym h ∙ sym (ap (bit_of m c) x) ∙ f))
      | no x ↦ get_or-set_other held p q 1 0 x ∙ M.miss q (omega arith) f
    ];
    later = λ q b. get_or-set_other held p q 1 0 (λ x. omega arith) ∙ M.later q (omega arith);
  }

-- ## The parts of all pieces

pub held_start : (m held : List ℕ) → ((q : ℕ) → get_or held q 0 ≡ 0) → Held 0 m held
held_start m held z = record { each = λ q l. z q ∙ (unfold any_below in refl) }

pub held_more : (c : ℕ) (m held held' : List ℕ) → Held c m held → Marked m c held held' → Held (c + 1) m held'
held_more c m held held' H M = record { each = λ q l. rw (add-one c) (go q l (known (bit_of m c q))) }
  where
    go : (q : ℕ) → q < 2048 → Known (bit_of m c q) → get_or held' q 0 ≡ num (any_below (λ c. bit_of m c q) (suc c))
    go q l (is_true f) = unfold any_below in rw f (M.hit q l f)
    go q l (is_false f) = unfold any_below in rw f (M.miss q l f ∙ H.each q l)

-- ## The matrix with the joins

below-same : (p q : ℕ → Bool) (n : ℕ) → ((x : ℕ) → x < n → p x ≡ q x) → any_below p n ≡ any_below q n
unfolding any_below
below-same p q zero h = refl
below-same p q (suc n) h = ap₂ ◌||◌ (h n (omega arith)) (below-same p q n (λ x l. h x (omega arith)))

-- there is no pair of another piece
pub high : (n : ℕ) (m : List ℕ) (q c : ℕ) → n ≤ q → pair_of n m q c ≡ false
unfolding pair_of
high n m q c l = rw (le-ltb q n l)

pub wide : (n : ℕ) (m : List ℕ) (q c : ℕ) → n ≤ c → pair_of n m q c ≡ false
unfolding pair_of
wide n m q c l = rw (le-ltb c n l, and-false (ltb q n))

-- of the n pieces the bits say the pairs
pub low : (n : ℕ) (m : List ℕ) (q c : ℕ) → q < n → c < n → pair_of n m q c ≡ bit_of m c q
unfolding pair_of
low n m q c l k = rw (lt-ltb q n l, lt-ltb c n k)

module _ (n : ℕ) (m : List ℕ) where
  -- the join of q, and whether it is made when the pieces below p have been looked at
  abbrev join : ℕ → ℕ → ℕ → Bool
  join p c q = eqb c 0 && (ltb 0 q && (ltb q p && not (any_below (λ c. bit_of m c q) n)))

  pub record Joining (m' : List ℕ) (p : ℕ) : Type 0 where
    pub each : (c q : ℕ) → q < 2048 → bit_of m' c q ≡ (bit_of m c q || join p c q)

  -- a join needs a piece between 0 and p
  join-none : (c q : ℕ) → join 1 c q ≡ false
  join-none c zero = and-false (eqb c 0)
  join-none c (suc q) = rw (le-ltb (suc q) 1 (omega arith), and-false (ltb 0 (suc q))) (and-false (eqb c 0))

  join-at : (p c : ℕ) → join p c p ≡ false
  join-at p c = rw (le-ltb p p (omega arith), and-false (ltb 0 p)) (and-false (eqb c 0))

  join-other : (p c q : ℕ) → (q ≡ p → ⊥) → join (p + 1) c q ≡ join p c q
  join-other p c q x = rw (same_test p q x)

  module _ (m' held : List ℕ) (p : ℕ) (J : Joining m' p) (H : Held n m held) (l : p < 2048) where
    some : (get_or held p 0 ≡ 0 → ⊥) → any_below (λ c. bit_of m c p) n ≡ true
    some f = go (known (any_below (λ c. bit_of m c p) n))
      where
        go : Known (any_below (λ c. bit_of m c p) n) → any_below (λ c. bit_of m c p) n ≡ true
        go (is_true e) = e
        go (is_false e) = absurd (f (H.each p l ∙ ap num e))

    none : get_or held p 0 ≡ 0 → any_below (λ c. bit_of m c p) n ≡ false
    none f = go (known (any_below (λ c. bit_of m c p) n))
      where
        go : Known (any_below (λ c. bit_of m c p) n) → any_below (λ c. bit_of m c p) n ≡ false
        go (is_true e) = absurd (omega (arith, f, H.each p l, ap num e))
        go (is_false e) = e

  -- ## All joins are made

  joined-low : (q c : ℕ) → q < n → c < n → joined n (pair_of n m) q c ≡ (bit_of m c q || join n c q)
  unfolding joined
  joined-low q c l k =
      rw (low n m q c l k) (ap (λ (t : Bool). bit_of m c q || (eqb c 0 && (ltb 0 q && (ltb q n && not t)))) (below-same (pair_of n m q) (λ c. bit_of m c q) n (λ c k. low n m q c l k)))

  joined-high : (q c : ℕ) → n ≤ q → joined n (pair_of n m) q c ≡ false
  unfolding joined
  joined-high q c l = rw (high n m q c l, le-ltb q n l, and-false (ltb 0 q)) (and-false (eqb c 0))

  joined-wide : (q c : ℕ) → 0 < n → n ≤ c → joined n (pair_of n m) q c ≡ false
  unfolding joined
  joined-wide q c pos l = rw (wide n m q c l, ne_eqb c 0 (λ z. omega arith))

  pub join-done : n ≤ 2048 → (m' : List ℕ) (p : ℕ) → p ≡ n → Joining m' p → Completed n m m'
  join-done small m' p e S = record { pair = λ q c. at q c (dec_lt q n) (dec_lt c n) }
    where
      at : (q c : ℕ) → Dec (q < n) → Dec (c < n) → pair_of n m' q c ≡ joined n (pair_of n m) q c
      at q c (yes l) (yes k) = low n m' q c l k ∙ (rw e at (S.each c q (omega arith))) ∙ sym (joined-low q c l k)
      at q c (yes l) (no k) = wide n m' q c (omega arith) ∙ sym (joined-wide q c (omega arith) (omega arith))
      at q c (no l) k = high n m' q c (omega arith) ∙ sym (joined-high q c (omega arith))

  pub completed : (m' : List ℕ) → Completed n m m' → pair_of n m' ≡ joined n (pair_of n m)
  completed m' C = fun_ext (λ p. fun_ext (λ c. C.pair p c))

  pub book : 0 < n → ((p c : ℕ) → pair_of n m p c ≡ true → c < p) → Book n (joined n (pair_of n m))
  book pos lower = joined-book n (pair_of n m) pos lower (λ p c e. in-range p c (dec_lt p n) e)
    where
      in-range : (p c : ℕ) → Dec (p < n) → pair_of n m p c ≡ true → p < n
      in-range p c (yes l) e = l
      in-range p c (no l) e = absurd (true≢false (sym e ∙ high n m p c (omega arith)))
