-- What matrices hold, and what products and meetings of them hold then. Assumes nothing.
use Prim.Native.Nat.{ℕ, zero, suc, ◌<◌, ◌≤◌}
use mathlib.Core.Path.{◌≡◌, refl, sym, ap, ap₂, ◌∙◌}
use mathlib.Core.Logic.{◌⊎◌, inl, inr}
use mathlib.Core.Bool.{Bool, true, false, not, ◌&&◌, ◌||◌, or_comm, false≢true}
use mathlib.Core.List.{List}
use native.Mathlib.Decide.{dec_lt}
use native.Mathlib.Omega.{arith}
use borrow.Author.Tests.{le-ltb, lt-ltb, eqb-true, ltb-true, ne_eqb}
use lib.Dec.{eqb, ltb}
use lib.ListN.{length, get_or}
use Rattle.lists.specs.Any.{any_below}
use Rattle.lists.proofs.Bools.{and_both, both-and, or-either, left_or, right_or, eqb-self, same_truth, not-true}
use Rattle.lists.proofs.Anys.{below-find, below-hit}
use Rattle.matrices.specs.Matrix.{bit_of, common, through, Blank, Multiplied}
use Rattle.matrices.specs.Flow.{Carried}
use Rattle.rules.specs.Fact.{Fact, PART, fact_of, Within, AllWithin, unmarked}
use Rattle.rules.specs.Follows.{storing, follows}
use Rattle.rules.proofs.Facts.{storing-find}
use Rattle.records.specs.declared.Record.{Record}
use Rattle.records.proofs.Accepted.{says-left, says-right}
use Rattle.closure.specs.Stored.{stored_bit, meet_bit, edge_bit, stepping, step_bit}
use Rattle.closure.specs.Bounded.{Bounded}
use Rattle.closure.specs.Closed.{part_bit, whole_bit, toward_bit, away_bit, out_bit, Holds, Grown}

pub any_same : (p q : ℕ → Bool) (n : ℕ) → ((x : ℕ) → x < n → p x ≡ q x) → any_below p n ≡ any_below q n
unfolding any_below
any_same p q zero h = refl
any_same p q (suc n) h = ap₂ ◌||◌ (h n (omega arith)) (any_same p q n (λ x l. h x (omega arith)))

-- ---- products and meetings

module _ {n : ℕ} {a b : List ℕ} {f g : ℕ → ℕ → Bool} (A : Holds n a f) (B : Holds n b g) where
  -- no bit of row r leads to a row that is free
  pub through-holds : (r y : ℕ) → r < n → y < 2048 → ((x : ℕ) → n ≤ x → f r x ≡ false) → through a b r y ≡ any_below (λ x. f r x && g x y) 2048
  unfolding through
  through-holds r y lr ly none = any_same _ _ 2048 (λ x l. one x l (dec_lt x n))
    where
      one : (x : ℕ) → x < 2048 → Dec (x < n) → (bit_of a r x && bit_of b x y) ≡ (f r x && g x y)
      one x l (yes k) = ap₂ ◌&&◌ (A.bits r x lr l) (B.bits x y k ly)
      one x l (no k) = rw (A.bits r x lr l, none x (omega arith))

  pub common-holds : (r s : ℕ) → r < n → s < n → common a r b s ≡ any_below (λ j. f r j && g s j) 2048
  unfolding common
  common-holds r s lr ls = any_same _ _ 2048 (λ j l. ap₂ ◌&&◌ (A.bits r j lr l) (B.bits s j ls l))

pub holds_same : {n : ℕ} {m : List ℕ} {f g : ℕ → ℕ → Bool} → ((r i : ℕ) → r < n → i < 2048 → f r i ≡ g r i) → Holds n m f → Holds n m g
holds_same h H = record { sized = H.sized; bits = λ r i lr li. H.bits r i lr li ∙ h r i lr li }

-- a product of what is joined is joined
spread :
    (f a : ℕ → Bool) (m : ℕ → ℕ → Bool) (p : ℕ → Bool) (k : ℕ)
    → any_below (λ x. f x && (a x || any_below (λ v. m x v && p v) k)) k ≡ (any_below (λ x. f x && a x) k || any_below (λ v. any_below (λ x. f x && m x v) k && p v) k)
spread f a m p k = same_truth _ _ to from
  where
    to : any_below (λ x. f x && (a x || any_below (λ v. m x v && p v) k)) k ≡ true → (any_below (λ x. f x && a x) k || any_below (λ v. any_below (λ x. f x && m x v) k && p v) k) ≡ true
    to e =
        let s = below-find (λ x. f x && (a x || any_below (λ v. m x v && p v) k)) k e in
        let b = and_both (f s.0) (a s.0 || any_below (λ v. m s.0 v && p v) k) s.2 in
        go s.0 s.1 b.0 (or-either (a s.0) (any_below (λ v. m s.0 v && p v) k) b.1)
      where
        go : (x : ℕ) → x < k → f x ≡ true → (a x ≡ true) ⊎ (any_below (λ v. m x v && p v) k ≡ true) → (any_below (λ x. f x && a x) k || any_below (λ v. any_below (λ x. f x && m x v) k && p v) k) ≡ true
        go x l h (inl q) = left_or _ (below-hit (λ x. f x && a x) k x l (both-and h q))
        go x l h (inr q) =
            let r = below-find (λ v. m x v && p v) k q in
            let c = and_both (m x r.0) (p r.0) r.2 in
            right_or (any_below (λ x. f x && a x) k)
            (below-hit (λ v. any_below (λ x. f x && m x v) k && p v) k r.0 r.1 (both-and (below-hit (λ x. f x && m x r.0) k x l (both-and h c.0)) c.1))

    from : (any_below (λ x. f x && a x) k || any_below (λ v. any_below (λ x. f x && m x v) k && p v) k) ≡ true → any_below (λ x. f x && (a x || any_below (λ v. m x v && p v) k)) k ≡ true
    from e = go (or-either (any_below (λ x. f x && a x) k) (any_below (λ v. any_below (λ x. f x && m x v) k && p v) k) e)
      where
        go : (any_below (λ x. f x && a x) k ≡ true) ⊎ (any_below (λ v. any_below (λ x. f x && m x v) k && p v) k ≡ true) → any_below (λ x. f x && (a x || any_below (λ v. m x v && p v) k)) k ≡ true
        go (inl q) =
            let s = below-find (λ x. f x && a x) k q in
            let b = and_both (f s.0) (a s.0) s.2 in
            below-hit (λ x. f x && (a x || any_below (λ v. m x v && p v) k)) k s.0 s.1 (both-and b.0 (left_or _ b.1))
        go (inr q) =
            let r = below-find (λ v. any_below (λ x. f x && m x v) k && p v) k q in
            let c = and_both (any_below (λ x. f x && m x r.0) k) (p r.0) r.2 in
            let s = below-find (λ x. f x && m x r.0) k c.0 in
            let b = and_both (f s.0) (m s.0 r.0) s.2 in
            below-hit (λ x. f x && (a x || any_below (λ v. m x v && p v) k)) k s.0 s.1
            (both-and b.0 (right_or (a s.0) (below-hit (λ v. m s.0 v && p v) k r.0 r.1 (both-and b.1 c.1))))

pieces_of : (n k a b : ℕ) → Within n (fact_of k a b) → (a < n) × (b < n)
pieces_of n k a b c =
    let r : Record = record { kind = k; origin = 0; a = a; b = b } in
    (rw (says-left r) at c.0, rw (says-right r) at c.1)

-- ---- what the closure's matrices hold

module _ (n : ℕ) (fs : List Fact) where
  part-column : (h g : ℕ) → n ≤ g → part_bit n fs h g ≡ false
  unfolding part_bit
  part-column h g l = rw (le-ltb g n l)

  whole-column : (g y : ℕ) → whole_bit n fs g y ≡ true → ltb y n ≡ true
  unfolding whole_bit part_bit
  whole-column g y q = (and_both (ltb g n) (ltb y n) (and_both (ltb g n && ltb y n) (follows unmarked n fs (PART g y)) q).0).1

  whole-none : (g y : ℕ) → n ≤ y → whole_bit n fs g y ≡ false
  whole-none g y l = not-true _ (λ q. let t = ltb-true y n (whole-column g y q) in omega arith)

  pub stored-column : AllWithin n fs → (k : ℕ) (straight swapped : Bool) (x y : ℕ) → n ≤ y → stored_bit fs k straight swapped x y ≡ false
  unfolding stored_bit
  stored-column w k straight swapped x y l = not-true _ (λ e. let s = storing-find fs k _ e in one s.0 s.1 (w _ s.2) (or-either _ _ s.3))
    where
      one : (a b : ℕ) → Within n (fact_of k a b) → ((straight && (eqb a x && eqb b y)) ≡ true) ⊎ ((swapped && (eqb a y && eqb b x)) ≡ true) → ⊥
      one a b c (inl h) =
          let e = eqb-true b y (and_both (eqb a x) (eqb b y) (and_both straight (eqb a x && eqb b y) h).1).1 in
          omega (arith, (pieces_of n k a b c).1)
      one a b c (inr h) =
          let e = eqb-true a y (and_both (eqb a y) (eqb b x) (and_both swapped (eqb a y && eqb b x) h).1).0 in
          omega (arith, (pieces_of n k a b c).0)

  meet-column : (void : ℕ → Bool) → AllWithin n fs → (x y : ℕ) → x < n → n ≤ y → meet_bit void n fs x y ≡ false
  unfolding meet_bit
  meet-column void w x y k l = ap₂ ◌||◌ (ap (λ (t : Bool). t && (ltb x n && not (void x))) (ne_eqb x y (λ q. omega arith))) (stored-column w 3 true true x y l)

  -- M, and the steps
  module _ (few : n ≤ 2048) where
    pub meet-holds :
        (void : ℕ → Bool) {x x' : List ℕ} → length x' ≡ 65536 → Holds n x (stored_bit fs 3 true true) → Grown x x' (λ a b. eqb a b && (ltb a n && not (void a))) → Holds n x' (meet_bit void n fs)
    unfolding meet_bit
    meet-holds void z X G =
        record {
          sized = z;
          bits = λ a b la lb. G.bits a b (omega arith) lb ∙ or_comm _ (eqb a b && (ltb a n && not (void a))) ∙ ap (λ (t : Bool). (eqb a b && (ltb a n && not (void a))) || t) (X.bits a b la lb);
        }

    pub edge-holds :
        {x x' : List ℕ} → length x' ≡ 65536 → Holds n x (stored_bit fs 1 false true) → Grown x x' (λ a b. eqb a 0 && (ltb 0 b && ltb b n)) → Holds n x' (edge_bit n fs)
    unfolding edge_bit
    edge-holds z X G =
        record { sized = z; bits = λ a b la lb. G.bits a b (omega arith) lb ∙ ap (λ (t : Bool). t || (eqb a 0 && (ltb 0 b && ltb b n))) (X.bits a b la lb) }

    pub step-holds :
        (lead : List ℕ) {x x' : List ℕ} → length x' ≡ 65536 → Holds n x (λ a b. storing fs 1 (stepping lead a b)) → Grown x x' (λ a b. eqb a 0 && (ltb 0 b && (ltb b n && eqb (get_or lead b 0) b)))
        → Holds n x' (step_bit n fs lead)
    unfolding step_bit
    step-holds lead z X G =
        record { sized = z; bits = λ a b la lb. G.bits a b (omega arith) lb ∙ ap (λ (t : Bool). t || (eqb a 0 && (ltb 0 b && (ltb b n && eqb (get_or lead b 0) b)))) (X.bits a b la lb) }

  -- rows joined along the steps, or against them, none of which leads to a row that is free
  carried :
      {m m' : List ℕ} {r f : ℕ → ℕ → Bool} → length m' ≡ 65536 → Holds n m f → ((h x : ℕ) → n ≤ x → r h x ≡ false) → Carried r n m m'
      → Holds n m' (λ h y. any_below (λ x. r h x && f x y) 2048)
  carried {m} {m'} {r} {f} z M none C = record { sized = z; bits = λ h y lh ly. C.row h y lh ly ∙ any_same _ _ 2048 (λ x k. one h x y ly (dec_lt x n)) }
    where
      one : (h x y : ℕ) → y < 2048 → Dec (x < n) → (r h x && bit_of m x y) ≡ (r h x && f x y)
      one h x y ly (yes l) = ap (λ (t : Bool). r h x && t) (M.bits x y l ly)
      one h x y ly (no l) = rw (none h x (omega arith))

  -- N ∪ M·P
  abbrev next_out : (ℕ → Bool) → ℕ → ℕ → Bool
  next_out void x y = stored_bit fs 4 true false x y || any_below (λ v. meet_bit void n fs x v && away_bit n fs v y) 2048

  -- T
  pub toward-holds : (void : ℕ → Bool) {t t' : List ℕ} → length t' ≡ 65536 → Holds n t (meet_bit void n fs) → Carried (part_bit n fs) n t t' → Holds n t' (toward_bit void n fs)
  unfolding toward_bit
  toward-holds void z M C = carried z M part-column C

  -- P
  pub away-holds : {p p' : List ℕ} → length p' ≡ 65536 → Holds n p (stored_bit fs 2 true true) → Carried (whole_bit n fs) n p p' → Holds n p' (away_bit n fs)
  unfolding away_bit
  away-holds z A C = carried z A whole-none C

  -- Q
  pub out-holds :
      (w : AllWithin n fs) (void : ℕ → Bool) {m p q q' q'' : List ℕ} → length q' ≡ 65536 → length q'' ≡ 65536 → Holds n m (meet_bit void n fs) → Holds n p (away_bit n fs) → Holds n q (stored_bit fs 4 true false)
      → Multiplied q q' m p n → Carried (part_bit n fs) n q' q'' → Holds n q'' (out_bit void n fs)
  unfolding out_bit toward_bit
  out-holds w void {m} {p} {q} {q'} {q''} z z' M P Q X C =
      holds_same (λ g y lg ly. spread (part_bit n fs g) (λ x. stored_bit fs 4 true false x y) (meet_bit void n fs) (λ x. away_bit n fs x y) 2048)
      (carried z' first part-column C)
    where
      first : Holds n q' (next_out void)
      first = record { sized = z; bits = λ x y lx ly. X.row x y lx ly ∙ ap₂ ◌||◌ (Q.bits x y lx ly) (through-holds M P x y lx ly (λ v l. meet-column void w x v lx l)) }

  -- the diagonal joined along the steps, or against them, is what it is joined by
  diagonal-joined :
      {u u' u'' : List ℕ} {r : ℕ → ℕ → Bool} → n ≤ 2048 → Blank n u → length u'' ≡ 65536 → Grown u u' (λ x y. eqb x y && ltb x n) → ((h x : ℕ) → n ≤ x → r h x ≡ false) → Carried r n u' u''
      → Holds n u'' r
  diagonal-joined {u} {u'} {u''} {r} few E z G none C = record { sized = z; bits = λ g y lg ly. C.row g y lg ly ∙ any_same _ _ 2048 (λ x h. diag g x y ly (dec_lt x n)) ∙ only g y ly }
    where
      diag : (g x y : ℕ) → y < 2048 → Dec (x < n) → (r g x && bit_of u' x y) ≡ (r g x && (eqb x y && ltb x n))
      diag g x y ly (yes l) = ap (λ (t : Bool). r g x && t) (G.bits x y (omega arith) ly ∙ ap (λ (t : Bool). t || (eqb x y && ltb x n)) (E.bits x y l ly))
      diag g x y ly (no l) = rw (none g x (omega arith))

      column : (g y : ℕ) → r g y ≡ true → Dec (y < n) → ltb y n ≡ true
      column g y q (yes l) = lt-ltb y n l
      column g y q (no l) = absurd (false≢true (sym (none g y (omega arith)) ∙ q))

      only : (g y : ℕ) → y < 2048 → any_below (λ x. r g x && (eqb x y && ltb x n)) 2048 ≡ r g y
      only g y l = same_truth _ _
          (λ q.
          let s = below-find (λ x. r g x && (eqb x y && ltb x n)) 2048 q in
          let b = and_both (r g s.0) (eqb s.0 y && ltb s.0 n) s.2 in
          rw (eqb-true s.0 y (and_both (eqb s.0 y) (ltb s.0 n) b.1).0) at b.0)
          (λ q. below-hit (λ x. r g x && (eqb x y && ltb x n)) 2048 y l (both-and q (both-and (eqb-self y) (column g y q (dec_lt y n)))))

  -- D
  pub part-holds :
      {d d' d'' : List ℕ} → n ≤ 2048 → Blank n d → length d'' ≡ 65536 → Grown d d' (λ x y. eqb x y && ltb x n) → Carried (part_bit n fs) n d' d'' → Holds n d'' (part_bit n fs)
  part-holds few E z G C = diagonal-joined few E z G part-column C

  -- U
  pub whole-holds :
      {u u' u'' : List ℕ} → n ≤ 2048 → Blank n u → length u'' ≡ 65536 → Grown u u' (λ x y. eqb x y && ltb x n) → Carried (whole_bit n fs) n u' u'' → Holds n u'' (whole_bit n fs)
  whole-holds few E z G C = diagonal-joined few E z G whole-none C

pub below-2048 : {n : ℕ} {fs : List Fact} → Bounded n fs → AllWithin 2048 fs
below-2048 B f m = let w = B.within f m in let h = B.fits in (omega arith, omega arith)
