-- U·A·D is every APART that follows, where there is no contradiction. Assumes nothing.
use Prim.Native.Nat.{ℕ, ◌+◌, ◌<◌, ◌≤◌}
use mathlib.Core.Path.{◌≡◌, refl, sym, ap, ap₂, ◌∙◌}
use mathlib.Core.Logic.{◌⊎◌, inl, inr}
use mathlib.Core.Bool.{Bool, true, false, ◌&&◌, ◌||◌, false≢true, and_comm, and-true, and-false, or-false, or-true}
use mathlib.Core.List.{List}
use native.Mathlib.Decide.{ℕ_discrete, dec_lt}
use native.Mathlib.Omega.{arith}
use borrow.Author.Tests.{eqb-true, eq-eqb, ne_eqb, lt-ltb, le-ltb}
use lib.Dec.{eqb, ltb}
use lib.ListN.{length}
use Rattle.lists.proofs.Bools.{and_both, both-and, or-either, left_or, right_or, same_truth, Known, is_true, is_false, known}
use Rattle.matrices.specs.Matrix.{bit_of, through, Blank, Multiplied}
use Rattle.matrices.specs.Flow.{Carried}
use Rattle.rules.specs.Fact.{Fact, APART, fact_of, unmarked}
use Rattle.rules.specs.Follows.{storing, turned, clash}
use Rattle.rules.proofs.Paths.{Path, here, top}
use Rattle.rules.proofs.Reach.{path-shows, shows-path}
use Rattle.rules.proofs.Decides.{turned-find, apart-hit, either-in}
use Rattle.rules.proofs.Marks.{with-marks, without-marks}
use Rattle.rules.proofs.Plain.{inside, plain, neat, follows-plain}
use Rattle.closure.specs.Stored.{stored_bit}
use Rattle.closure.specs.Bounded.{Bounded}
use Rattle.closure.specs.Closed.{Holds, Grown, part_bit, whole_bit}
use Rattle.closure.specs.Apart.{marked_apart, apart_bit, Aparts}
use Rattle.closure.proofs.StoredBits.{either-find, either-hit}
use Rattle.closure.proofs.Products.{prod, prod-find, prod-hit, path-above, d-path, path-d, u-path, path-u}
use Rattle.closure.proofs.Holding.{through-holds, stored-column}

-- ---- the marks, piece by piece

turned-about : (x y : ℕ) → eqb x y ≡ eqb y x
turned-about x y = same_truth _ _ (λ e. eq-eqb y x (sym (eqb-true x y e))) (λ e. eq-eqb x y (sym (eqb-true y x e)))

shuffle : (a b p q : Bool) → (((a || b) || p) || q) ≡ ((a || p) || (b || q))
shuffle true b p q = refl
shuffle false true p q = sym (or-true p)
shuffle false false p q = refl

module _ (void : ℕ → Bool) (k : ℕ) where
  -- one piece more on one side
  side : (y : ℕ) (z : Bool) → ((z && (ltb y k && void y)) || (void k && (z && eqb k y))) ≡ (z && (ltb y (k + 1) && void y))
  side y false = and-false (void k)
  side y true = pick (ℕ_discrete k y) (dec_lt y k)
    where
      pick : Dec (k ≡ y) → Dec (y < k) → ((ltb y k && void y) || (void k && eqb k y)) ≡ (ltb y (k + 1) && void y)
      pick (yes e) d = simp (le-ltb y k (omega arith), lt-ltb y (k + 1) (omega arith), eq-eqb k y e, and-true) (ap void e)
      pick (no e) (yes l) = simp (lt-ltb y k l, lt-ltb y (k + 1) (omega arith), ne_eqb k y e, and-false, or-false)
      pick (no e) (no l) = simp (le-ltb y k (omega arith), le-ltb y (k + 1) (omega arith), ne_eqb k y e, and-false)

  pub marked_more :
      (x y : ℕ) → ((marked_apart void k x y || (void k && (eqb 0 x && eqb k y))) || (void k && (eqb k x && eqb 0 y))) ≡ marked_apart void (k + 1) x y
  marked_more x y =
      shuffle (eqb x 0 && (ltb y k && void y)) (eqb y 0 && (ltb x k && void x)) (void k && (eqb 0 x && eqb k y)) (void k && (eqb k x && eqb 0 y))
      ∙ ap₂ ◌||◌
      (ap (λ (t : Bool). (eqb x 0 && (ltb y k && void y)) || (void k && (t && eqb k y))) (turned-about 0 x) ∙ side y (eqb x 0))
      (ap (λ (t : Bool). (eqb y 0 && (ltb x k && void x)) || (void k && t)) (and_comm (eqb k x) (eqb 0 y) ∙ ap (λ (t : Bool). t && eqb k x) (turned-about 0 y)) ∙ side x (eqb y 0))

-- ---- A

pub told-holds :
    (void : ℕ → Bool) (n : ℕ) (fs : List Fact) {x x' : List ℕ} → n ≤ 2048 → length x' ≡ 65536 → Holds n x (stored_bit fs 2 true true) → Grown x x' (marked_apart void n) → Holds n x' (apart_bit void n fs)
unfolding apart_bit
told-holds void n fs few z X G = record { sized = z; bits = λ a b la lb. G.bits a b (omega arith) lb ∙ ap (λ (t : Bool). t || marked_apart void n a b) (X.bits a b la lb) }

-- ---- U·A·D

module _ (void : ℕ → Bool) (n : ℕ) (fs : List Fact) (B : Bounded n fs) (z : void 0 ≡ false) (ok : clash void n fs ≡ false) where
  -- x is in u and y in v, and these are told apart
  record Told (x y : ℕ) : Type 0 where
    u : ℕ
    v : ℕ
    first : Path unmarked n fs x u
    second : Path unmarked n fs y v
    told : apart_bit void n fs u v ≡ true

  abbrev aparts : ℕ → ℕ → Bool
  aparts g k = storing fs 2 (turned (λ x y. inside n fs g x && inside n fs k y))

  shows : {g h : ℕ} → Path unmarked n fs g h → inside n fs g h ≡ true
  shows w = path-shows unmarked n fs B.within B.some w

  -- what is in a marked piece is marked
  held : {g k : ℕ} → Path unmarked n fs g k → void k ≡ true → void g ≡ true
  held {g} {k} w e = pick (known (void g))
    where
      pick : Known (void g) → void g ≡ true
      pick (is_true q) = q
      pick (is_false q) = absurd (false≢true (sym (without-marks z (neat void n fs B.within B.some z ok) q (with-marks w)).1 ∙ e))

  told-plain : (x y : ℕ) → Told x y → (void x || (void y || aparts x y)) ≡ true
  unfolding apart_bit fact_of
  told-plain x y T = pick (or-either _ _ T.told)
    where
      mark : ((eqb T.u 0 && (ltb T.v n && void T.v)) ≡ true) ⊎ ((eqb T.v 0 && (ltb T.u n && void T.u)) ≡ true) → (void x || (void y || aparts x y)) ≡ true
      mark (inl q) =
          let b = and_both (eqb T.u 0) (ltb T.v n && void T.v) q in
          right_or (void x) (left_or (aparts x y) (held T.second (and_both (ltb T.v n) (void T.v) b.1).1))
      mark (inr q) =
          let b = and_both (eqb T.v 0) (ltb T.u n && void T.u) q in
          left_or (void y || aparts x y) (held T.first (and_both (ltb T.u n) (void T.u) b.1).1)

      pick : (stored_bit fs 2 true true T.u T.v ≡ true) ⊎ (marked_apart void n T.u T.v ≡ true) → (void x || (void y || aparts x y)) ≡ true
      pick (inl q) = right_or (void x) (right_or (void y) (apart-hit fs (λ a b. inside n fs x a && inside n fs y b) (either-find fs 2 T.u T.v q) (both-and (shows T.first) (shows T.second))))
      pick (inr q) = mark (or-either _ _ q)

  plain-told : (x y : ℕ) → x < n → y < n → (void x || (void y || aparts x y)) ≡ true → Told x y
  unfolding apart_bit fact_of
  plain-told x y lx ly e = pick (or-either _ _ e)
    where
      stored : aparts x y ≡ true → Told x y
      stored q =
          let s = turned-find fs (λ a b. inside n fs x a && inside n fs y b) 2 q in
          let l = either-in unmarked n fs B.within B.some 2 (λ a b m. B.within _ m) s.2 in
          let b = and_both _ _ s.3 in
          record {
            u = s.0;
            v = s.1;
            first = shows-path unmarked n fs B.within B.some x s.0 lx l.0 b.0;
            second = shows-path unmarked n fs B.within B.some y s.1 ly l.1 b.1;
            told = left_or _ (either-hit fs 2 (λ b c. refl) s.2);
          }

      other : (void y ≡ true) ⊎ (aparts x y ≡ true) → Told x y
      other (inl q) =
          record {
            u = 0;
            v = y;
            first = top lx (here B.some);
            second = here ly;
            told = right_or (stored_bit fs 2 true true 0 y) (left_or _ (both-and (lt-ltb y n ly) q));
          }
      other (inr q) = stored q

      pick : (void x ≡ true) ⊎ ((void y || aparts x y) ≡ true) → Told x y
      pick (inl q) =
          record {
            u = x;
            v = 0;
            first = here lx;
            second = top ly (here B.some);
            told = right_or (stored_bit fs 2 true true x 0) (right_or (eqb x 0 && (ltb 0 n && void 0)) (both-and (lt-ltb x n lx) q));
          }
      pick (inr q) = other (or-either _ _ q)

  apart-column : (x y : ℕ) → n ≤ y → apart_bit void n fs x y ≡ false
  unfolding apart_bit
  apart-column x y l =
      let s = B.some in
      rw (stored-column n fs B.within 2 true true x y l, le-ltb y n l, ne_eqb y 0 (λ q. omega arith), and-false (eqb x 0))

  module _ {m d a a' a'' : List ℕ} (M : Holds n m (apart_bit void n fs)) (D : Holds n d (part_bit n fs)) (E : Blank n a) (X : Multiplied a a' m d n) (C : Carried (whole_bit n fs) n a' a'') where
    -- a bit of A·D
    middle : (u y : ℕ) → u < n → y < n → bit_of a' u y ≡ prod (apart_bit void n fs) (part_bit n fs) u y
    middle u y lu ly =
        let h = B.fits in
        X.row u y lu (omega arith)
        ∙ ap (λ (t : Bool). t || through m d u y) (E.bits u y lu (omega arith))
        ∙ through-holds M D u y lu (omega arith) (apart-column u)

    bit-told : (x y : ℕ) → x < n → y < n → bit_of a'' x y ≡ true → Told x y
    bit-told x y lx ly q =
        let h = B.fits in
        let s = prod-find (whole_bit n fs) (bit_of a') x y (sym (C.row x y lx (omega arith)) ∙ q) in
        let w = u-path n fs B.within B.some B.fits s.2 in
        let t = prod-find (apart_bit void n fs) (part_bit n fs) s.0 y (sym (middle s.0 y (path-above B.within w) ly) ∙ s.3) in
        record { u = s.0; v = t.0; first = w; second = d-path n fs B.within B.some B.fits t.3; told = t.2 }

    told-bit : (x y : ℕ) → x < n → y < n → Told x y → bit_of a'' x y ≡ true
    told-bit x y lx ly T =
        let h = B.fits in
        let lu = path-above B.within T.first in
        let lv = path-above B.within T.second in
        C.row x y lx (omega arith)
        ∙ prod-hit (whole_bit n fs) (bit_of a') x y T.u (omega arith) (path-u n fs B.within B.some B.fits T.first)
        (middle T.u y lu ly ∙ prod-hit (apart_bit void n fs) (part_bit n fs) T.u y T.v (omega arith) T.told (path-d n fs B.within B.some B.fits T.second))

    pub apart-holds : length a'' ≡ 65536 → Aparts void n fs a''
    unfolding plain
    apart-holds l =
        record {
          sized = l;
          bits = λ x y lx ly.
              same_truth _ _ (λ q. told-plain x y (bit-told x y lx ly q)) (λ q. told-bit x y lx ly (plain-told x y lx ly q))
              ∙ sym (follows-plain void n fs B.within B.some z ok (APART x y) (lx, ly));
        }
