-- One entry against those before it, one after the other. Assumes nothing.
use Prim.Native.Nat.{ℕ, zero, suc, ◌+◌, ◌<◌, ◌≤◌}
use mathlib.Core.Path.{◌≡◌, refl, sym, ap, ap₂, ◌∙◌}
use mathlib.Core.Bool.{Bool, true, false, not, ◌&&◌, ◌||◌, and-true}
use mathlib.Core.List.{List}
use native.Mathlib.Numerals.{add-one}
use native.Mathlib.Omega.{arith}
use borrow.Author.Tests.{lt-ltb, le-ltb, le-leb, lt-leb, ltb-true, ltb-false, leb-true, leb-false}
use lib.Dec.{ltb, leb}
use lib.ListN.{get_or}
use Rattle.lists.specs.Any.{any_below}
use Rattle.lists.specs.Tally.{num, tally}
use Rattle.lists.proofs.Bools.{Known, is_true, is_false, known}
use Rattle.replicates.specs.declared.windows.Seen.{Seen}
use Rattle.replicates.specs.Before.{oldest, apart_before, clear}
use Rattle.replicates.specs.Looking.{seeing, Looked}

tally-next : (p : ℕ → Bool) (j : ℕ) → tally p (j + 1) ≡ num (p j) + tally p j
unfolding tally
tally-next p j = ap (tally p) (add-one j)

any_next : (p : ℕ → Bool) (j : ℕ) → any_below p (j + 1) ≡ (p j || any_below p j)
unfolding any_below
any_next p j = ap (any_below p) (add-one j)

pub tally-none : (p : ℕ → Bool) (m : ℕ) → ((x : ℕ) → x < m → p x ≡ false) → tally p m ≡ 0
unfolding tally
tally-none p zero h = refl
tally-none p (suc m) h = ap₂ (λ (a : Bool) (b : ℕ). num a + b) (h m (omega arith)) (tally-none p m (λ x l. h x (omega arith)))

pub any_none : (p : ℕ → Bool) (m : ℕ) → ((x : ℕ) → x < m → p x ≡ false) → any_below p m ≡ false
unfolding any_below
any_none p zero h = refl
any_none p (suc m) h = ap₂ ◌||◌ (h m (omega arith)) (any_none p m (λ x l. h x (omega arith)))

pub turned-about : (a b : ℕ) → not (ltb a b) ≡ leb b a
turned-about a b = pick (known (ltb a b))
  where
    pick : Known (ltb a b) → not (ltb a b) ≡ leb b a
    pick (is_true e) = rw e (sym (lt-leb b a (ltb-true a b e)))
    pick (is_false e) = rw e (sym (le-leb b a (ltb-false a b e)))

shut : (b : Bool) → (b && false) ≡ false
shut true = refl
shut false = refl

module _ (R : ℕ → ℕ → Bool) (xs : List ℕ) (q : ℕ) where
  -- the entries from the oldest on and before j are looked at
  pub record Looking (j apart from : ℕ) : Type 0 where
    pub count : apart ≡ tally (λ i. leb (oldest q) i && R (get_or xs i 0) (get_or xs q 0)) j
    pub few : apart + oldest q ≤ j
    pub blocked : (low : ℕ) → oldest q ≤ low → any_below (λ i. leb low i && not (R (get_or xs i 0) (get_or xs q 0))) j ≡ ltb low from
    pub high : from ≤ j

  pub look_none : (oldest q ≤ q) → Looking (oldest q) 0 (oldest q)
  look_none l =
      record {
        count = sym (tally-none _ (oldest q) (λ x m. rw (lt-leb (oldest q) x m)));
        few = omega arith;
        blocked = λ low m. any_none _ (oldest q) (λ x k. rw (lt-leb low x (omega arith))) ∙ sym (le-ltb low (oldest q) m);
        high = omega arith;
      }

  module _ {j apart from : ℕ} (l : Looking j apart from) (o : oldest q ≤ j) where
    look-apart : R (get_or xs j 0) (get_or xs q 0) ≡ true → Looking (j + 1) (apart + 1) from
    look-apart e =
        record {
          count = ap (λ (k : ℕ). k + 1) l.count ∙ sym (tally-next _ j ∙ rw (e, le-leb (oldest q) j o) (omega arith));
          few = omega (arith, l.few);
          blocked = λ low m. any_next _ j ∙ rw (e, shut (leb low j)) (l.blocked low m);
          high = omega (arith, l.high);
        }

    look-met : R (get_or xs j 0) (get_or xs q 0) ≡ false → Looking (j + 1) apart (j + 1)
    look-met e =
        record {
          count = l.count ∙ sym (tally-next _ j ∙ rw (e, shut (leb (oldest q) j)) (omega arith));
          few = omega (arith, l.few);
          blocked = λ low m. any_next _ j ∙ rw (e, and-true (leb low j), l.blocked low m) (pick low (known (leb low j)));
          high = omega arith;
        }
      where
        pick : (low : ℕ) → Known (leb low j) → (leb low j || ltb low from) ≡ ltb low (j + 1)
        pick low (is_true t) = rw t (sym (lt-ltb low (j + 1) (omega (arith, leb-true low j t))))
        pick low (is_false t) =
            rw (t, le-ltb low from (omega (arith, leb-false low j t, l.high))) (sym (le-ltb low (j + 1) (omega (arith, leb-false low j t))))

    pub look-more : (s : Seen) (b : Bool) → s.apart ≡ apart → s.from ≡ from → b ≡ R (get_or xs j 0) (get_or xs q 0) → Looking (j + 1) (seeing s j b).apart (seeing s j b).from
    look-more s true e f t = rw (e, f) (look-apart (sym t))
    look-more s false e f t = rw e (look-met (sym t))

  pub look-all : (r : Seen) → Looking q r.apart r.from → Looked R xs q r
  unfolding apart_before clear
  look-all r l =
      record {
        count = l.count;
        from = λ low m. ap not (l.blocked low (omega arith)) ∙ turned-about low r.from;
        small = l.high;
      }
