-- The shortest contradictory run of a book by halving. Assumes nothing.
use Prim.Native.Nat.{ℕ, ◌+◌, ◌*◌, ◌/◌, ◌<◌, ◌≤◌}
use mathlib.Core.Path.{◌≡◌, sym, ap, ◌∙◌}
use mathlib.Core.Bool.{Bool, true, false, false≢true}
use mathlib.Core.List.{List, [], ◌∷◌}
use native.Mathlib.Decide.{ℕ_discrete}
use native.Mathlib.Omega.{arith}
use lib.ListN.{length, take}
use lib.Seq.{take-length}
use Rattle.lists.proofs.Bools.{not-true}
use Rattle.rules.specs.Follows.{clash}
use Rattle.rules.specs.Entries.{Entry, fact, none, facts_of, shortest_clash}
use Rattle.rules.proofs.More.{Among}
use Rattle.rules.proofs.Runs.{run-among, nothing-clashes, clash-grows, shortest-at}
use Rattle.records.specs.Facts.{entries, facts}
use Rattle.records.proofs.Runs.{entries-length, run-entries}
use Rattle.closure.specs.Bounded.{Bounded}
use Rattle.contradiction.specs.Roomy.{Roomy}

-- ---- what a run from the start keeps of the whole

module _ (s : List ℕ) (k : ℕ) (fits : 6 * k ≤ length s) where
  run-facts : facts (take (6 * k) s) ≡ facts_of (take k (entries s))
  run-facts = ap facts_of (run-entries s k fits)

  run_of : Among (facts (take (6 * k) s)) (facts s)
  run_of f m = run-among (entries s) k (rw entries-length (omega arith)) f (rw run-facts at m)

  pub run-bounded : {n : ℕ} → Bounded n (facts s) → Bounded n (facts (take (6 * k) s))
  run-bounded B = record { some = B.some; fits = B.fits; within = λ f m. B.within f (run_of f m) }

-- the same lengths
pub roomy-same :
    {n k b mb sc pc b' mb' sc' pc' : ℕ} → b' ≡ b → mb' ≡ mb → sc' ≡ sc → pc' ≡ pc → Roomy n k b mb sc pc → Roomy n k b' mb' sc' pc'
roomy-same e f g h R =
    record {
      few = R.few;
      parens = omega (arith, R.parens);
      marks = omega (arith, R.marks);
      shadows = omega (arith, R.shadows);
      places = omega (arith, R.places);
    }

-- no more facts than records
facts-few : (es : List Entry) → length (facts_of es) ≤ length es
unfolding facts_of
facts-few [] = omega arith
facts-few (fact f ∷ es) = omega (arith, facts-few es)
facts-few (none ∷ es) = omega (arith, facts-few es)

pub facts-roomy : (s : List ℕ) (n b mb sc pc : ℕ) → Roomy n (length s / 6) b mb sc pc → Roomy n (length (facts s)) b mb sc pc
facts-roomy s n b mb sc pc R =
    let e = facts-few (entries s) in
    let z = entries-length s in
    record {
      few = omega (arith, R.few);
      parens = omega (arith, R.parens);
      marks = omega (arith, R.marks);
      shadows = omega (arith, R.shadows);
      places = R.places;
    }

-- ---- the halving

-- the run of `high` records is contradictory and that of `low` is not
pub record Halving (void : ℕ → Bool) (n : ℕ) (s : List ℕ) (low high : ℕ) : Type 0 where
  pub order : low < high
  pub upto : high ≤ length s / 6
  pub free : clash void n (facts_of (take low (entries s))) ≡ false
  pub hit : clash void n (facts_of (take high (entries s))) ≡ true

module _ (void : ℕ → Bool) (n : ℕ) (s : List ℕ) where
  whole : clash void n (facts s) ≡ true → clash void n (facts_of (take (length s / 6) (entries s))) ≡ true
  whole e = ap (λ (k : ℕ). clash void n (facts_of (take k (entries s)))) (sym (entries-length s)) ∙ ap (λ (es : List Entry). clash void n (facts_of es)) (take-length (entries s)) ∙ e

  pub halving-start : Bounded n (facts s) → void 0 ≡ false → clash void n (facts s) ≡ true → Halving void n s 0 (length s / 6)
  unfolding facts_of
  halving-start B z e =
      record {
        order =
            elim (ℕ_discrete (length s / 6) 0) [
              | yes q ↦ absurd (false≢true (sym (nothing-clashes void n B.some z) ∙ ap (λ (k : ℕ). clash void n (facts_of (take k (entries s)))) (sym q) ∙ whole e))
              | no q ↦ omega arith
            ];
        upto = omega arith;
        free = nothing-clashes void n B.some z;
        hit = whole e;
      }

  module _ (low high mid : ℕ) (H : Halving void n s low high) (v : Bool) (is : v ≡ clash void n (facts (take (6 * mid) s))) where
    told : mid ≤ length s / 6 → clash void n (facts_of (take mid (entries s))) ≡ v
    told l = sym (is ∙ ap (clash void n) (run-facts s mid (omega arith)))

    pub halving-high : low < mid → mid < high → v ≡ true → Halving void n s low mid
    halving-high l h e = record { order = l; upto = omega (arith, H.upto); free = H.free; hit = told (omega (arith, H.upto)) ∙ e }

    pub halving-low : low < mid → mid < high → v ≡ false → Halving void n s mid high
    halving-low l h e = record { order = h; upto = H.upto; free = told (omega (arith, H.upto)) ∙ e; hit = H.hit }

  pub halving-done : (low high : ℕ) → Bounded n (facts s) → void 0 ≡ false → high ≤ low + 1 → Halving void n s low high → low + 1 ≡ shortest_clash void n (entries s)
  halving-done low high B z l H =
      let e : high ≡ low + 1 = omega (arith, H.order) in
      let w = entries-length s in
      sym
      (shortest-at void n (entries s) B.within B.some z high (omega (arith, H.upto)) H.hit
      (λ j k. not-true _ (λ t. false≢true (sym H.free ∙ clash-grows void n (entries s) B.within B.some z j low (omega arith) (omega (arith, H.upto)) t)))
      ∙ e)
