-- The records of two books together: what stands in the joint run, that a shared record may stand twice, and what it is about. Assumes nothing.
use Rattle.std.specs.Prelude.{Ok}
use Prim.Native.Nat.{ℕ, max, ◌+◌, ◌-◌, ◌*◌, ◌≤◌, ◌<◌}
use mathlib.Core.Path.{◌≡◌, sym, ap, ap₂, subst, ◌∙◌, fun_ext}
use mathlib.Core.Logic.{◌⊎◌, inl, inr}
use mathlib.Core.Bool.{Bool, true, false, not, ◌&&◌}
use mathlib.Core.List.{List, ◌++◌, Memᴰ}
use native.Mathlib.Omega.{arith}
use native.Mathlib.Decide.{dec_lt}
use borrow.Author.Tests.{eqb-true}
use lib.Dec.{eqb}
use lib.ListN.{length, length-append}
use Rattle.lists.proofs.Bools.{and_both, same_truth, Known, is_true, is_false, known}
use Rattle.lists.proofs.Anys.{below-find}
use Rattle.rules.specs.Fact.{Fact, Within, AllWithin}
use Rattle.rules.specs.Follows.{clash}
use Rattle.rules.proofs.More.{same-clash}
use Rattle.records.specs.declared.Record.{Record}
use Rattle.records.specs.Record.{record_at, records}
use Rattle.records.specs.Pieces.{stated}
use Rattle.records.specs.Facts.{saying, facts}
use Rattle.records.specs.Kept.{kept}
use Rattle.records.specs.Marked.{marked}
use Rattle.records.specs.Check.{book_check}
use Rattle.records.proofs.Runs.{fact-here, fact-from}
use Rattle.records.proofs.Keeps.{kept-records, kept_from, record-there}
use Rattle.records.proofs.Orders.{Found, record-early, record-late, found_before, found-behind, found-both, found-through, facts-found}
use Rattle.records.proofs.Marks.{marked-found, marked_append}
use Rattle.records.proofs.Accepted.{accepted, accepted-within}
use Rattle.compare.specs.Joint.{pieces, same, has, joint_run, either_marked}

-- ---- the joint run and the two runs one behind the other have the same records

same-equal : (q r : Record) → same q r ≡ true → q ≡ r
unfolding same
same-equal q r t =
    let a = and_both (eqb q.kind r.kind && eqb q.origin r.origin) _ t in
    let b = and_both (eqb q.kind r.kind) _ a.0 in
    let c = and_both (eqb q.a r.a) _ a.1 in
    rw (eqb-true q.kind r.kind b.0, eqb-true q.origin r.origin b.1, eqb-true q.a r.a c.0, eqb-true q.b r.b c.1)

module _ (s t : List ℕ) (w : length s ≡ 6 * records s) where
  -- a record that s has not
  abbrev new : Record → Bool
  new r = not (has s r)

  has-found : (r : Record) → has s r ≡ true → (i : ℕ) × (i < records s) × (record_at s i ≡ r)
  unfolding has
  has-found r e = let f = below-find (λ i. same (record_at s i) r) (records s) e in (f.0, f.1, same-equal (record_at s f.0) r f.2)

  second-found : Found t (joint_run s t)
  unfolding joint_run
  second-found i l = pick (known (has s (record_at t i)))
    where
      pick : Known (has s (record_at t i)) → (j : ℕ) × (j < records (joint_run s t)) × (record_at (joint_run s t) j ≡ record_at t i)
      pick (is_true e) =
          let f = has-found (record_at t i) e in
          let a = found_before s (kept new t) w f.0 f.1 in
          (a.0, a.1, a.2 ∙ f.2)
      pick (is_false e) =
          let b = record-there new t (records t) (omega arith) i l (ap not e) in
          let a = found-behind s (kept new t) w b.0 (omega (arith, b.1, kept-records new t)) in
          (a.0, a.1, a.2 ∙ b.2)

  kept-found : Found (kept new t) t
  kept-found j l = let a = kept_from new t j l in (a.0, a.1, sym a.3)

  to-joint : Found (s ++ t) (joint_run s t)
  unfolding joint_run
  to-joint = found-both s t w (joint_run s t) (found_before s (kept new t) w) second-found

  from-joint : Found (joint_run s t) (s ++ t)
  unfolding joint_run
  from-joint = found-both s (kept new t) w (s ++ t) (found_before s t w) (found-through (kept new t) t (s ++ t) kept-found (found-behind s t w))

  -- the same marks
  pub joint-marked : marked (joint_run s t) ≡ marked (s ++ t)
  joint-marked = fun_ext (λ g. same_truth _ _ (marked-found (joint_run s t) (s ++ t) from-joint g) (marked-found (s ++ t) (joint_run s t) to-joint g))

  pub either-marked : marked (s ++ t) ≡ either_marked s t
  either-marked = fun_ext (λ g. marked_append s t w g)

  -- a fact of both is a fact of one
  pub fact-split : (f : Fact) → Memᴰ f (facts (s ++ t)) → Memᴰ f (facts s) ⊎ Memᴰ f (facts t)
  fact-split f m = let a = fact-from (s ++ t) f m in pick a.0 a.1 a.2 a.3 (dec_lt a.0 (records s))
    where
      pick :
          (i : ℕ) → i < records (s ++ t) → stated (record_at (s ++ t) i) ≡ true → saying (record_at (s ++ t) i) ≡ f → Dec (i < records s)
          → Memᴰ f (facts s) ⊎ Memᴰ f (facts t)
      pick i l d q (yes h) =
          let e = record-early s t w i h in
          inl (subst (λ (g : Fact). Memᴰ g (facts s)) (ap saying (sym e) ∙ q) (fact-here s i h (ap stated (sym e) ∙ d)))
      pick i l d q (no h) =
          let k : records s + (i - records s) ≡ i = omega arith in
          let e : record_at t (i - records s) ≡ record_at (s ++ t) i = sym (record-late s t w (i - records s)) ∙ ap (record_at (s ++ t)) k in
          inr (subst (λ (g : Fact). Memᴰ g (facts t)) (ap saying e ∙ q) (fact-here t (i - records s) (omega (arith, length-append s t)) (ap stated e ∙ d)))

  module _ (n : ℕ) (p : 0 < n) (z : marked (s ++ t) 0 ≡ false) (i : AllWithin n (facts (s ++ t))) where
    joint-within : AllWithin n (facts (joint_run s t))
    joint-within f m = i f (facts-found (joint_run s t) (s ++ t) from-joint f m)

    -- whether a shared record stands once or twice
    pub joint-clash : clash (marked (s ++ t)) n (facts (s ++ t)) ≡ clash (marked (joint_run s t)) n (facts (joint_run s t))
    joint-clash =
        rw joint-marked
        (same-clash (marked (s ++ t)) n (facts (s ++ t)) (facts (joint_run s t)) i joint-within p z (facts-found (s ++ t) (joint_run s t) to-joint) (facts-found (joint_run s t) (s ++ t) from-joint))

-- ---- two accepted books

module _ (s t : List ℕ) (a b : ℕ) (first : book_check s ≡ Ok a) (second : book_check t ≡ Ok b) where
  whole : length s ≡ 6 * records s
  whole = (accepted s a first).whole

  pub joint-pieces : max a b ≡ pieces s t
  joint-pieces = ap₂ max (accepted s a first).count (accepted t b second).count

  pub short-books : (length s ≤ 49152) × (length t ≤ 49152)
  short-books =
      let A = accepted s a first in
      let B = accepted t b second in
      (omega (arith, A.few, A.whole), omega (arith, B.few, B.whole))

  pub within : AllWithin (max a b) (facts (s ++ t))
  within f m = pick (fact-split s t whole f m)
    where
      pick : Memᴰ f (facts s) ⊎ Memᴰ f (facts t) → Within (max a b) f
      pick (inl h) = let c = accepted-within (accepted s a first) f h in (omega (arith, c.0), omega (arith, c.1))
      pick (inr h) = let c = accepted-within (accepted t b second) f h in (omega (arith, c.0), omega (arith, c.1))
