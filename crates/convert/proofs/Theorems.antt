-- A converted book passes the rows in force, is consistent, and gives every claim the answer that it had. Assumes nothing.
use Rattle.std.specs.Prelude.{Ok}
use Prim.Native.Nat.{ℕ, ◌-◌, ◌≤◌, ◌<◌}
use mathlib.Core.Path.{◌≡◌, refl, sym, ap, subst, ◌∙◌, fun_ext}
use mathlib.Core.Logic.{◌⊎◌, inl, inr}
use mathlib.Core.Bool.{true, false, false≢true}
use mathlib.Core.List.Memᴰ
use mathlib.Core.List.{List, Memᴰ}
use native.Mathlib.Omega.{arith}
use lib.ListN.{get_or}
use Rattle.lists.proofs.Bools.{not-true}
use Rattle.rules.specs.Fact.{Fact, PART, fact_of, Within, AllWithin, unmarked}
use Rattle.rules.specs.Derives.{Contradictory}
use Rattle.rules.specs.Follows.{clash}
use Rattle.rules.specs.Verdict.{verdict}
use Rattle.rules.proofs.Models.{clash-iff}
use Rattle.rules.proofs.More.{Among, weaken-contradictory}
use Rattle.records.specs.declared.Record.{Record}
use Rattle.records.specs.declared.Edition.TheVariants.{Former, Current}
use Rattle.records.specs.Record.{record_at, records}
use Rattle.records.specs.Pieces.{stated, piece_count}
use Rattle.records.specs.Facts.{saying, facts}
use Rattle.records.specs.Kept.{picked}
use Rattle.records.specs.Marked.{marked}
use Rattle.records.specs.Rows.{order_row}
use Rattle.records.specs.Check.{former_check}
use Rattle.records.proofs.Rows.{Formed, admits-stated}
use Rattle.records.proofs.Keeps.{same-record, lets_pass, picked-from, picked-here, picked-among}
use Rattle.records.proofs.Accepted.{AcceptedBook, accepted-by, acceptable, accepted-within, accepted-positive, accepted-pieces, facts-within}
use Rattle.convert.specs.Converted.{no_tray, converted}
use Rattle.convert.specs.Same.{InForce, SameAnswers}
use Rattle.convert.proofs.Made.{speaks, Last, last-stated, last-largest, From, Made, made}
use Rattle.convert.proofs.Markless.{converted-markless}
use Rattle.convert.proofs.Answers.{Extended, still-consistent, same_answer}

module _ (s : List ℕ) (n : ℕ) (former : former_check s ≡ Ok n) (bytes : (k : ℕ) → get_or s k 0 < 256) where
  A : AcceptedBook Former s n
  A = accepted-by Former s n former

  M : Made s (converted s)
  M = made s A bytes

  -- ---- the rows in force

  last-formed : (m : ℕ) (r : Record) → Last m r → m ≤ 2047 → Formed Current r
  unfolding order_row
  last-formed m r L h =
      let k = L.kind in
      let o = L.origin in
      record {
        kind = admits-stated Current r (last-stated r L);
        known = omega arith;
        named = omega (arith, last-largest m r L);
        marking = λ e. absurd (omega arith);
        order = refl;
      }

  kept-formed : (r : Record) → Formed Former r → no_tray r ≡ true → Formed Current r
  unfolding order_row
  kept-formed r F t =
      record { kind = admits-stated Current r (speaks r F.kind t); known = F.known; named = F.named; marking = F.marking; order = refl }

  formed-in-force : (j : ℕ) → j < records (converted s) → Formed Current (record_at (converted s) j)
  formed-in-force j l = pick (M.from j l)
    where
      pick : From s (converted s) j → Formed Current (record_at (converted s) j)
      pick (inl (i, h, p, e)) = rw e (kept-formed (record_at s i) (A.each i h) p)
      pick (inr (h, L)) =
          let c = A.count in
          last-formed _ _ L (omega (arith, accepted-pieces A))

  pub accepted-in-force : AcceptedBook Current (converted s) (piece_count s)
  accepted-in-force =
      record {
        few = omega (arith, M.few, A.few);
        whole = M.whole;
        count = sym M.count;
        each = formed-in-force;
        new = λ i j l k. not-true _ (λ e. M.once i j l k (same-record (converted s) i j e));
      }

  -- it marks nothing
  converted-unmarked : marked (converted s) ≡ unmarked
  converted-unmarked = fun_ext (converted-markless s n former bytes)

  -- ---- the facts of either book that a claim picks

  module _ (claim : Record) where
    picked-to : Among (facts (picked s claim)) (facts (picked (converted s) claim))
    picked-to f m =
        let a = picked-from s claim f m in
        let b = M.there a.0 a.1 a.3 in
        Memᴰ.cast (sym (ap saying b.2 ∙ a.4))
        (picked-here (converted s) claim b.0 b.1 (ap (lets_pass claim) b.2 ∙ a.2) (ap stated b.2 ∙ a.3))

    last_says : (m : ℕ) (r : Record) → Last m r → saying r ≡ PART m 0
    unfolding fact_of
    last_says m r L = rw (L.kind, L.a, L.b)

    picked-back : Extended (facts (picked s claim)) (facts (picked (converted s) claim))
    picked-back g m = let a = picked-from (converted s) claim g m in pick a.0 a.2 a.3 a.4 (M.from a.0 a.1)
      where
        pick :
            (j : ℕ) → lets_pass claim (record_at (converted s) j) ≡ true → stated (record_at (converted s) j) ≡ true → saying (record_at (converted s) j) ≡ g → From s (converted s) j
            → Memᴰ g (facts (picked s claim)) ⊎ ((m : ℕ) × (g ≡ PART m 0))
        pick j t d e (inl (i, l, p, q)) =
            inl (Memᴰ.cast (sym (ap saying (sym q) ∙ e)) (picked-here s claim i l (ap (lets_pass claim) (sym q) ∙ t) (ap stated (sym q) ∙ d)))
        pick j t d e (inr (h, L)) = inr (piece_count s - 1, sym e ∙ last_says _ _ L)

    -- where the former book is consistent
    module _ (ok : Contradictory unmarked n (facts s) → ⊥) where
      within-former : AllWithin n (facts (picked s claim))
      within-former f m = accepted-within A f (picked-among s claim f m)

      within_new : AllWithin n (facts (picked (converted s) claim))
      within_new f m = subst (λ (k : ℕ). Within k f) (M.count ∙ sym A.count) (facts-within (converted s) f (picked-among (converted s) claim f m))

      picked-consistent : Contradictory unmarked n (facts (picked s claim)) → ⊥
      picked-consistent c = ok (weaken-contradictory (omega arith) (picked-among s claim) c)

      new-consistent : Contradictory unmarked n (facts (picked (converted s) claim)) → ⊥
      new-consistent =
          still-consistent n (facts (picked s claim)) (facts (picked (converted s) claim)) within-former within_new (accepted-positive A) picked-to picked-back picked-consistent

      new-answer : (f : Fact) → Within n f → verdict unmarked n (facts (picked (converted s) claim)) f ≡ verdict unmarked n (facts (picked s claim)) f
      new-answer =
          same_answer n (facts (picked s claim)) (facts (picked (converted s) claim)) within-former within_new (accepted-positive A) picked-to picked-back picked-consistent

  module _ (free : false ≡ clash unmarked n (facts s)) where
    consistent : Contradictory unmarked n (facts s) → ⊥
    consistent c = false≢true (free ∙ (clash-iff unmarked n (facts s) (accepted-within A) (accepted-positive A) refl).1 c)

    -- a claim that picks all facts
    abbrev any-claim : Record
    any-claim = record { kind = 1; origin = 0; a = 0; b = 0 }

    pub in-force : InForce s (converted s)
    unfolding picked
    in-force =
        record {
          sound = acceptable Current (converted s) (piece_count s) accepted-in-force;
          counted = M.count;
          consistent = λ c. new-consistent any-claim consistent (rw (M.count, ← A.count, converted-unmarked) at c);
        }

    pub same-answers : SameAnswers s (converted s)
    same-answers claim w = rw (M.count, ← A.count, converted-unmarked) (new-answer claim consistent (saying claim) (rw (← A.count) at w))
