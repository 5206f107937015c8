-- The same records in another order: every call comes to the same. Assumes nothing.
use Rattle.std.specs.Prelude.{Err, Ok}
use Rattle.records.specs.Refused.{ClaimsCheck, refused_at}
use Rattle.outcomes.specs.Accepted.{Outcome, accepted_with}
use Prim.Native.Nat.{ℕ, ◌-◌, ◌<◌}
use mathlib.Core.Path.{◌≡◌, refl, sym, ap, ◌∙◌, fun_ext}
use mathlib.Core.Logic.{◌⊎◌, inl, inr}
use mathlib.Core.Bool.{Bool, true, false, false≢true}
use mathlib.Core.List.{List}
use native.Mathlib.Omega.{arith}
use native.Mathlib.Decide.{dec_lt}
use borrow.Author.Tests.{le-leb, lt-leb}
use lib.ListN.{length}
use Rattle.lists.proofs.Bools.{Known, is_true, is_false, known, same_truth}
use Rattle.lists.proofs.Tabs.{tab-same}
use Rattle.rules.specs.Follows.{clash}
use Rattle.rules.specs.Entries.{shortest_clash}
use Rattle.rules.specs.Verdict.{verdict}
use Rattle.rules.proofs.More.{same-clash, same-verdict}
use Rattle.records.specs.Record.{record_at, records}
use Rattle.records.specs.Marked.{marked}
use Rattle.records.specs.Reordered.{Reordered}
use Rattle.records.specs.Facts.{entries, facts}
use Rattle.records.specs.Check.{book_check, claims_check}
use Rattle.records.specs.declared.Refusal.TheVariants.{Contradiction}
use Rattle.records.proofs.Accepted.{accepted-claims}
use Rattle.records.proofs.Marks.{marked-moved}
use Rattle.records.proofs.Keeps.{picked-among}
use Rattle.records.proofs.Orders.{facts-found, picked-found, found-moved, found_back, reordered-accepted}
use Rattle.groups.specs.Index.{book_visits}
use Rattle.index.specs.Parts as on
use Rattle.records.specs.PartIn.{part_in}
use Rattle.contradiction.proofs.FactIndex.{part-stored, stored-part}
use Rattle.contradiction.proofs.SettlingLaws.{settleable, whole-unmarked, free-beyond, beyond-free}
use Rattle.outcomes.specs.Lent.{Lent, short_lent}
use Rattle.outcomes.specs.Outcome.{number}
use Rattle.records.specs.Claimed.{claimed, picked_facts, answers_to}
use Rattle.outcomes.specs.Call.{pairs_of, by_runs, by_claims, by_book, outcome, indexed, left}
use Rattle.outcomes.specs.Order.{OrderFree}

-- row 14 looks at the facts alone: only its place turns on their order
module _ (s : List ℕ) (n : ℕ) (sound : book_check s ≡ Ok n) where
  runs-clash : clash (marked s) n (facts s) ≡ true → by_runs s n ≡ refused_at Contradiction (shortest_clash (marked s) n (entries s) - 1)
  unfolding by_runs
  runs-clash e = pick (dec_lt (records s) (shortest_clash (marked s) n (entries s)))
    where
      pick : Dec (records s < shortest_clash (marked s) n (entries s)) → by_runs s n ≡ refused_at Contradiction (shortest_clash (marked s) n (entries s) - 1)
      pick (yes h) = absurd (false≢true (beyond-free s (settleable s n sound).bounded (marked s) (whole-unmarked s n sound) h ∙ e))
      pick (no h) = rw (le-leb (shortest_clash (marked s) n (entries s)) (records s) (omega arith), by_runs)

  runs-free : clash (marked s) n (facts s) ≡ false → by_runs s n ≡ accepted_with n (length (book_visits n (pairs_of s))) (length (on.shadows (book_visits n (pairs_of s))))
  unfolding by_runs
  runs-free e = rw (lt-leb (shortest_clash (marked s) n (entries s)) (records s) (free-beyond s (settleable s n sound).bounded (marked s) (whole-unmarked s n sound) (sym e)), by_runs)

-- the facts of t are those of s, and so are those that a claim picks, and the marks
module _ (s t : List ℕ) (R : Reordered s t) (n : ℕ) (sound : book_check s ≡ Ok n) where
  sound' : book_check t ≡ Ok n
  sound' = reordered-accepted s t R n sound

  same-marks : marked t ≡ marked s
  same-marks = marked-moved s t R

  same-clashes : clash (marked s) n (facts s) ≡ clash (marked t) n (facts t)
  same-clashes =
      let S = (settleable s n sound).bounded in
      same-clash (marked s) n (facts s) (facts t) S.within (settleable t n sound').bounded.within S.some (whole-unmarked s n sound) (facts-found s t (found-moved s t R)) (facts-found t s (found_back s t R))
      ∙ ap (λ (void : ℕ → Bool). clash void n (facts t)) (sym same-marks)

  same-pairs : pairs_of s ≡ pairs_of t
  same-pairs =
      fun_ext (λ p. fun_ext (λ c.
      same_truth (part_in (facts s) p c) (part_in (facts t) p c)
      (λ e. stored-part (facts t) p c (facts-found s t (found-moved s t R) _ (part-stored (facts s) p c e)))
      (λ e. stored-part (facts s) p c (facts-found t s (found_back s t R) _ (part-stored (facts t) p c e)))))

  module _ (cs : List ℕ) (fit : claims_check n cs ≡ Ok tt) where
    same_answer : (i : ℕ) → i < records cs → verdict (marked s) n (picked_facts s cs i) (claimed cs i) ≡ verdict (marked t) n (picked_facts t cs i) (claimed cs i)
    unfolding claimed
    same_answer i l =
        let r = record_at cs i in
        let S = (settleable s n sound).bounded in
        let T = (settleable t n sound').bounded in
        same-verdict (marked s) n (picked_facts s cs i) (picked_facts t cs i) (λ f m. S.within f (picked-among s r f m)) (λ f m. T.within f (picked-among t r f m)) S.some (whole-unmarked s n sound)
        (picked-found s t (found-moved s t R) r) (picked-found t s (found_back s t R) r) (claimed cs i) ((accepted-claims n cs fit).within i l)
        ∙ ap (λ (void : ℕ → Bool). verdict void n (picked_facts t cs i) (claimed cs i)) (sym same-marks)

    same-answers : answers_to s n cs ≡ answers_to t n cs
    unfolding answers_to
    same-answers = tab-same _ _ 0 (records cs) (λ i k l. same_answer i (omega arith))

    same-indexed : (l : Lent) → indexed s cs n l ≡ indexed t cs n l
    unfolding indexed
    same-indexed l = rw (same-pairs, same-answers)

  module _ (cs : List ℕ) (l : Lent) where
    abbrev Same : Outcome → Outcome → Type 0
    Same x y = ((x ≡ y) ⊎ ((number x ≡ 14) × (number y ≡ 14))) × (left s cs l x ≡ left t cs l y)

    same_runs : claims_check n cs ≡ Ok tt → Same (by_runs s n) (by_runs t n)
    unfolding left
    same_runs fit = pick (known (clash (marked s) n (facts s)))
      where
        pick : Known (clash (marked s) n (facts s)) → Same (by_runs s n) (by_runs t n)
        pick (is_true e) = rw (runs-clash s n sound e, runs-clash t n sound' (sym same-clashes ∙ e)) (inr (refl, refl), refl)
        pick (is_false e) = rw (runs-free s n sound e, runs-free t n sound' (sym same-clashes ∙ e), same-pairs) (inl refl, same-indexed cs fit l)

    same-claims : (c : ClaimsCheck) → claims_check n cs ≡ c → Same (by_claims s n c) (by_claims t n c)
    unfolding by_claims left
    same-claims (Ok _) e = same_runs e
    same-claims (Err r) e = (inl refl, refl)

    same-calls : Same (outcome s cs l) (outcome t cs l)
    unfolding outcome by_book left
    same-calls = pick (known (short_lent cs l))
      where
        pick : Known (short_lent cs l) → Same (outcome s cs l) (outcome t cs l)
        pick (is_true e) = rw (e, outcome) (inl refl, refl)
        pick (is_false e) = rw (e, outcome, sound, sound', by_book) (same-claims (claims_check n cs) refl)

pub order-free : OrderFree
order-free s t R n e = (
  reordered-accepted s t R n e,
  λ cs l. let c = same-calls s t R n e cs l in record { outcomes = c.0; buffers = c.1 },
)
