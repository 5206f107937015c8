-- A converted book in the calls in force: accepted with any claims and buffers that fit, and the answers are those of the former book. Assumes nothing.
use Rattle.std.specs.Prelude.{Ok}
use Prim.Native.Nat.{ℕ, ◌<◌}
use mathlib.Core.Path.{◌≡◌, sym, ap, ◌∙◌, fun_ext}
use mathlib.Core.Bool.{false}
use mathlib.Core.List.{List}
use native.Mathlib.Omega.{arith}
use borrow.Author.Tests.{lt-leb}
use lib.Seq.{ext_get_or}
use Rattle.lists.proofs.Bools.{not-true}
use Rattle.lists.proofs.Tabs.{tab-at, tab-length}
use Rattle.rules.specs.Fact.{unmarked}
use Rattle.rules.specs.Follows.{clash}
use Rattle.rules.specs.Entries.{shortest_clash}
use Rattle.rules.specs.Verdict.{verdict}
use Rattle.rules.proofs.Models.{clash-iff}
use Rattle.records.specs.Record.{record_at, records}
use Rattle.records.specs.Pieces.{piece_count}
use Rattle.records.specs.Facts.{entries, facts}
use Rattle.records.specs.Marked.{marked}
use Rattle.records.specs.Check.{former_check, claims_check}
use Rattle.records.proofs.Accepted.{accepted-claims}
use Rattle.contradiction.proofs.SettlingLaws.{settleable, whole-unmarked, free-beyond}
use Rattle.outcomes.specs.Lent.{Lent, short_lent}
use Rattle.records.specs.Claimed.{picked_facts, claimed, answers_to}
use Rattle.outcomes.specs.Call.{by_runs, outcome}
use Rattle.outcomes.specs.Outcome.{number}
use Rattle.outcomes.proofs.Outcomes.{passed-outcome}
use Rattle.convert.specs.Same.{InForce, SameAnswers}
use Rattle.convert.specs.Called.{ConvertedAccepted, ConvertedAnswers}
use Rattle.convert.proofs.Markless.{former-markless}

module _ (s t cs : List ℕ) (l : Lent) (F : InForce s t) (lent : short_lent cs l ≡ false) (fit : claims_check (piece_count s) cs ≡ Ok tt) where
  free : false ≡ clash (marked t) (piece_count s) (facts t)
  free =
      let S = settleable t (piece_count s) F.sound in
      sym (not-true _ (λ e. F.consistent (rw F.counted ((clash-iff (marked t) (piece_count s) (facts t) S.bounded.within S.bounded.some (whole-unmarked t (piece_count s) F.sound)).0 e))))

  is-accepted : number (outcome t cs l) ≡ 0
  unfolding by_runs
  is-accepted =
      ap number (passed-outcome t cs l (piece_count s) (record { lent = lent; sound = F.sound; fit = fit }))
      ∙ rw (lt-leb (shortest_clash (marked t) (piece_count s) (entries t)) (records t) (free-beyond t (settleable t (piece_count s) F.sound).bounded (marked t) (whole-unmarked t (piece_count s) F.sound) free), by_runs)

  module _ (former : former_check s ≡ Ok (piece_count s)) (same : SameAnswers s t) where
    at : ℕ → List ℕ → ℕ
    at i u = verdict (marked u) (piece_count s) (picked_facts u cs i) (claimed cs i)

    -- the former book marks nothing
    silent : unmarked ≡ marked s
    silent = sym (fun_ext (former-markless s (piece_count s) former))

    at_same : (i : ℕ) → i < records cs → at i t ≡ at i s
    unfolding at claimed
    at_same i h = rw (F.counted, silent) at (same (record_at cs i) ((accepted-claims (piece_count s) cs fit).within i h))

    same-answers : answers_to t (piece_count s) cs ≡ answers_to s (piece_count s) cs
    unfolding answers_to at
    same-answers =
        let long : (u : List ℕ) → _ = λ u. tab-length (λ i. at i u) 0 (records cs) in
        ext_get_or 0 _ _ (long t ∙ sym (long s))
        (λ i h.
        let k : i < records cs = omega (arith, long t) in
        tab-at (λ i. at i t) (records cs) i 0 k ∙ at_same i k ∙ sym (tab-at (λ i. at i s) (records cs) i 0 k))

pub converted-accepted : ConvertedAccepted
converted-accepted s t cs l F lent fit = is-accepted s t cs l F lent fit

pub converted-answers : ConvertedAnswers
converted-answers s t cs l F lent fit former same = same-answers s t cs l F lent fit former same
