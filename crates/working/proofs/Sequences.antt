-- After any sequence of calls the answers and the counts kept are those of a fresh call on the records then standing: one call at a time. Assumes nothing.
use Rattle.std.specs.Prelude.{Err, Ok}
use Rattle.records.specs.Refused.{refused_at}
use Rattle.outcomes.specs.Accepted.{Outcome, accepted_with}
use mathlib.Core.Path.{◌≡◌, refl, sym, ap, subst, ◌∙◌}
use mathlib.Core.Bool.{not}
use mathlib.Core.List.{List, [], ◌++◌}
use Prim.Native.Nat.{ℕ, ◌+◌, ◌*◌, ◌-◌, ◌/◌, ◌≤◌, ◌<◌}
use native.Mathlib.Decide.{dec_lt}
use native.Mathlib.Omega.{arith}
use borrow.Author.Tests.{eqb-true, leb-false}
use lib.Dec.{eqb, leb}
use lib.ListN.{length, take, drop, length-append, length-drop}
use lib.Seq.{length-take-le, take-append-le}
use Rattle.lists.proofs.Bools.{Known, is_true, is_false, known}
use Rattle.records.specs.Record.{records}
use Rattle.records.specs.declared.Refusal.{Refusal}
use Rattle.records.specs.declared.Refusal.TheVariants.{BookLength, NotStanding}
use Rattle.parentheses.specs.Padded.{padded}
use Rattle.parentheses.proofs.Paddeds.{padded-length}
use Rattle.lists.specs.Front.{front}
use Rattle.working.specs.declared.keeping.Working.{Working}
use Rattle.outcomes.specs.Fresh.{fresh_call}
use Rattle.working.specs.Standing.{standing, extended, without}
use Rattle.outcomes.specs.One.{refuse_if}
use Rattle.working.specs.Rows.{start_outcome, add_outcome, withdraw_outcome, answer_of}
use Rattle.working.specs.Kept.{kept_state, kept_area, image, no_records, Determined, Started, Added, Withdrawn, Answered}
use Rattle.working.specs.declared.keeping.Asked.{Asked}
use Rattle.records.specs.Check.{book_check}
use Rattle.working.specs.Sequence.{add_to, withdraw_from, chosen, Stands}
use Rattle.working.proofs.Fresh.{over-full}
use Rattle.working.proofs.Settling.{on, off, past-area, start-passes, ask-passes, one-fits}
use Rattle.working.proofs.RunsLaws.{padded-front}

pub clash : {x : Refusal} {i n v h : ℕ} → refused_at x i ≡ accepted_with n v h → ⊥
clash e = subst (λ (o : Outcome). elim o as (λ _. Type 0) [ Ok n ↦ ⊥ | Err x ↦ Unit {0} ]) e tt

-- what an accepted call leaves
kept : (area run : List ℕ) (m n v h : ℕ) → 49152 ≤ length area → length run ≡ 6 * m → m ≤ 8192 → fresh_call run [] ≡ accepted_with n v h
    → Stands (record { records = records run; pieces = n }) (front (image run) area) run
unfolding front image standing
kept area run m n v h l e f a =
    let c : length run / 6 ≡ m = omega (arith, e) in
    let p : length (padded 0 49152 run) ≡ 49152 = padded-length 0 49152 run (omega (arith, e, f)) in
    record {
      long = omega (arith, p, length-append (padded 0 49152 run) (drop (length (padded 0 49152 run)) area));
      few = omega (arith, c, f);
      counted = omega (arith, c, e);
      run_is = take-append-le (6 * (length run / 6)) (padded 0 49152 run) (drop (length (padded 0 49152 run)) area) (omega (arith, p, c, f)) ∙ padded-front 49152 (6 * (length run / 6)) run (omega (arith, c, e));
      nodes = v;
      shadows = h;
      pieces_are = a;
    }

module _ (w : Working) (area s run : List ℕ) (S : Stands w area s) where
  -- one call, by what it comes to
  step : (due : Outcome) → ((n v h : ℕ) → due ≡ accepted_with n v h → (fresh_call run [] ≡ accepted_with n v h) × ((m : ℕ) × ((length run ≡ 6 * m) × (m ≤ 8192))))
      → (r : Outcome) (w' : Working) (area' : List ℕ) → Determined w area run due r w' area' → Stands w' area' (chosen due run s)
  unfolding kept_state kept_area chosen
  step (Ok n) good r w' area' (a, (b, c)) =
      let g = good n.pieces n.nodes n.shadows refl in
      subst (λ (x : Working). Stands x area' run) (sym b) (subst (λ (y : List ℕ). Stands (record { records = records run; pieces = n.pieces }) y run) (sym c) (kept area run g.1.0 n.pieces n.nodes n.shadows S.long g.1.1.0 g.1.1.1 g.0))
  step (Err x) good r w' area' (a, (b, c)) =
      subst (λ (v : Working). Stands v area' s) (sym b) (subst (λ (y : List ℕ). Stands w y s) (sym c) S)

-- ---- an addition
module _ (w : Working) (area s a : List ℕ) (S : Stands w area s) where
  add-by-run : add_outcome area w.records a ≡ add_to s a
  unfolding add_outcome add_to extended
  add-by-run = past-area area w.records _ S.long S.few ∙ ap (λ (x : List ℕ). refuse_if (not (eqb (length a) 6)) BookLength (fresh_call (x ++ a) [])) S.run_is

  add-good : (n v h : ℕ) → add_to s a ≡ accepted_with n v h → (fresh_call (s ++ a) [] ≡ accepted_with n v h) × ((m : ℕ) × ((length (s ++ a) ≡ 6 * m) × (m ≤ 8192)))
  unfolding add_to
  add-good n v h e = go (known (eqb (length a) 6)) (dec_lt w.records 8192)
    where
      go : Known (eqb (length a) 6) → Dec (w.records < 8192) → (fresh_call (s ++ a) [] ≡ accepted_with n v h) × ((m : ℕ) × ((length (s ++ a) ≡ 6 * m) × (m ≤ 8192)))
      go (is_false t) d = absurd (clash (sym (on (not (eqb (length a) 6)) BookLength _ (ap not t)) ∙ e))
      go (is_true t) (yes d) = (
        sym (off (not (eqb (length a) 6)) BookLength _ (ap not t)) ∙ e,
        (w.records + 1, (omega (arith, S.counted, eqb-true (length a) 6 t, length-append s a), omega arith)),
      )
      go (is_true t) (no d) =
          absurd (clash (sym (over-full (s ++ a) (omega (arith, S.counted, S.few, eqb-true (length a) 6 t, length-append s a))) ∙ (sym (off (not (eqb (length a) 6)) BookLength _ (ap not t)) ∙ e)))

  -- the answer is the fresh call's on the run, and the run stands with the fresh call's piece count
  pub added : (r : Outcome) (w' : Working) (area' : List ℕ) → Added w area a r w' area' → (r ≡ add_to s a) × Stands w' area' (chosen (add_to s a) (s ++ a) s)
  unfolding extended
  added r w' area' D =
      let run : extended area w.records a ≡ s ++ a = ap (λ (x : List ℕ). x ++ a) S.run_is in
      let D' : Determined w area (s ++ a) (add_to s a) r w' area' =
      subst (λ (o : Outcome). Determined w area (s ++ a) o r w' area') add-by-run (subst (λ (x : List ℕ). Determined w area x (add_outcome area w.records a) r w' area') run D) in
      (D'.0, step w area s (s ++ a) S (add_to s a) add-good r w' area' D')

-- ---- a withdrawal
module _ (w : Working) (area s : List ℕ) (i : ℕ) (S : Stands w area s) where
  abbrev less : List ℕ
  less = take (6 * i) s ++ drop (6 * i + 6) s

  count : records s ≡ w.records
  count = omega (arith, S.counted)

  withdraw-by-run : withdraw_outcome area w.records i ≡ withdraw_from s i
  unfolding withdraw_outcome withdraw_from without
  withdraw-by-run =
      past-area area w.records _ S.long S.few
      ∙ (ap (λ (x : List ℕ). refuse_if (leb w.records i) NotStanding (fresh_call (take (6 * i) x ++ drop (6 * i + 6) x) [])) S.run_is
      ∙ ap (λ (k : ℕ). refuse_if (leb k i) NotStanding (fresh_call less [])) (sym count))

  withdraw-good : (n v h : ℕ) → withdraw_from s i ≡ accepted_with n v h → (fresh_call less [] ≡ accepted_with n v h) × ((m : ℕ) × ((length less ≡ 6 * m) × (m ≤ 8192)))
  unfolding withdraw_from
  withdraw-good n v h e = go (known (leb (records s) i))
    where
      go : Known (leb (records s) i) → (fresh_call less [] ≡ accepted_with n v h) × ((m : ℕ) × ((length less ≡ 6 * m) × (m ≤ 8192)))
      go (is_true t) = absurd (clash (sym (on (leb (records s) i) NotStanding _ t) ∙ e))
      go (is_false t) =
          let b : i < w.records = omega (arith, leb-false (records s) i t, count) in (
            sym (off (leb (records s) i) NotStanding _ t) ∙ e,
            (w.records - 1, (omega (arith, b, S.counted, length-append (take (6 * i) s) (drop (6 * i + 6) s), length-take-le (6 * i) s (omega (arith, b, S.counted)), length-drop (6 * i + 6) s), omega (arith, S.few))),
          )

  pub withdrawn : (r : Outcome) (w' : Working) (area' : List ℕ) → Withdrawn w area i r w' area' → (r ≡ withdraw_from s i) × Stands w' area' (chosen (withdraw_from s i) less s)
  unfolding without
  withdrawn r w' area' D =
      let run : without area w.records i ≡ less = ap (λ (x : List ℕ). take (6 * i) x ++ drop (6 * i + 6) x) S.run_is in
      let D' : Determined w area less (withdraw_from s i) r w' area' =
      subst (λ (o : Outcome). Determined w area less o r w' area') withdraw-by-run (subst (λ (x : List ℕ). Determined w area x (withdraw_outcome area w.records i) r w' area') run D) in
      (D'.0, step w area s less S (withdraw_from s i) withdraw-good r w' area' D')

-- ---- a claim, and a start
module _ (w : Working) (area s c : List ℕ) (S : Stands w area s) where
  -- a claim of 6 bytes gets the outcome and the answer of a fresh call with it on the run
  pub asked : (r : Asked) → Answered w area c r → length c ≡ 6 → (r.outcome ≡ fresh_call s c) × (r.answer ≡ answer_of s c (fresh_call s c))
  unfolding fresh_call
  asked r D six =
      let e : r.outcome ≡ fresh_call s c =
      D.0 ∙ (ask-passes area c w.records S.long S.few ∙ (sym (one-fits (standing area w.records) c (book_check (standing area w.records)) six) ∙ ap (λ (x : List ℕ). fresh_call x c) S.run_is)) in
      (e, D.1 ∙ (ap (λ (x : List ℕ). answer_of x c r.outcome) S.run_is ∙ ap (answer_of s c) e))

-- an accepted start stands with no records
pub started : (area : List ℕ) (r : Outcome) (w' : Working) (area' : List ℕ) → Started area r w' area' → 49152 ≤ length area → (n v h : ℕ) → fresh_call [] [] ≡ accepted_with n v h → Stands w' area' []
unfolding kept_state kept_area
started area r w' area' (a, (b, c)) l n v h e =
    let due : start_outcome area ≡ accepted_with n v h = start-passes area l ∙ e in
    subst (λ (x : Working). Stands x area' []) (sym (b ∙ ap (kept_state no_records 0) due))
    (subst (λ (y : List ℕ). Stands (record { records = 0; pieces = n }) y []) (sym (c ∙ ap (kept_area area (image [])) due)) (kept area [] 0 n v h l refl (omega arith) e))
