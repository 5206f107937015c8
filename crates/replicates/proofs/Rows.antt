-- Rows 20 and 21: what each comes to, and what is known where they let a part pass. Assumes nothing.
use Rattle.std.specs.Prelude.{Err, Ok}
use Rattle.records.specs.Refused.{Finding, refused_at}
use Rattle.outcomes.specs.Accepted.{accepted_with}
use Prim.Native.Nat.{ℕ, ◌+◌, ◌-◌, ◌%◌, ◌<◌, ◌≤◌}
use mathlib.Core.Path.{◌≡◌, refl, sym, ap, ◌∙◌}
use mathlib.Core.Bool.{Bool, true, false, not, false≢true}
use mathlib.Core.List.{List}
use native.Mathlib.Numerals.{add-one}
use native.Mathlib.Omega.{arith}
use borrow.Author.Tests.{lt-ltb, le-ltb, le-leb, lt-leb, ltb-false, leb-true, leb-false, eq-eqb, eqb-true, ne_eqb}
use lib.Dec.{eqb, ltb, leb}
use lib.ListN.{length, get_or}
use Rattle.lists.specs.Any.{any_below}
use Rattle.lists.proofs.Bools.{left_or, right_or, Known, is_true, is_false, known, not-true, not-is-false, or-neither}
use Rattle.lists.proofs.Anys.{below-find, below-hit}
use Rattle.records.specs.Refusal.{row, judge, scan}
use Rattle.records.proofs.Scans.{scan-pass, scan-stop, scan-end, all_pass, judged, all_fit}
use Rattle.records.specs.declared.Refusal.{Refusal}
use Rattle.records.specs.declared.Refusal.TheVariants.{LogLength, ReplicatePiece}
use Rattle.replicates.specs.declared.Window.{Window}
use Rattle.replicates.specs.Log.{entry_count, entry_at}
use Rattle.replicates.specs.Call.{bad_length, bad_window, part_finding, entry_finding, by_part}
use Rattle.replicates.specs.Writing.{Fits}

-- ---- the window

pub window-long : (n : ℕ) (w : Window) → 31 < w.count → true ≡ bad_window n w
window-long n w l = sym (left_or (any_below (λ j. leb n (get_or w.pieces j 0)) w.count) (lt-ltb 31 w.count l))

pub window-beyond : (n : ℕ) (w : Window) (j : ℕ) → j < w.count → n ≤ get_or w.pieces j 0 → true ≡ bad_window n w
window-beyond n w j l h = sym (right_or (ltb 31 w.count) (below-hit (λ j. leb n (get_or w.pieces j 0)) w.count j l (le-leb n (get_or w.pieces j 0) h)))

-- the first j pieces are the book's
abbrev pub Sound : ℕ → List ℕ → ℕ → Type 0
Sound n ps j = any_below (λ i. leb n (get_or ps i 0)) j ≡ false

pub sound_none : (n : ℕ) (ps : List ℕ) → Sound n ps 0
unfolding any_below
sound_none n ps = refl

pub sound_more : (n : ℕ) (ps : List ℕ) (j : ℕ) → Sound n ps j → get_or ps j 0 < n → Sound n ps (j + 1)
unfolding any_below
sound_more n ps j s l = ap (any_below (λ i. leb n (get_or ps i 0))) (add-one j) ∙ rw (lt-leb n (get_or ps j 0) l) s

pub window-sound : (n : ℕ) (w : Window) → w.count ≤ 31 → Sound n w.pieces w.count → false ≡ bad_window n w
window-sound n w l s = sym (rw (le-ltb 31 w.count l) s)

-- ---- the entries, one after the other

module _ (n nodes shadows : ℕ) (log : List ℕ) where
  -- what is left of the scan at entry i is the whole of it
  abbrev pub Left : ℕ → Type 0
  Left i =
      scan refused_at (accepted_with n nodes shadows) (entry_finding n log) i (entry_count log - i) ≡ scan refused_at (accepted_with n nodes shadows) (entry_finding n log) 0 (entry_count log)

  fit : (i : ℕ) → entry_at log i < n → entry_finding n log i ≡ Ok tt
  fit i l = rw (lt-leb n (entry_at log i) l)

  unfit : (i : ℕ) → n ≤ entry_at log i → entry_finding n log i ≡ Err ReplicatePiece
  unfit i l = rw (le-leb n (entry_at log i) l)

  pub left-first : Left 0
  left-first = let e : entry_count log - 0 ≡ entry_count log = omega arith in rw e

  pub left-next : (i : ℕ) → Left i → i < entry_count log → entry_at log i < n → Left (i + 1)
  left-next i L l h = sym (scan-pass refused_at (accepted_with n nodes shadows) (entry_finding n log) i (entry_count log) l (fit i h)) ∙ L

  pub left-stop : (i : ℕ) → Left i → i < entry_count log → n ≤ entry_at log i → refused_at ReplicatePiece i ≡ scan refused_at (accepted_with n nodes shadows) (entry_finding n log) 0 (entry_count log)
  left-stop i L l h = sym (scan-stop refused_at (accepted_with n nodes shadows) (entry_finding n log) i (entry_count log) ReplicatePiece l (unfit i h)) ∙ L

  pub left_end : (i : ℕ) → Left i → entry_count log ≤ i → accepted_with n nodes shadows ≡ scan refused_at (accepted_with n nodes shadows) (entry_finding n log) 0 (entry_count log)
  left_end i L l = sym (scan-end refused_at (accepted_with n nodes shadows) (entry_finding n log) i (entry_count log) l) ∙ L

  -- ---- the rows together

  module _ (w : Window) where
    length-refused : (f : Finding) → bad_length log ≡ true → refused_at LogLength 0 ≡ judge (λ r. refused_at r 0) (scan refused_at (accepted_with n nodes shadows) (entry_finding n log) 0 (entry_count log)) (row (bad_length log) LogLength f)
    length-refused f e = rw e

    pub part-odd : (length log % 2 ≡ 0 → ⊥) → refused_at LogLength 0 ≡ by_part w log (accepted_with n nodes shadows)
    unfolding by_part
    part-odd h = length-refused (row (bad_window n w) ReplicatePiece (Ok tt)) (left_or (ltb 32768 (entry_count log)) (ap not (ne_eqb (length log % 2) 0 h)))

    pub part-long : 32768 < entry_count log → refused_at LogLength 0 ≡ by_part w log (accepted_with n nodes shadows)
    unfolding by_part
    part-long h = length-refused (row (bad_window n w) ReplicatePiece (Ok tt)) (right_or (not (eqb (length log % 2) 0)) (lt-ltb 32768 (entry_count log) h))

    good_length : length log % 2 ≡ 0 → entry_count log ≤ 32768 → bad_length log ≡ false
    good_length e h = rw (eq-eqb (length log % 2) 0 e) (le-ltb 32768 (entry_count log) h)

    pub part-window : length log % 2 ≡ 0 → entry_count log ≤ 32768 → true ≡ bad_window n w → refused_at ReplicatePiece 0 ≡ by_part w log (accepted_with n nodes shadows)
    unfolding by_part
    part-window e h b = rw (good_length e h, ← b)

    pub part-entries :
        length log % 2 ≡ 0 → entry_count log ≤ 32768 → false ≡ bad_window n w
        → scan refused_at (accepted_with n nodes shadows) (entry_finding n log) 0 (entry_count log) ≡ by_part w log (accepted_with n nodes shadows)
    unfolding by_part
    part-entries e h b = rw (good_length e h, ← b)

    -- ---- a part that passes

    never : {a b c : ℕ} (r : Refusal) (i : ℕ) → refused_at r i ≡ accepted_with a b c → ⊥
    never r i e = let z : ◌≡◌ {A = ℕ} 0 1 = cc in omega arith

    row-passes : (b : Bool) (r : Refusal) (f : Finding) → row b r f ≡ Ok tt → (b ≡ false) × (f ≡ Ok tt)
    row-passes true r f e = let z : ◌≡◌ {A = ℕ} 0 1 = cc in absurd (omega arith)
    row-passes false r f e = (refl, e)

    pub passes : {a b c : ℕ} → by_part w log (accepted_with n nodes shadows) ≡ accepted_with a b c → Fits n w log × (accepted_with n nodes shadows ≡ accepted_with a b c)
    unfolding by_part
    passes {a} {b} {c} e =
        let j = judged (λ r. refused_at r 0) (scan refused_at (accepted_with n nodes shadows) (entry_finding n log) 0 (entry_count log)) (part_finding n w log) (λ r. never r 0) e in
        let s = all_fit refused_at (accepted_with n nodes shadows) (entry_finding n log) never (entry_count log) j.1 in
        let p = row-passes (bad_length log) LogLength (row (bad_window n w) ReplicatePiece (Ok tt)) j.0 in
        let q = or-neither (ltb 31 w.count) (any_below (λ j. leb n (get_or w.pieces j 0)) w.count) (row-passes (bad_window n w) ReplicatePiece (Ok tt) p.1).0 in (
          record {
            few = omega (arith, ltb-false 32768 (entry_count log) (or-neither (not (eqb (length log % 2) 0)) (ltb 32768 (entry_count log)) p.0).1);
            short = omega (arith, ltb-false 31 w.count q.0);
            window = λ j l. inside j (known (leb n (get_or w.pieces j 0))) l q.1;
            entries = λ i l. leb-false n (entry_at log i) (row-passes (leb n (entry_at log i)) ReplicatePiece (Ok tt) (s.1 i l)).0;
          },
          s.0,
        )
      where
        inside : (j : ℕ) → Known (leb n (get_or w.pieces j 0)) → j < w.count → any_below (λ j. leb n (get_or w.pieces j 0)) w.count ≡ false → get_or w.pieces j 0 < n
        inside j (is_true t) l h = absurd (false≢true (sym h ∙ below-hit (λ j. leb n (get_or w.pieces j 0)) w.count j l t))
        inside j (is_false t) l h = leb-false n (get_or w.pieces j 0) t

    pub passed : {a b c : ℕ} → by_part w log (accepted_with n nodes shadows) ≡ accepted_with a b c → length log % 2 ≡ 0
    unfolding by_part
    passed {a} {b} {c} e =
        let j = judged (λ r. refused_at r 0) (scan refused_at (accepted_with n nodes shadows) (entry_finding n log) 0 (entry_count log)) (part_finding n w log) (λ r. never r 0) e in
        let p = row-passes (bad_length log) LogLength (row (bad_window n w) ReplicatePiece (Ok tt)) j.0 in
        eqb-true (length log % 2) 0 (not-is-false (eqb (length log % 2) 0) (or-neither (not (eqb (length log % 2) 0)) (ltb 32768 (entry_count log)) p.0).0)

    -- and one that does is accepted
    pub all-passes : length log % 2 ≡ 0 → Fits n w log → by_part w log (accepted_with n nodes shadows) ≡ accepted_with n nodes shadows
    all-passes e F =
        sym (part-entries e F.few (window-sound n w F.short (not-true _ (λ q. let f = below-find (λ j. leb n (get_or w.pieces j 0)) w.count q in beyond f.0 f.1 f.2))))
        ∙ all_pass refused_at (accepted_with n nodes shadows) (entry_finding n log) 0 (entry_count log) (λ k l. fit k (F.entries k (omega arith)))
      where
        beyond : (j : ℕ) → j < w.count → leb n (get_or w.pieces j 0) ≡ true → ⊥
        beyond j l q = omega (arith, leb-true n (get_or w.pieces j 0) q, F.window j l)
