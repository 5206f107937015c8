-- The silenced copy of a book: its bytes as they are written, its records, its facts, its marks, and what may be cited of it. Assumes nothing.
use Prim.Native.Nat.{ℕ, ◌+◌, ◌*◌, ◌/◌, ◌%◌, ◌≤◌, ◌<◌}
use mathlib.Core.Path.{◌≡◌, sym, ap, subst, ◌∙◌, fun_ext}
use mathlib.Core.Bool.{Bool, true, false, ◌&&◌, ◌||◌, false≢true}
use mathlib.Core.List.{List, Memᴰ}
use native.Mathlib.Omega.{arith}
use native.Mathlib.Decide.{ℕ_discrete, dec_lt}
use lib.Dec.{eqb, leb, ltb}
use lib.ListN.{length, get_or, take, set}
use lib.Seq.{length-take-le, get_or-take, get_or-set_same, get_or-set_other, ext_get_or}
use borrow.Author.Tests.{eq-eqb, ne_eqb, eqb-true, eqb-false, le-leb, leb-true, lt-ltb, le-ltb}
use Rattle.lists.specs.Tab.{tab}
use Rattle.lists.proofs.Tabs.{tab-at, tab-length, tab-same}
use Rattle.lists.proofs.Bools.{and_both, both-and, left_or, right_or, Known, is_true, is_false, known, same_truth, not-true}
use Rattle.rules.specs.Fact.{Fact}
use Rattle.rules.proofs.More.{Among}
use Rattle.records.specs.declared.Record.{Record}
use Rattle.records.specs.Record.{record_at, records}
use Rattle.records.specs.Pieces.{stated, marking}
use Rattle.records.specs.Facts.{saying, facts}
use Rattle.records.specs.Marked.{marked}
use Rattle.records.proofs.Runs.{run-records, run-record, fact-here, fact-from}
use Rattle.records.proofs.Marks.{mark-silent, marked_from, marked-here}
use Rattle.chain_format.specs.Citing.{none, cited_of, citing}
use Rattle.chain_format.proofs.Citings.{cited-none}
use Rattle.clash.specs.Clash.{unrestricted, cited_at, cited_before}
use Rattle.clash.specs.Silenced.{silences, silenced_byte, silenced}

-- ---- one byte

module _ (i p x : ℕ) where
  pub silenced-same : silences i p x ≡ false → x ≡ silenced_byte i p x
  unfolding silenced_byte
  silenced-same e = rw (e, silenced_byte)

  pub silenced-five : silences i p x ≡ true → 5 ≡ silenced_byte i p x
  unfolding silenced_byte
  silenced-five e = rw (e, silenced_byte)

  pub inner : (p % 6 ≡ 0 → ⊥) → silences i p x ≡ false
  unfolding silences
  inner n = rw (ne_eqb (p % 6) 0 n)

  pub early : p / 6 < i → silences i p x ≡ false
  unfolding silences
  early l = not-true _ (λ t. omega (arith, leb-true i (p / 6) (and_both (leb i (p / 6)) _ (and_both (eqb (p % 6) 0) _ t).1).0))

  pub low : x < 1 → silences i p x ≡ false
  unfolding silences
  low l = not-true _ (λ t. omega (arith, leb-true 1 x (and_both (leb 1 x) _ (and_both (leb i (p / 6)) _ (and_both (eqb (p % 6) 0) _ t).1).1).0))

  pub high : 4 < x → silences i p x ≡ false
  unfolding silences
  high l = not-true _ (λ t. omega (arith, leb-true x 4 (and_both (leb 1 x) _ (and_both (leb i (p / 6)) _ (and_both (eqb (p % 6) 0) _ t).1).1).1))

  pub later-fact : p % 6 ≡ 0 → i ≤ p / 6 → 1 ≤ x → x ≤ 4 → silences i p x ≡ true
  unfolding silences
  later-fact z l a b = both-and (eq-eqb (p % 6) 0 z) (both-and (le-leb i (p / 6) l) (both-and (le-leb 1 x a) (le-leb x 4 b)))

-- ---- the copy as it is written

module _ (s : List ℕ) (i : ℕ) where
  abbrev pub Sofar : List ℕ → ℕ → Type 0
  Sofar out p = (k : ℕ) → k < p → get_or out k 0 ≡ silenced_byte i k (get_or s k 0)

  pub copied_more : (out : List ℕ) (p v : ℕ) → Sofar out p → v ≡ silenced_byte i p (get_or s p 0) → p < length out → Sofar (set out p v) (p + 1)
  copied_more out p v h e l k m =
      elim (ℕ_discrete k p) [
        | yes q ↦ ap (λ (j : ℕ). get_or (set out p v) j 0) q ∙ get_or-set_same out p v 0 l ∙ e ∙ ap (λ (j : ℕ). silenced_byte i j (get_or s j 0)) (sym q)
        | no q ↦ get_or-set_other out p k v 0 q ∙ h k (omega arith)
      ]

  pub silenced-length : length (silenced s i) ≡ length s
  unfolding silenced
  silenced-length = tab-length (λ p. silenced_byte i p (get_or s p 0)) 0 (length s)

  pub silenced-at : (p : ℕ) → p < length s → get_or (silenced s i) p 0 ≡ silenced_byte i p (get_or s p 0)
  unfolding silenced
  silenced-at p l = tab-at (λ p. silenced_byte i p (get_or s p 0)) (length s) p 0 l

  pub copied_all : (out : List ℕ) (p : ℕ) → Sofar out p → length s ≤ length out → length s ≤ p → take (length s) out ≡ silenced s i
  copied_all out p h l m =
      let e = length-take-le (length s) out l in
      ext_get_or 0 (take (length s) out) (silenced s i) (e ∙ sym silenced-length)
      (λ k g. get_or-take (length s) out k 0 (omega arith) ∙ h k (omega arith) ∙ sym (silenced-at k (omega arith)))

-- ---- its records

not_five : (r : Record) → r.kind ≡ 5 → stated r ≡ false
unfolding stated
not_five r e = not-true _ (λ t. omega (arith, leb-true r.kind 4 (and_both (leb 1 r.kind) _ t).1))

neither : {a b : Bool} → a ≡ false → b ≡ false → (a || b) ≡ false
neither p q = rw (p, q)

module _ (s : List ℕ) (i : ℕ) where
  abbrev q : List ℕ
  q = silenced s i

  pub silenced-records : records q ≡ records s
  silenced-records = ap (λ (k : ℕ). k / 6) (silenced-length s i)

  kept : (p : ℕ) → p < length s → silences i p (get_or s p 0) ≡ false → get_or q p 0 ≡ get_or s p 0
  kept p l e = silenced-at s i p l ∙ sym (silenced-same i p (get_or s p 0) e)

  module _ (j : ℕ) (h : j < records s) where
    r : Record
    r = record_at s j

    aside : (d : ℕ) → 0 < d → d < 6 → get_or q (6 * j + d) 0 ≡ get_or s (6 * j + d) 0
    aside d p l = kept (6 * j + d) (omega arith) (inner i (6 * j + d) (get_or s (6 * j + d) 0) (λ e. omega arith))

    record-kept : get_or q (6 * j) 0 ≡ get_or s (6 * j) 0 → record_at q j ≡ record_at s j
    unfolding record_at
    record-kept e = simp (e, aside 1 (omega arith) (omega arith), aside 2 (omega arith) (omega arith), aside 3 (omega arith) (omega arith), aside 4 (omega arith) (omega arith), aside 5 (omega arith) (omega arith))

    pub silenced-before : j < i → record_at q j ≡ record_at s j
    silenced-before l = record-kept (kept (6 * j) (omega arith) (early i (6 * j) (get_or s (6 * j) 0) (omega arith)))

    pub silenced-silent : stated (record_at s j) ≡ false → record_at q j ≡ record_at s j
    unfolding stated record_at silences
    silenced-silent e = record-kept (kept (6 * j) (omega arith) (not-true _ (λ t. false≢true (sym e ∙ told t))))
      where
        told : silences i (6 * j) (get_or s (6 * j) 0) ≡ true → (leb 1 (get_or s (6 * j) 0) && leb (get_or s (6 * j) 0) 4) ≡ true
        told t = (and_both (leb i (6 * j / 6)) _ (and_both (eqb (6 * j % 6) 0) _ t).1).1

    pub silenced-fact : i ≤ j → stated (record_at s j) ≡ true → (record_at q j).kind ≡ 5
    unfolding stated record_at
    silenced-fact l e =
        let b = and_both (leb 1 (get_or s (6 * j) 0)) _ e in
        silenced-at s i (6 * j) (omega arith)
        ∙ sym (silenced-five i (6 * j) (get_or s (6 * j) 0) (later-fact i (6 * j) (get_or s (6 * j) 0) (omega arith) (omega arith) (leb-true 1 _ b.0) (leb-true _ 4 b.1)))

  -- from number i on none states a fact
  pub silenced-behind : (j : ℕ) → j < records s → i ≤ j → stated (record_at q j) ≡ false
  silenced-behind j h l = pick (known (stated (record_at s j)))
    where
      pick : Known (stated (record_at s j)) → stated (record_at q j) ≡ false
      pick (is_true e) = not_five (record_at q j) (silenced-fact j h l e)
      pick (is_false e) = ap stated (silenced-silent j h e) ∙ e

  -- a mark stays, wherever it stands
  mark-kept : (j : ℕ) → j < records s → (record_at q j).kind ≡ 6 → record_at q j ≡ record_at s j
  mark-kept j h k = pick (known (stated (record_at s j))) (dec_lt j i)
    where
      pick : Known (stated (record_at s j)) → Dec (j < i) → record_at q j ≡ record_at s j
      pick e (yes l) = silenced-before j h l
      pick (is_false e) (no l) = silenced-silent j h e
      pick (is_true e) (no l) = absurd (omega (arith, silenced-fact j h (omega arith) e))

  pub silenced-marks : marked q ≡ marked s
  silenced-marks =
      fun_ext
      (λ g.
      same_truth _ _
      (λ t.
      let m = marked_from q g t in
      let h : m.0 < records s = omega (arith, m.1, silenced-records) in
      let e = mark-kept m.0 h m.2 in
      marked-here s g m.0 h (ap (λ (r : Record). r.kind) (sym e) ∙ m.2) (ap (λ (r : Record). r.a) (sym e) ∙ m.3))
      (λ t.
      let m = marked_from s g t in
      let e = silenced-silent m.0 m.1 (mark-silent (record_at s m.0) m.2) in
      marked-here q g m.0 (omega (arith, m.1, silenced-records)) (ap (λ (r : Record). r.kind) e ∙ m.2) (ap (λ (r : Record). r.a) e ∙ m.3)))

  -- ---- its facts are those of the run before record i

  module _ (fits : 6 * i ≤ length s) where
    abbrev run : List ℕ
    run = take (6 * i) s

    said-there : (f : Fact) (x y : List ℕ) (j : ℕ) → j < records y → record_at y j ≡ record_at x j → stated (record_at x j) ≡ true → saying (record_at x j) ≡ f → Memᴰ f (facts y)
    said-there f x y j h e t p = subst (λ (g : Fact). Memᴰ g (facts y)) (ap saying e ∙ p) (fact-here y j h (ap stated e ∙ t))

    pub silenced-among : Among (facts q) (facts run)
    silenced-among f m =
        let o = fact-from q f m in
        let h : o.0 < records s = omega (arith, o.1, silenced-records) in
        elim (dec_lt o.0 i) [
          | yes l ↦ said-there f q run o.0 (omega (arith, run-records s i fits)) (run-record s i fits o.0 l ∙ sym (silenced-before o.0 h l)) o.2 o.3
          | no l ↦ absurd (false≢true (sym (silenced-behind o.0 h (omega arith)) ∙ o.2))
        ]

    pub among-silenced : Among (facts run) (facts q)
    among-silenced f m =
        let o = fact-from run f m in
        let l : o.0 < i = omega (arith, o.1, run-records s i fits) in
        let h : o.0 < records s = omega arith in
        said-there f run q o.0 (omega (arith, silenced-records)) (silenced-before o.0 h l ∙ sym (run-record s i fits o.0 l)) o.2 o.3

  -- ---- what may be cited

  cited-yes : (j : ℕ) → (ltb j i || marking (record_at s j)) ≡ true → cited_at s i j ≡ cited_of (unrestricted (record_at s i)) (record_at s j)
  unfolding cited_at
  cited-yes j e = rw (e, cited_at)

  cited-no : (j : ℕ) → (ltb j i || marking (record_at s j)) ≡ false → cited_at s i j ≡ none
  unfolding cited_at
  cited-no j e = rw (e, cited_at)

  cited-same : (j : ℕ) → j < records s → cited_of (unrestricted (record_at s i)) (record_at q j) ≡ cited_at s i j
  cited-same j h = pick (dec_lt j i) (known (stated (record_at s j))) (known (marking (record_at s j)))
    where
      claim : Record
      claim = unrestricted (record_at s i)

      pick : Dec (j < i) → Known (stated (record_at s j)) → Known (marking (record_at s j)) → cited_of claim (record_at q j) ≡ cited_at s i j
      pick (yes l) t m = ap (cited_of claim) (silenced-before j h l) ∙ sym (cited-yes j (left_or _ (lt-ltb j i l)))
      pick (no l) (is_false t) (is_true m) = ap (cited_of claim) (silenced-silent j h t) ∙ sym (cited-yes j (right_or (ltb j i) m))
      pick (no l) (is_false t) (is_false m) =
          ap (cited_of claim) (silenced-silent j h t) ∙ cited-none claim (record_at s j) t (eqb-false _ _ m) ∙ sym (cited-no j (neither (le-ltb j i (omega arith)) m))
      pick (no l) (is_true t) (is_true m) = absurd (false≢true (sym (mark-silent (record_at s j) (eqb-true _ _ m)) ∙ t))
      pick (no l) (is_true t) (is_false m) =
          let k = silenced-fact j h (omega arith) t in
          cited-none claim (record_at q j) (not_five (record_at q j) k) (λ e. omega arith) ∙ sym (cited-no j (neither (le-ltb j i (omega arith)) m))

  pub silenced-citing : citing (unrestricted (record_at s i)) q ≡ cited_before s i
  unfolding citing cited_before
  silenced-citing = tab-same (λ j. cited_of (unrestricted (record_at s i)) (record_at q j)) (cited_at s i) 0 (records q) (λ j a h. cited-same j (omega (arith, silenced-records))) ∙ ap (tab (cited_at s i) 0) silenced-records
