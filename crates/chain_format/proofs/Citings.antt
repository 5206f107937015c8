-- What may be cited of a record, and where it comes from. Assumes nothing.
use Prim.Native.Nat.{ℕ, ◌≤◌, ◌<◌}
use mathlib.Core.Path.{◌≡◌, refl, sym, ap, subst, ◌∙◌}
use mathlib.Core.Bool.{Bool, true, false, false≢true}
use mathlib.Core.List.{List, Memᴰ}
use native.Mathlib.Omega.{arith}
use native.Mathlib.Decide.{dec_lt}
use lib.Dec.{eqb}
use lib.ListN.{length, get_or, get_or-eq_default}
use borrow.Author.Tests.{eq-eqb, ne_eqb, eqb-true, eqb-false}
use Rattle.lists.proofs.Tabs.{tab-at, tab-length}
use Rattle.lists.proofs.Bools.{Known, is_true, is_false, known, same_truth}
use Rattle.lists.proofs.Members.{at-member, member-at}
use Rattle.lists.proofs.Anys.{any-find, any-hit}
use Rattle.rules.specs.Fact.{Fact}
use Rattle.records.specs.declared.Record.{Record}
use Rattle.records.specs.Record.{record_at, records}
use Rattle.records.specs.Pieces.{stated}
use Rattle.records.specs.Facts.{saying, facts}
use Rattle.records.specs.Kept.{picked}
use Rattle.records.specs.Marked.{marked}
use Rattle.records.proofs.Keeps.{picked-from, picked-here}
use Rattle.records.proofs.Marks.{mark-silent, marked_from, marked-here}
use Rattle.matrices.specs.Matrix.{bit_of}
use Rattle.closure.specs.Void.{void_of}
use Rattle.chain_format.specs.Citing.{Cited, fact, mark, none, lets, cited_of, citing, marks_piece, marks_some}

-- ---- one record

module _ (claim r : Record) where
  pub cited-stated : stated r ≡ true → lets claim r ≡ true → cited_of claim r ≡ fact (saying r)
  unfolding cited_of
  cited-stated t l = rw (t, l, cited_of)

  pub cited-barred : stated r ≡ true → lets claim r ≡ false → cited_of claim r ≡ none
  unfolding cited_of
  cited-barred t l = rw (t, l, cited_of)

  pub cited-mark : r.kind ≡ 6 → cited_of claim r ≡ mark r.a
  unfolding cited_of
  cited-mark k = rw (mark-silent r k, eq-eqb r.kind 6 k, cited_of)

  pub cited-none : stated r ≡ false → (r.kind ≡ 6 → ⊥) → cited_of claim r ≡ none
  unfolding cited_of
  cited-none t k = rw (t, ne_eqb r.kind 6 k, cited_of)

  -- what each kind of entry says of the record
  abbrev Said : Cited → Type 0
  Said (fact f) = (stated r ≡ true) × (lets claim r ≡ true) × (saying r ≡ f)
  Said (mark g) = (r.kind ≡ 6) × (r.a ≡ g)
  Said none = Unit {0}

  pub said : Said (cited_of claim r)
  said = pick (known (stated r))
    where
      pick : Known (stated r) → Said (cited_of claim r)
      pick (is_true t) = let-pass (known (lets claim r))
        where
          let-pass : Known (lets claim r) → Said (cited_of claim r)
          let-pass (is_true l) = rw (cited-stated t l) (t, l, refl)
          let-pass (is_false l) = rw (cited-barred t l) tt
      pick (is_false t) = is-mark (known (eqb r.kind 6))
        where
          is-mark : Known (eqb r.kind 6) → Said (cited_of claim r)
          is-mark (is_true k) = rw (cited-mark (eqb-true _ _ k)) (eqb-true _ _ k, refl)
          is-mark (is_false k) = rw (cited-none t (eqb-false _ _ k)) tt

-- ---- all of them

module _ (claim : Record) (s : List ℕ) where
  pub citing-length : length (citing claim s) ≡ records s
  unfolding citing
  citing-length = tab-length (λ i. cited_of claim (record_at s i)) 0 (records s)

  pub citing-at : (i : ℕ) → i < records s → get_or (citing claim s) i none ≡ cited_of claim (record_at s i)
  unfolding citing
  citing-at i h = tab-at (λ i. cited_of claim (record_at s i)) (records s) i none h

  pub citing-beyond : (i : ℕ) → records s ≤ i → get_or (citing claim s) i none ≡ none
  citing-beyond i h = let l : length (citing claim s) ≤ i = omega (arith, citing-length) in get_or-eq_default (citing claim s) none l

  pub citing-says : (i : ℕ) → (e : Cited) → get_or (citing claim s) i none ≡ e → (e ≡ none → ⊥) → (i < records s) × Said claim (record_at s i) e
  citing-says i e q o =
      elim (dec_lt i (records s)) [
        | yes h ↦ (h, subst (Said claim (record_at s i)) (sym (citing-at i h) ∙ q) (said claim (record_at s i)))
        | no h ↦ absurd (o (sym q ∙ citing-beyond i (omega arith)))
      ]

  -- the facts that may be cited are those that the claim picks
  pub cited-picked : (i : ℕ) (f : Fact) → get_or (citing claim s) i none ≡ fact f → (i < records s) × Memᴰ f (facts (picked s claim))
  cited-picked i f q =
      let t = citing-says i (fact f) q (λ e. let z : ◌≡◌ {A = ℕ} 0 1 = cc in omega arith) in
      (t.0, subst (λ (g : Fact). Memᴰ g (facts (picked s claim))) t.1.2 (picked-here s claim i t.0 t.1.1 t.1.0))

  pub picked-cited : (f : Fact) → Memᴰ f (facts (picked s claim)) → (i : ℕ) × (i < records s) × (get_or (citing claim s) i none ≡ fact f)
  picked-cited f m =
      let a = picked-from s claim f m in
      (a.0, a.1, citing-at a.0 a.1 ∙ cited-stated claim (record_at s a.0) a.3 a.2 ∙ ap fact a.4)

  -- and so are the marks
  marks-mark : (g : ℕ) (e : Cited) → marks_piece g e ≡ true → e ≡ mark g
  unfolding marks_piece
  marks-mark g (fact f) t = absurd (false≢true t)
  marks-mark g (mark x) t = ap mark (eqb-true x g t)
  marks-mark g none t = absurd (false≢true t)

  pub mark-marks : (g : ℕ) → marks_piece g (mark g) ≡ true
  unfolding marks_piece
  mark-marks g = eq-eqb g g refl

  pub cited-marked : (i g : ℕ) → marks_piece g (get_or (citing claim s) i none) ≡ true → (i < records s) × (marked s g ≡ true)
  cited-marked i g t =
      let m = citing-says i (mark g) (marks-mark g _ t) (λ e. let z : ◌≡◌ {A = ℕ} 0 1 = cc in omega arith) in
      (m.0, marked-here s g i m.0 m.1.0 m.1.1)

  pub marked-cited : (i g : ℕ) → i < records s → (record_at s i).kind ≡ 6 → (record_at s i).a ≡ g → marks_piece g (get_or (citing claim s) i none) ≡ true
  marked-cited i g h k a = ap (marks_piece g) (citing-at i h ∙ cited-mark claim (record_at s i) k ∙ ap mark a) ∙ mark-marks g

  pub marks-same : (g : ℕ) → marks_some (citing claim s) g ≡ marked s g
  unfolding marks_some
  marks-same g =
      same_truth _ _
      (λ t.
      let a = any-find (marks_piece g) (citing claim s) t in
      let b = member-at none a.1 in
      (cited-marked b.0 g (ap (marks_piece g) b.2 ∙ a.2)).1)
      (λ t.
      let m = marked_from s g t in
      any-hit (marks_piece g) (at-member (citing claim s) none m.0 (omega (arith, m.1, citing-length))) (marked-cited m.0 g m.1 m.2 m.3))

  -- read off a row of bits
  pub marks-read : (voids : List ℕ) → void_of voids ≡ marked s → (g : ℕ) (b : Bool) → b ≡ bit_of voids 0 g → marks_some (citing claim s) g ≡ b
  unfolding void_of
  marks-read voids e g b q = marks-same g ∙ ap (λ (f : ℕ → Bool). f g) (sym e) ∙ sym q
