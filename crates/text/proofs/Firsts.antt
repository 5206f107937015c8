-- The first byte of a text that is shown. Assumes nothing.
use Prim.Native.Nat.{ℕ, zero, suc, ◌≤◌, ◌<◌}
use mathlib.Core.Path.{◌≡◌, refl, sym, ap, ◌∙◌}
use mathlib.Core.Bool.{true}
use mathlib.Core.List.{List, [], ◌∷◌, ◌++◌}
use native.Mathlib.Omega.{arith}
use native.Mathlib.Decide.{ℕ_discrete}
use lib.ListN.{length, get_or, length-append}
use borrow.Author.Tests.{ne_eqb, le-leb}
use Rattle.lists.proofs.Parts.{first-kept}
use Rattle.records.specs.declared.Record.{Record}
use Rattle.records.specs.Record.{record_at, records}
use Rattle.pages.specs.Text.{field}
use Rattle.pages.specs.Lines.{lines}
use Rattle.text.specs.Text.{mark_length}
use Rattle.text.specs.Either.{is_text}
use Rattle.text.specs.Shown.{kind_word, show_record, show_records}
use Rattle.text.proofs.Marks.{mark-short, mark-first}
use Rattle.text.proofs.Pages.{record-void, record-else}

-- a letter, or a space
abbrev Initial : ℕ → Type 0
Initial x = (9 ≤ x) × (x ≤ 90)

field-some : (f : List ℕ) (x : ℕ) → 0 < length (field f x)
field-some f x = omega (arith, length-append f (x ∷ []))

word-initial : (k : ℕ) → Initial (get_or (field (kind_word k) 32) 0 0)
unfolding kind_word
word-initial zero = (omega arith, omega arith)
word-initial (suc zero) = (omega arith, omega arith)
word-initial (suc (suc zero)) = (omega arith, omega arith)
word-initial (suc (suc (suc zero))) = (omega arith, omega arith)
word-initial (suc (suc (suc (suc zero)))) = (omega arith, omega arith)
word-initial (suc (suc (suc (suc (suc zero))))) = (omega arith, omega arith)
word-initial (suc (suc (suc (suc (suc (suc zero)))))) = (omega arith, omega arith)
word-initial (suc (suc (suc (suc (suc (suc (suc k))))))) = rw (ne_eqb (suc (suc (suc (suc (suc (suc (suc k))))))) 6 (λ z. omega arith)) (omega arith, omega arith)

module _ (choice : List ℕ) where
  -- a line is its kind's word and a space, and what follows
  record-parts : (r : Record) → (more : List ℕ) × (field (kind_word r.kind) 32 ++ more ≡ show_record choice r)
  record-parts r =
      elim (ℕ_discrete r.kind 6) [
        | yes e ↦ (_, record-void choice r e)
        | no e ↦ (_, record-else choice r e)
      ]

  record-first : (r : Record) → (0 < length (show_record choice r)) × Initial (get_or (show_record choice r) 0 0)
  record-first r =
      let p = record-parts r in
      let f = field (kind_word r.kind) 32 in
      let i : Initial (get_or f 0 0) = word-initial r.kind in
      let e : get_or (show_record choice r) 0 0 ≡ get_or f 0 0 = ap (λ (l : List ℕ). get_or l 0 0) (sym p.1) ∙ first-kept f p.0 0 (field-some (kind_word r.kind) 32) in
      (omega (arith, ap length p.1, length-append f p.0, field-some (kind_word r.kind) 32), (omega (arith, i.0, e), omega (arith, i.1, e)))

  lines-first : (f : ℕ → List ℕ) (n : ℕ) → 0 < length (f 0) → (0 < length (lines f (suc n))) × (get_or (lines f (suc n)) 0 0 ≡ get_or (f 0) 0 0)
  unfolding lines
  lines-first f zero h = (h, refl)
  lines-first f (suc n) h =
      let r = lines-first f n h in
      (omega (arith, length-append (lines f (suc n)) (f (suc n)), r.0), first-kept (lines f (suc n)) (f (suc n)) 0 r.0 ∙ r.1)

  shown-first : (s : List ℕ) (n : ℕ) → records s ≡ suc n → Initial (get_or (show_records choice s) 0 0)
  unfolding show_records
  shown-first s n e =
      let f : ℕ → List ℕ = λ i. show_record choice (record_at s i) in
      let r = record-first (record_at s 0) in
      rw (e, (lines-first f n r.0).1) r.1

  pub shown-none : (s : List ℕ) → records s ≡ 0 → show_records choice s ≡ []
  unfolding show_records lines
  shown-none s e = rw e

  pub shown-mark : (s : List ℕ) → mark_length (show_records choice s) ≡ 0
  shown-mark s = pick (records s) refl
    where
      pick : (n : ℕ) → records s ≡ n → mark_length (show_records choice s) ≡ 0
      pick zero e = sym (mark-short (show_records choice s) (omega (arith, ap length (shown-none s e))))
      pick (suc n) e = let i = shown-first s n e in sym (mark-first (show_records choice s) (λ z. omega (arith, i.1)))

  pub shown-text : (s : List ℕ) → 0 < records s → is_text (show_records choice s) ≡ true
  unfolding is_text
  shown-text s h = pick (records s) refl
    where
      pick : (n : ℕ) → records s ≡ n → is_text (show_records choice s) ≡ true
      pick zero e = absurd (omega arith)
      pick (suc n) e = le-leb 9 (get_or (show_records choice s) 0 0) (shown-first s n e).0
