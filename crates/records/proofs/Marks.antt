-- What marks a piece, which pieces no accepted book marks, and runs with the same marks. Assumes nothing.
use Prim.Native.Nat.{ℕ, ◌+◌, ◌-◌, ◌*◌, ◌≤◌, ◌<◌}
use mathlib.Core.Path.{◌≡◌, refl, sym, ap, ◌∙◌, fun_ext}
use mathlib.Core.Logic.{◌⊎◌, inl, inr}
use mathlib.Core.Bool.{Bool, true, false, false≢true, ◌||◌}
use mathlib.Core.List.{List, ◌++◌}
use native.Mathlib.Numerals.{add-one}
use native.Mathlib.Omega.{arith}
use native.Mathlib.Decide.{dec_lt}
use borrow.Author.Tests.{eq-eqb, ne_eqb, eqb-true, leb-true}
use lib.Dec.{eqb, leb}
use lib.ListN.{length, length-append}
use Rattle.lists.specs.Any.{any_below}
use Rattle.lists.proofs.Bools.{and_both, both-and, or-either, left_or, right_or, same_truth, not-true}
use Rattle.lists.proofs.Anys.{below-find, below-hit}
use Rattle.records.specs.declared.Record.{Record}
use Rattle.records.specs.declared.Edition.{Edition}
use Rattle.records.specs.declared.Edition.TheVariants.{Former}
use Rattle.records.specs.Record.{record_at, records}
use Rattle.records.specs.Pieces.{stated, marking, largest, piece_count}
use Rattle.records.specs.Rows.{admitted}
use Rattle.records.specs.Marked.{marks, marked_up_to, marked}
use Rattle.records.specs.Reordered.{Reordered}
use Rattle.records.proofs.Rows.{plain-largest}
use Rattle.records.proofs.Runs.{pieces-cover}
use Rattle.records.proofs.Orders.{Found, record-early, record-late, found-moved, found_back}
use Rattle.records.proofs.Accepted.{AcceptedBook}

-- ---- records of kind 6

module _ (r : Record) where
  -- a mark states no fact, and so names one piece
  pub mark-silent : r.kind ≡ 6 → stated r ≡ false
  unfolding stated
  mark-silent e = not-true _ (λ t. omega (arith, leb-true r.kind 4 (and_both (leb 1 r.kind) (leb r.kind 4) t).1))

  pub mark-largest : r.kind ≡ 6 → largest r ≡ r.a
  mark-largest e = plain-largest r (mark-silent e)

  pub marks-from : (g : ℕ) → marks g r ≡ true → (r.kind ≡ 6) × (r.a ≡ g)
  unfolding marks
  marks-from g t = let b = and_both (marking r) (eqb r.a g) t in (eqb-true _ _ b.0, eqb-true _ _ b.1)

  pub marks-here : (g : ℕ) → r.kind ≡ 6 → r.a ≡ g → marks g r ≡ true
  unfolding marks
  marks-here g k a = both-and (eq-eqb r.kind 6 k) (eq-eqb r.a g a)

  -- and of another kind none
  pub marks-not : (g : ℕ) → (r.kind ≡ 6 → ⊥) → marks g r ≡ false
  marks-not g n = not-true _ (λ t. n (marks-from g t).0)

  -- the former edition has no marks
  pub former-silent : admitted Former r ≡ true → r.kind ≡ 6 → ⊥
  unfolding admitted
  former-silent t e =
      let n : r.kind ≡ 5 → ⊥ = λ q. omega arith in
      false≢true (sym (rw (mark-silent e, ne_eqb r.kind 5 n)) ∙ t)

-- ---- which record marks a piece

module _ (s : List ℕ) (g : ℕ) where
  pub marked-none : marked_up_to s 0 g ≡ false
  unfolding any_below
  marked-none = refl

  pub marked_more : (i : ℕ) → marked_up_to s (i + 1) g ≡ (marks g (record_at s i) || marked_up_to s i g)
  unfolding any_below
  marked_more i = rw (add-one i)

  pub marked_from : marked s g ≡ true → (i : ℕ) × (i < records s) × ((record_at s i).kind ≡ 6) × ((record_at s i).a ≡ g)
  unfolding marked
  marked_from t =
      let f = below-find (λ i. marks g (record_at s i)) (records s) t in
      let m = marks-from (record_at s f.0) g f.2 in
      (f.0, f.1, m.0, m.1)

  pub marked-here : (i : ℕ) → i < records s → (record_at s i).kind ≡ 6 → (record_at s i).a ≡ g → marked s g ≡ true
  unfolding marked
  marked-here i h k a = below-hit (λ i. marks g (record_at s i)) (records s) i h (marks-here (record_at s i) g k a)

  -- ---- what no run marks

  pub marks-nothing : ((i : ℕ) → i < records s → (record_at s i).kind ≡ 6 → ⊥) → marked s g ≡ false
  marks-nothing n = not-true _ (λ t. let m = marked_from t in n m.0 m.1 m.2)

  pub marks-stated : ((i : ℕ) → i < records s → stated (record_at s i) ≡ true) → marked s g ≡ false
  marks-stated h = marks-nothing (λ i l e. false≢true (sym (mark-silent (record_at s i) e) ∙ h i l))

  pub marks-beyond : piece_count s ≤ g → marked s g ≡ false
  marks-beyond h =
      not-true _
      (λ t.
      let m = marked_from t in
      let a = m.3 in
      omega (arith, pieces-cover s (records s) m.0 m.1, mark-largest (record_at s m.0) m.2))

module _ {e : Edition} {s : List ℕ} {p : ℕ} (b : AcceptedBook e s p) where
  pub accepted-whole-unmarked : marked s 0 ≡ false
  accepted-whole-unmarked = not-true _ (λ t. let m = marked_from s 0 t in let a = m.3 in omega (arith, ((b.each m.0 m.1).marking m.2).0))

  pub accepted-marks-within : (g : ℕ) → p ≤ g → marked s g ≡ false
  accepted-marks-within g h = let c = b.count in marks-beyond s g (omega arith)

pub former-unmarked : {s : List ℕ} {p : ℕ} → AcceptedBook Former s p → (g : ℕ) → marked s g ≡ false
former-unmarked {s} b g = marks-nothing s g (λ i h. former-silent (record_at s i) (b.each i h).kind)

-- ---- runs with the same marks

module _ (s t : List ℕ) (there : Found s t) where
  pub marked-found : (g : ℕ) → marked s g ≡ true → marked t g ≡ true
  marked-found g q =
      let m = marked_from s g q in
      let f = there m.0 m.1 in
      marked-here t g f.0 f.1 (ap (λ (r : Record). r.kind) f.2 ∙ m.2) (ap (λ (r : Record). r.a) f.2 ∙ m.3)

-- in another order
pub marked-moved : (s t : List ℕ) → Reordered s t → marked t ≡ marked s
marked-moved s t R = fun_ext (λ g. same_truth _ _ (marked-found t s (found_back s t R) g) (marked-found s t (found-moved s t R) g))

-- a run behind another
module _ (s r : List ℕ) (w : length s ≡ 6 * records s) (g : ℕ) where
  split : (i : ℕ) → i < records (s ++ r) → (record_at (s ++ r) i).kind ≡ 6 → (record_at (s ++ r) i).a ≡ g → (marked s g || marked r g) ≡ true
  split i l k a = pick (dec_lt i (records s))
    where
      pick : Dec (i < records s) → (marked s g || marked r g) ≡ true
      pick (yes h) =
          left_or (marked r g) (marked-here s g i h (sym (ap (λ (r : Record). r.kind) (record-early s r w i h)) ∙ k) (sym (ap (λ (r : Record). r.a) (record-early s r w i h)) ∙ a))
      pick (no h) =
          let e : records s + (i - records s) ≡ i = omega arith in
          let f : record_at (s ++ r) i ≡ record_at r (i - records s) = ap (record_at (s ++ r)) (sym e) ∙ record-late s r w (i - records s) in
          right_or (marked s g)
          (marked-here r g (i - records s) (omega (arith, length-append s r)) (sym (ap (λ (r : Record). r.kind) f) ∙ k) (sym (ap (λ (r : Record). r.a) f) ∙ a))

  found_early : marked s g ≡ true → marked (s ++ r) g ≡ true
  found_early t =
      let m = marked_from s g t in
      marked-here (s ++ r) g m.0 (omega (arith, m.1, length-append s r)) (ap (λ (r : Record). r.kind) (record-early s r w m.0 m.1) ∙ m.2)
      (ap (λ (r : Record). r.a) (record-early s r w m.0 m.1) ∙ m.3)

  found-late : marked r g ≡ true → marked (s ++ r) g ≡ true
  found-late t =
      let m = marked_from r g t in
      marked-here (s ++ r) g (records s + m.0) (omega (arith, m.1, length-append s r)) (ap (λ (r : Record). r.kind) (record-late s r w m.0) ∙ m.2)
      (ap (λ (r : Record). r.a) (record-late s r w m.0) ∙ m.3)

  pub marked_append : marked (s ++ r) g ≡ (marked s g || marked r g)
  marked_append =
      same_truth _ _ (λ t. let m = marked_from (s ++ r) g t in split m.0 m.1 m.2 m.3)
      (λ t. pick (or-either (marked s g) (marked r g) t))
    where
      pick : (marked s g ≡ true) ⊎ (marked r g ≡ true) → marked (s ++ r) g ≡ true
      pick (inl t) = found_early t
      pick (inr t) = found-late t

  pub marked-added : marked r g ≡ false → marked (s ++ r) g ≡ marked s g
  marked-added e = marked_append ∙ rest (marked s g) (marked r g) e
    where
      rest : (a b : Bool) → b ≡ false → (a || b) ≡ a
      rest true b q = refl
      rest false b q = q
