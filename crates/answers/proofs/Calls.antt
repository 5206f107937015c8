-- What the whole call promises, row by row. Assumes nothing.
use Rattle.std.specs.Prelude.{Err, Ok}
use Rattle.records.specs.Refused.{BookCheck, ClaimsCheck, refused_at}
use Rattle.outcomes.specs.Accepted.{Outcome}
use Prim.Native.Nat.{ℕ}
use mathlib.Core.Path.{◌≡◌, refl, sym, ap, ap₂, subst, ◌∙◌}
use mathlib.Core.Bool.{Bool, true, false, ◌||◌}
use mathlib.Core.List.{List, [], ◌∷◌}
use native.Mathlib.Omega.{arith}
use borrow.Author.Tests.{ltb-false, ne_eqb}
use lib.Dec.{ltb}
use lib.ListN.{length}
use lib.Seq.{length-take-le}
use Rattle.lists.proofs.Bools.{or-neither}
use Rattle.records.specs.Record.{records}
use Rattle.records.specs.Refusal.{refusal_number}
use Rattle.records.specs.Check.{book_check, claims_check}
use Rattle.records.specs.declared.Refusal.{Refusal}
use Rattle.records.specs.declared.Refusal.TheVariants.{ShortBuffer}
use Rattle.outcomes.specs.Lent.{Lent, lent, short_lent}
use Rattle.outcomes.specs.Call.{by_claims, by_book, outcome, Passed, left, Determined}
use Rattle.outcomes.specs.Outcome.{number, place, node_count}
use Rattle.outcomes.specs.Demands.{Demand2, Demand3, Contradicted}
use Rattle.outcomes.specs.Fitting.{Fitting}
use Rattle.answers.specs.Judging.{after_claims, after_book, rows_check, Exact, Judged}
use Rattle.outcomes.proofs.Outcomes.{Other, book-other, claims-other, Told, runs-told, passed-outcome}
use Rattle.claims.proofs.Counts.{own-count}
use Rattle.outcomes.proofs.Kept.{fitted, kept2, kept3, kept-place, kept-size}
use Rattle.outcomes.proofs.Buffers.{cut, put_back, Long, left_back}

abbrev pub Promised : List ℕ → List ℕ → Lent → Outcome → Lent → Type 0
Promised s cs l r l' =
    Determined s cs l r l'
    × (Demand2 s cs l'.answers (number r) × (Demand3 s cs l l'.answers (number r) × (Contradicted s (number r) (place r) × Fitting s (number r) (node_count r))))

pub long : (cs : List ℕ) (l : Lent) → short_lent cs l ≡ false → Long cs l
unfolding short_lent
long cs l e =
    let a = or-neither (ltb (length l.parens) 2560) _ e in
    let b = or-neither (ltb (length l.marks) 1280) _ a.1 in
    let c = or-neither (ltb (length l.shadows) 8192) _ b.1 in
    let d = or-neither (ltb (length l.places) 2048) _ c.1 in
    record { parens = ltb-false _ _ a.0; marks = ltb-false _ _ b.0; shadows = ltb-false _ _ c.0; places = ltb-false _ _ d.0; answers = ltb-false _ _ d.1 }

-- row 1 by its tests
module _ (cs p m h q a : List ℕ) {t : Bool} where
  pub tested : (ltb (length p) 2560 || (ltb (length m) 1280 || (ltb (length h) 8192 || (ltb (length q) 2048 || ltb (length a) (records cs))))) ≡ t → short_lent cs (lent p m h q a) ≡ t
  unfolding short_lent
  tested e = e

module _ (s cs : List ℕ) (l : Lent) where
  promised : {r : Outcome} {l' : Lent} → Determined s cs l r l' → Promised s cs l r l'
  promised D = (D, (kept2 s cs l D, (kept3 s cs l D, (kept-place s cs l D, kept-size s cs l D))))

  untouched : (r : Refusal) (i : ℕ) → Other r → l ≡ left s cs l (refused_at r i)
  unfolding left
  untouched r i o = rw (ne_eqb (refusal_number r) 14 o, left)

  -- the outcome, by the rows that are passed
  by-short : short_lent cs l ≡ true → refused_at ShortBuffer 0 ≡ outcome s cs l
  unfolding outcome
  by-short e = rw (e, outcome)

  by-book : short_lent cs l ≡ false → {r : Refusal} {i : ℕ} → book_check s ≡ refused_at r i → refused_at r i ≡ outcome s cs l
  unfolding outcome by_book
  by-book e q = rw (e, outcome, q, by_book)

  by-claims : short_lent cs l ≡ false → {n : ℕ} → book_check s ≡ Ok n → {r : Refusal} {i : ℕ} → claims_check n cs ≡ refused_at r i → refused_at r i ≡ outcome s cs l
  unfolding outcome by_book by_claims
  by-claims e q f = rw (e, outcome, q, by_book, f, by_claims)

  pub short-refused : short_lent cs l ≡ true → Promised s cs l (refused_at ShortBuffer 0) l
  short-refused e = promised (by-short e, untouched ShortBuffer 0 (omega arith))

  module _ (ok : short_lent cs l ≡ false) where
    pub book-refused : {r : Refusal} {i : ℕ} → book_check s ≡ refused_at r i → Promised s cs l (refused_at r i) l
    book-refused {r} {i} q = promised (by-book ok q, untouched r i (rw q at (book-other s)))

    module _ {n : ℕ} (sound : book_check s ≡ Ok n) where
      pub claims-refused : {r : Refusal} {i : ℕ} → claims_check n cs ≡ refused_at r i → Promised s cs l (refused_at r i) l
      claims-refused {r} {i} q = promised (by-claims ok sound q, untouched r i (rw q at (claims-other n cs)))

      -- the parts that are written are as long as what is written
      pub exact : claims_check n cs ≡ Ok tt → Exact s n cs (cut (records cs) l)
      exact fit =
          let L = long cs l ok in
          record {
            sound = own-count sound;
            fit = fit;
            parens-long = length-take-le 2560 l.parens L.parens;
            marks-long = length-take-le 1280 l.marks L.marks;
            shadows-long = length-take-le 8192 l.shadows L.shadows;
            places-long = length-take-le 2048 l.places L.places;
            answers-long = length-take-le (records cs) l.answers L.answers;
          }

      pub judged : claims_check n cs ≡ Ok tt → (r : Outcome) (x : Lent) → Judged s n cs (cut (records cs) l) r x → Promised s cs l r (put_back (records cs) l x)
      judged fit r x J =
          let p : Passed s cs l n = record { lent = ok; sound = sound; fit = fit } in
          let t : Told s cs l r = rw J.outcome-is (runs-told s cs l n p) in
          promised (J.outcome-is ∙ sym (passed-outcome s cs l n p), ap (put_back (records cs) l) J.left_is ∙ left_back s cs l r (long cs l ok) (fitted s cs l r t))

-- rows 3 to 13 at once
module _ (s cs : List ℕ) {n : ℕ} where
  claims-passed :
      {m : ℕ} → book_check s ≡ Ok m → (c : ClaimsCheck) → claims_check m cs ≡ c → after_claims m c ≡ Ok n
      → (book_check s ≡ Ok n) × (claims_check n cs ≡ Ok tt)
  unfolding after_claims
  claims-passed e (Err r) f q = let z : ◌≡◌ {A = ℕ} 0 1 = cc in absurd (omega arith)
  claims-passed {m} e (Ok _) f q = let x : m ≡ n = cc in (e ∙ q, subst (λ (k : ℕ). claims_check k cs ≡ Ok tt) x f)

  book-passed : (b : BookCheck) → book_check s ≡ b → after_book cs b ≡ Ok n → (book_check s ≡ Ok n) × (claims_check n cs ≡ Ok tt)
  unfolding after_book
  book-passed (Err r) e q = let z : ◌≡◌ {A = ℕ} 0 1 = cc in absurd (omega arith)
  book-passed (Ok m) e q = claims-passed e (claims_check m cs) refl q

  pub rows-accepted : rows_check s cs ≡ Ok n → (book_check s ≡ Ok n) × (claims_check n cs ≡ Ok tt)
  unfolding rows_check
  rows-accepted q = book-passed (book_check s) refl q

module _ (s cs : List ℕ) (l : Lent) (ok : short_lent cs l ≡ false) {r : Refusal} {i : ℕ} where
  claims-told :
      {m : ℕ} → book_check s ≡ Ok m → (c : ClaimsCheck) → claims_check m cs ≡ c → after_claims m c ≡ refused_at r i → Promised s cs l (refused_at r i) l
  unfolding after_claims
  claims-told e (Err x) f q = let a : x.refusal ≡ r = cc in let b : x.place ≡ i = cc in claims-refused s cs l ok e (f ∙ ap₂ refused_at a b)
  claims-told e (Ok _) f q = let z : ◌≡◌ {A = ℕ} 0 1 = cc in absurd (omega arith)

  book-told : (b : BookCheck) → book_check s ≡ b → after_book cs b ≡ refused_at r i → Promised s cs l (refused_at r i) l
  unfolding after_book
  book-told (Err x) e q = book-refused s cs l ok (e ∙ q)
  book-told (Ok m) e q = claims-told e (claims_check m cs) refl q

  pub rows-refused : rows_check s cs ≡ refused_at r i → Promised s cs l (refused_at r i) l
  unfolding rows_check
  rows-refused q = book-told (book_check s) refl q

-- with no answers
empty : (x : List ℕ) → length x ≡ 0 → x ≡ []
empty [] e = refl
empty (v ∷ x) e = absurd (omega arith)

pub alone : (s cs : List ℕ) (l : Lent) (r : Outcome) (a b c d x : List ℕ) → length x ≡ 0 → Promised s cs l r (lent a b c d x) → Promised s cs l r (lent a b c d [])
alone s cs l r a b c d x e p = subst (λ (y : List ℕ). Promised s cs l r (lent a b c d y)) (empty x e) p
