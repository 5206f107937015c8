-- What each way out of the searches comes to. Assumes nothing.
use Prim.Native.Nat.{ℕ, ◌≤◌, ◌<◌}
use mathlib.Core.Path.{◌≡◌, refl, sym, ap, subst, ◌∙◌}
use mathlib.Core.Logic.{◌⊎◌, inl, inr}
use mathlib.Core.Bool.{Bool, true, false, ◌&&◌, ◌||◌, false≢true}
use mathlib.Core.List.{List}
use native.Mathlib.Omega.{arith}
use lib.Dec.{eqb}
use lib.ListN.{get_or}
use borrow.Author.Tests.{eq-eqb, ne_eqb, eqb-true, le-leb}
use Rattle.lists.proofs.Bools.{and_both, both-and, or-either}
use Rattle.matrices.specs.Matrix.{bit_of, common}
use Rattle.rules.specs.Fact.{AllWithin}
use Rattle.records.specs.Facts.{facts}
use Rattle.records.specs.declared.Record.{Record}
use Rattle.records.specs.Record.{record_at, records}
use Rattle.records.specs.Pieces.{stated}
use Rattle.closure.proofs.Runs.{record-within}
use Rattle.chain_format.specs.declared.steps.Step.{Step}
use Rattle.chain_format.specs.Step.{unordered, showing}
use Rattle.chain_format.specs.Citing.{lets, citing, none}
use Rattle.chain_format.specs.Justified.{cites}
use Rattle.chain_format.proofs.Computed.{brings-fact}
use Rattle.derivations.specs.declared.search.Aim.{Aim}
use Rattle.derivations.specs.declared.search.Aim.TheVariants.{Apart, Meets, NotPart, Outside}
use Rattle.derivations.specs.Aim.{kind_for, joining, serving}
use Rattle.derivations.specs.Lifts.{Grounded}
use Rattle.derivations.specs.Found.{Citable, Witnessed}
use Rattle.derivations.proofs.Carries.{saying, as_said, turned-said, stored-grounded}

-- ---- which pieces lead to the fact

module _ (aim : Aim) (d t : List ℕ) (a b x y : ℕ) (r : Bool) where
  from-aim : (w : Aim) → aim ≡ w → r ≡ joining w d t a b x y → r ≡ joining aim d t a b x y
  from-aim w e q = q ∙ sym (ap (λ (v : Aim). joining v d t a b x y) e)

  pub joins-apart : aim ≡ Apart → r ≡ (bit_of d x a && bit_of d y b) → r ≡ joining aim d t a b x y
  unfolding joining
  joins-apart e q = from-aim Apart e q

  pub joins-meets : aim ≡ Meets → r ≡ (bit_of d a x && bit_of d b y) → r ≡ joining aim d t a b x y
  unfolding joining
  joins-meets e q = from-aim Meets e q

  pub joins-notpart : aim ≡ NotPart → r ≡ (bit_of d a x && bit_of d y b) → r ≡ joining aim d t a b x y
  unfolding joining
  joins-notpart e q = from-aim NotPart e q

  pub joins-outside : aim ≡ Outside → r ≡ (bit_of d x b && common t a d y) → r ≡ joining aim d t a b x y
  unfolding joining
  joins-outside e q = from-aim Outside e q

-- ---- one record

pub kind-range : (aim : Aim) → (1 ≤ kind_for aim) × (kind_for aim ≤ 4)
kind-range Apart = (omega arith, omega arith)
kind-range Meets = (omega arith, omega arith)
kind-range NotPart = (omega arith, omega arith)
kind-range Outside = (omega arith, omega arith)

ordered-kind : (aim : Aim) → kind_for aim ≡ 4 → unordered (kind_for aim) ≡ false
ordered-kind Apart e = absurd (omega arith)
ordered-kind Meets e = absurd (omega arith)
ordered-kind NotPart e = refl
ordered-kind Outside e = absurd (omega arith)

unordered-kind : (aim : Aim) → (kind_for aim ≡ 4 → ⊥) → unordered (kind_for aim) ≡ true
unordered-kind Apart e = refl
unordered-kind Meets e = refl
unordered-kind NotPart e = absurd (e refl)
unordered-kind Outside e = refl

module _ (aim : Aim) (claim : Record) (d t : List ℕ) (a b : ℕ) (r : Record) where
  abbrev Serves : Bool
  Serves = serving aim claim d t a b r

  pub serves-other : (r.kind ≡ kind_for aim → ⊥) → false ≡ Serves
  unfolding serving
  serves-other k = simp (ne_eqb r.kind (kind_for aim) k)

  module _ (k : r.kind ≡ kind_for aim) where
    pub serves-barred : lets claim r ≡ false → false ≡ Serves
    unfolding serving
    serves-barred l = simp (eq-eqb r.kind (kind_for aim) k, l)

    module _ (l : lets claim r ≡ true) where
      pub serves-straight : joining aim d t a b r.a r.b ≡ true → true ≡ Serves
      unfolding serving
      serves-straight j = simp (eq-eqb r.kind (kind_for aim) k, l, j)

      module _ (j : joining aim d t a b r.a r.b ≡ false) where
        pub serves-ordered : r.kind ≡ 4 → false ≡ Serves
        unfolding serving
        serves-ordered o = simp (eq-eqb r.kind (kind_for aim) k, l, j, ordered-kind aim (sym k ∙ o))

        pub serves-swapped : (r.kind ≡ 4 → ⊥) → joining aim d t a b r.b r.a ≡ Serves
        unfolding serving
        serves-swapped o = simp (eq-eqb r.kind (kind_for aim) k, l, j, unordered-kind aim (λ q. o (k ∙ q)))

-- ---- the record that is cited

module _ {n : ℕ} {s d t : List ℕ} (G : Citable n s d t) (claim : Record) (aim : Aim) (a b : ℕ) (i : ℕ) (h : i < records s) (on : serving aim claim d t a b (record_at s i) ≡ true) (r : Record) (q : r ≡ record_at s i) where
  served : serving aim claim d t a b r ≡ true
  served = ap (serving aim claim d t a b) q ∙ on

  parts-of : (r.kind ≡ kind_for aim) × (lets claim r ≡ true) × ((joining aim d t a b r.a r.b || (unordered (kind_for aim) && joining aim d t a b r.b r.a)) ≡ true)
  unfolding serving
  parts-of =
      let x = and_both (eqb r.kind (kind_for aim)) _ served in
      let y = and_both (lets claim r) _ x.1 in
      (eqb-true _ _ x.0, y.0, y.1)

  is-stated : stated r ≡ true
  unfolding stated
  is-stated =
      let k = parts-of.0 in
      let z = kind-range aim in
      both-and (le-leb 1 r.kind (omega (arith, z.0))) (le-leb r.kind 4 (omega (arith, z.1)))

  pub pieces-in : (r.a < n) × (r.b < n)
  pieces-in =
      let k = parts-of.0 in
      let z = kind-range aim in
      let f : (record_at s i).kind ≡ kind_for aim = sym (ap (λ (v : Record). v.kind) q) ∙ k in
      let w = record-within s n G.bounded.within i h (omega (arith, z.0)) (omega (arith, z.1)) in
      (subst (λ (v : Record). v.a < n) (sym q) w.0, subst (λ (v : Record). v.b < n) (sym q) w.1)

  abbrev step : Step
  step = saying 0 r.kind r.a r.b i

  cited : cites (get_or (citing claim s) i none) step ≡ true
  cited = sym (brings-fact claim s step h r q is-stated parts-of.1) ∙ as_said 0 r.kind r.a r.b i

  grounded : Grounded n (citing claim s) step
  grounded = let f = G.few in stored-grounded n (citing claim s) G.bounded.fits r.kind r.a r.b i pieces-in.0 pieces-in.1 (omega arith) cited

  pub cited-straight : joining aim d t a b r.a r.b ≡ true → Witnessed n (citing claim s) aim d t a b (record { step = step; x = r.a; y = r.b })
  cited-straight j =
      record {
        grounded = grounded;
        cited = cited;
        shown = subst (λ (k : ℕ). showing step k r.a r.b ≡ true) parts-of.0 (as_said 0 r.kind r.a r.b i);
        left = pieces-in.0;
        right = pieces-in.1;
        joined = j;
      }

  pub cited-swapped : joining aim d t a b r.a r.b ≡ false → Witnessed n (citing claim s) aim d t a b (record { step = step; x = r.b; y = r.a })
  cited-swapped j =
      let z = turned_by (or-either _ _ parts-of.2) in
      record {
        grounded = grounded;
        cited = cited;
        shown = subst (λ (k : ℕ). showing step k r.b r.a ≡ true) parts-of.0 (turned-said 0 r.kind r.a r.b i (ap unordered parts-of.0 ∙ z.0));
        left = pieces-in.1;
        right = pieces-in.0;
        joined = z.1;
      }
    where
      turned_by :
          (joining aim d t a b r.a r.b ≡ true) ⊎ ((unordered (kind_for aim) && joining aim d t a b r.b r.a) ≡ true)
          → (unordered (kind_for aim) ≡ true) × (joining aim d t a b r.b r.a ≡ true)
      turned_by (inl f) = absurd (false≢true (sym j ∙ f))
      turned_by (inr f) = and_both _ _ f

-- the pieces of a record of a book
pub record-small :
    (s : List ℕ) → AllWithin 2048 (facts s) → (i : ℕ) → i < records s → (r : Record) → r ≡ record_at s i → 1 ≤ r.kind → r.kind ≤ 4 → (r.a < 2048) × (r.b < 2048)
record-small s w i h r q l k = rw q (record-within s 2048 w i h (rw q at l) (rw q at k))
