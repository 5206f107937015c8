-- When each row refuses and when it lets a record pass, and what a record that passes rows 5 to 8 is like. Assumes nothing.
use Rattle.std.specs.Prelude.{Err, Ok}
use Rattle.records.specs.Refused.{Finding}
use Prim.Native.Nat.{ℕ, max, ◌≤◌, ◌<◌}
use mathlib.Core.Path.{◌≡◌, refl, sym, ◌∙◌}
use mathlib.Core.Bool.{Bool, true, false, false≢true}
use native.Mathlib.Omega.{arith}
use native.Mathlib.Decide.{ℕ_discrete}
use lib.Dec.{eqb}
use borrow.Author.Tests.{le-leb, lt-leb, lt-ltb, le-ltb, eq-eqb, ne_eqb, eqb-true, eqb-false, ltb-false, not-false}
use Rattle.lists.proofs.Bools.{Known, is_true, is_false, known}
use Rattle.records.specs.declared.Record.{Record}
use Rattle.records.specs.declared.Edition.{Edition}
use Rattle.records.specs.declared.Edition.TheVariants.{Former, Current}
use Rattle.records.specs.declared.Refusal.{Refusal}
use Rattle.records.specs.Refusal.{refusal_number, row}
use Rattle.records.specs.declared.Refusal.TheVariants.{ShortBuffer, BookLength, TooManyRecords, Kind, Origin, PieceNumber, Order, Repeat, ClaimsLength, TooManyClaims, ClaimFormat, ClaimPiece, Contradiction, ShortSteps, TooManyPieces, ShortCatalog, NotStanding, VoidForm, LogLength, ReplicatePiece}
use Rattle.records.specs.Pieces.{stated, larger, largest}
use Rattle.records.specs.Rows.{admitted, kind_row, origin_row, piece_row, bad_mark, void_row, rising, order_row}
use Rattle.records.specs.Check.{form_finding}

module _ (r : Record) where
  pub plain-largest : stated r ≡ false → largest r ≡ r.a
  unfolding largest
  plain-largest e = rw (e, larger)

  pub both-largest : stated r ≡ true → largest r ≡ max r.a r.b
  unfolding largest
  both-largest e = rw (e, larger)

  pub admits-former : {e : Edition} → e ≡ Former → stated r ≡ false → eqb r.kind 5 ≡ admitted e r
  unfolding admitted
  admits-former q h = rw (q, h)

  pub admits-current : {e : Edition} → e ≡ Current → stated r ≡ false → eqb r.kind 6 ≡ admitted e r
  unfolding admitted
  admits-current q h = rw (q, h)

pub admits-stated : (e : Edition) (r : Record) → stated r ≡ true → admitted e r ≡ true
unfolding admitted
admits-stated Former r h = rw h
admits-stated Current r h = rw h

no-order : (e : Edition) (r : Record) → (r.kind ≡ 1 → ⊥) → order_row e r ≡ false
unfolding order_row
no-order Former r n = rw (ne_eqb r.kind 1 n)
no-order Current r n = refl

module _ (e : Edition) (r : Record) where
  pub no_kind : admitted e r ≡ false → form_finding e r ≡ Err Kind
  unfolding form_finding
  no_kind h = simp h

  module _ (h : admitted e r ≡ true) where
    pub unknown : 1 < r.origin → form_finding e r ≡ Err Origin
    unfolding form_finding
    unknown t = simp (h, lt-ltb 1 r.origin t)

    module _ (t : r.origin ≤ 1) where
      pub too_large : 2047 < largest r → form_finding e r ≡ Err PieceNumber
      unfolding form_finding
      too_large p = simp (h, le-ltb 1 r.origin t, lt-ltb 2047 (largest r) p)

      module _ (p : largest r ≤ 2047) where
        pub marks-one : r.kind ≡ 6 → form_finding e r ≡ row (bad_mark r) VoidForm (Ok tt)
        unfolding form_finding
        marks-one n =
            simp (h, le-ltb 1 r.origin t, le-ltb 2047 (largest r) p, eq-eqb r.kind 6 n, no-order e r (λ k. omega arith))

        pub by_order : (r.kind ≡ 6 → ⊥) → form_finding e r ≡ row (order_row e r) Order (Ok tt)
        unfolding form_finding
        by_order m = simp (h, le-ltb 1 r.origin t, le-ltb 2047 (largest r) p, ne_eqb r.kind 6 m)

        pub any_order : {d : Edition} → e ≡ d → d ≡ Current → (r.kind ≡ 6 → ⊥) → form_finding e r ≡ Ok tt
        unfolding order_row
        any_order q c m = by_order m ∙ rw (q, c)

        pub in_order : {d : Edition} → e ≡ d → d ≡ Former → (r.kind ≡ 6 → ⊥) → form_finding e r ≡ row (rising r) Order (Ok tt)
        unfolding order_row
        in_order q f m = by_order m ∙ rw (q, f)

-- row 8 of a record of the former edition
module _ (r : Record) where
  pub not-part : (r.kind ≡ 1 → ⊥) → row (rising r) Order (Ok tt) ≡ Ok tt
  not-part n = simp (ne_eqb r.kind 1 n)

  module _ (n : r.kind ≡ 1) where
    pub ordered : r.b < r.a → row (rising r) Order (Ok tt) ≡ Ok tt
    ordered o = simp (eq-eqb r.kind 1 n, lt-leb r.a r.b o)

    pub disordered : r.a ≤ r.b → row (rising r) Order (Ok tt) ≡ Err Order
    disordered o = simp (eq-eqb r.kind 1 n, le-leb r.a r.b o)

-- row 19 of a mark
module _ (r : Record) where
  pub no-piece : r.a ≡ 0 → row (bad_mark r) VoidForm (Ok tt) ≡ Err VoidForm
  no-piece e = simp (eq-eqb r.a 0 e)

  module _ (a : r.a ≡ 0 → ⊥) where
    pub second-piece : (r.b ≡ 0 → ⊥) → row (bad_mark r) VoidForm (Ok tt) ≡ Err VoidForm
    second-piece b = simp (ne_eqb r.a 0 a, ne_eqb r.b 0 b)

    pub good-mark : r.b ≡ 0 → row (bad_mark r) VoidForm (Ok tt) ≡ Ok tt
    good-mark b = simp (ne_eqb r.a 0 a, eq-eqb r.b 0 b)

-- What a record is that passes rows 5 to 8, 19 among them.
pub record Formed (e : Edition) (r : Record) : Type 0 where
  pub kind : admitted e r ≡ true
  pub known : r.origin ≤ 1
  pub named : largest r ≤ 2047
  pub marking : r.kind ≡ 6 → (0 < r.a) × (r.b ≡ 0)
  pub order : order_row e r ≡ false

pub row-fit : (b : Bool) (x : Refusal) (f : Finding) → row b x f ≡ Ok tt → (b ≡ false) × (f ≡ Ok tt)
row-fit true x f e = absurd (let z : ◌≡◌ {A = ℕ} 0 1 = cc in omega arith)
row-fit false x f e = (refl, e)

in-form : (r : Record) → void_row r ≡ false → r.kind ≡ 6 → (0 < r.a) × (r.b ≡ 0)
in-form r e k = pick (known (eqb r.a 0)) (known (eqb r.b 0))
  where
    bad : bad_mark r ≡ false
    bad = rw (eq-eqb r.kind 6 k) at e

    pick : Known (eqb r.a 0) → Known (eqb r.b 0) → (0 < r.a) × (r.b ≡ 0)
    pick (is_true a) b = absurd (false≢true (sym bad ∙ rw a))
    pick (is_false a) (is_false b) = absurd (false≢true (sym bad ∙ rw (a, b)))
    pick (is_false a) (is_true b) = (omega (arith, eqb-false r.a 0 a), eqb-true r.b 0 b)

pub formed : (e : Edition) (r : Record) → form_finding e r ≡ Ok tt → Formed e r
unfolding form_finding
formed e r q =
    let k = row-fit (kind_row e r) _ _ q in
    let t = row-fit (origin_row r) _ _ k.1 in
    let p = row-fit (piece_row r) _ _ t.1 in
    let v = row-fit (void_row r) _ _ p.1 in
    let o = row-fit (order_row e r) _ _ v.1 in
    record {
      kind = not-false (admitted e r) k.0;
      known = ltb-false _ _ t.0;
      named = ltb-false _ _ p.0;
      marking = in-form r v.0;
      order = o.0;
    }

-- and such a record passes them
pub fits : (e : Edition) (r : Record) → Formed e r → form_finding e r ≡ Ok tt
fits e r F = pick (ℕ_discrete r.kind 6)
  where
    pick : Dec (r.kind ≡ 6) → form_finding e r ≡ Ok tt
    pick (yes m) =
        let f = F.marking m in marks-one e r F.kind F.known F.named m ∙ good-mark r (λ a. omega (arith, f.0)) f.1
    pick (no m) = by_order e r F.kind F.known F.named m ∙ rw F.order

-- no refusal has the number 0
pub refused-positive : (r : Refusal) → refusal_number r ≡ 0 → ⊥
refused-positive ShortBuffer e = omega arith
refused-positive BookLength e = omega arith
refused-positive TooManyRecords e = omega arith
refused-positive Kind e = omega arith
refused-positive Origin e = omega arith
refused-positive PieceNumber e = omega arith
refused-positive Order e = omega arith
refused-positive Repeat e = omega arith
refused-positive ClaimsLength e = omega arith
refused-positive TooManyClaims e = omega arith
refused-positive ClaimFormat e = omega arith
refused-positive ClaimPiece e = omega arith
refused-positive Contradiction e = omega arith
refused-positive ShortSteps e = omega arith
refused-positive TooManyPieces e = omega arith
refused-positive ShortCatalog e = omega arith
refused-positive NotStanding e = omega arith
refused-positive VoidForm e = omega arith
refused-positive LogLength e = omega arith
refused-positive ReplicatePiece e = omega arith
