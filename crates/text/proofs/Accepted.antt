-- Books and claims that pass their rows are read back from their text, and from either form. Assumes nothing.
use Prim.Native.Nat.{ℕ, ◌*◌, ◌≤◌, ◌<◌}
use mathlib.Core.Path.{◌≡◌, refl, sym, ap, ◌∙◌}
use mathlib.Core.Bool.{true, false, false≢true}
use mathlib.Core.Logic.{◌⊎◌, inl, inr}
use mathlib.Core.List.{List}
use native.Mathlib.Omega.{arith}
use native.Mathlib.Decide.{dec_lt}
use lib.Dec.{eqb, leb}
use lib.ListN.{length, get_or}
use lib.Seq.{take_all}
use borrow.Author.Tests.{eq-eqb, eqb-true, le-leb, lt-leb, leb-true}
use Rattle.lists.proofs.Bools.{Known, is_true, is_false, known, or-either, and_both, both-and}
use Rattle.lists.proofs.Parts.{empty}
use Rattle.records.specs.declared.Record.{Record}
use Rattle.records.specs.declared.Edition.TheVariants.{Current}
use Rattle.records.specs.Record.{record_at, records}
use Rattle.records.specs.Pieces.{stated}
use Rattle.records.specs.Rows.{admitted}
use Rattle.records.proofs.Rows.{Formed}
use Rattle.records.proofs.Accepted.{accepted, accepted-claims}
use Rattle.pages.specs.Text.{ascii}
use Rattle.text.specs.Tests.{if_true}
use Rattle.text.specs.declared.Form.{Form}
use Rattle.text.specs.declared.Form.TheVariants.{Records, Claims}
use Rattle.text.specs.Text.{Entries, bytes_most, read_text}
use Rattle.text.specs.Either.{is_text, as_text, read_either}
use Rattle.text.specs.Shown.{show_records}
use Rattle.text.specs.RoundTrip.{book_text, claim_text, AcceptedRoundTrip, AcceptedClaimsRoundTrip, SameInEither, ClaimsSameInEither}
use Rattle.text.proofs.Marks.{no_bytes}
use Rattle.text.proofs.Firsts.{shown-text, shown-none}
use Rattle.text.proofs.RoundTrips.{round_trip, claims-round-trip}

admits : (r : Record) → admitted Current r ≡ true → (stated r ≡ true) ⊎ (eqb r.kind 6 ≡ true)
unfolding admitted
admits r h = or-either (stated r) (eqb r.kind 6) h

formed-text : (r : Record) → Formed Current r → book_text r ≡ true
unfolding book_text
formed-text r f = both-and (pick (known (eqb r.kind 6))) (le-leb r.origin 1 f.known)
  where
    fact : eqb r.kind 6 ≡ false → (stated r ≡ true) ⊎ (eqb r.kind 6 ≡ true) → stated r ≡ true
    fact e (inl s) = s
    fact e (inr m) = absurd (false≢true (sym e ∙ m))

    pick : Known (eqb r.kind 6) → if_true (eqb r.kind 6) (eqb r.b 0) (stated r) ≡ true
    pick (is_true e) = rw e (eq-eqb r.b 0 (f.marking (eqb-true r.kind 6 e)).1)
    pick (is_false e) = rw e (fact e (admits r f.kind))

pub accepted-round-trip : AcceptedRoundTrip
accepted-round-trip s pieces bytes ok =
    let a = accepted s pieces ok in
    round_trip s record { bytes = bytes; whole = omega (arith, a.whole); each = λ i h. formed-text (record_at s i) (a.each i h) } (omega (arith, a.few))

claim-text : (r : Record) → stated r ≡ true → r.origin ≤ 1 → claim_text r ≡ true
unfolding claim_text
claim-text r k o = both-and k (le-leb r.origin 1 o)

pub accepted-claims-round-trip : AcceptedClaimsRoundTrip
accepted-claims-round-trip s pieces bytes ok =
    let a = accepted-claims pieces s ok in
    claims-round-trip s record { bytes = bytes; whole = omega (arith, a.whole); each = λ i h. claim-text (record_at s i) (a.kinds i h) (a.origins i h) } (omega (arith, a.few))

-- ## either form

module _ (form : Form) (tested : (s : List ℕ) → as_text form s ≡ is_text s) (choice s : List ℕ) (six : length s ≡ 6 * records s) where
  is_read : (t : List ℕ) → is_text t ≡ true → read_either form t ≡ read_text form t
  unfolding read_either
  is_read t e = rw (tested t, e)

  is-kept : is_text s ≡ false → length s ≤ bytes_most form → read_either form s ≡ Entries s
  unfolding read_either
  is-kept e h = rw (tested s, e) (ap Entries (take_all (bytes_most form) s h))

  -- bytes that are no text, and a text from which they are read
  both : is_text s ≡ false → length s ≤ bytes_most form → read_text form (show_records choice s) ≡ Entries s
      → (read_either form s ≡ Entries s) × (read_either form (show_records choice s) ≡ Entries s)
  both e h back = (
    is-kept e h,
    elim (dec_lt 0 (records s)) [
      | yes l ↦ is_read (show_records choice s) (shown-text choice s l) ∙ back
      | no l ↦ ap (read_either form) (shown-none choice s (omega arith) ∙ sym (empty s (omega (arith, six)))) ∙ is-kept e h
    ],
  )

-- no record that passes row 5, and no claim that passes row 12, begins with a byte of 9 or more
fact_small : (r : Record) → stated r ≡ true → r.kind ≤ 6
unfolding stated
fact_small r e = omega (arith, leb-true r.kind 4 (and_both (leb 1 r.kind) (leb r.kind 4) e).1)

kind-small : (r : Record) → Formed Current r → r.kind ≤ 6
kind-small r f = pick (admits r f.kind)
  where
    pick : (stated r ≡ true) ⊎ (eqb r.kind 6 ≡ true) → r.kind ≤ 6
    pick (inl e) = fact_small r e
    pick (inr e) = omega (arith, eqb-true r.kind 6 e)

no_text : (s : List ℕ) → length s ≡ 6 * records s → (0 < records s → (record_at s 0).kind ≤ 6) → is_text s ≡ false
unfolding is_text record_at
no_text s six h =
    elim (dec_lt 0 (records s)) [
      | yes l ↦ lt-leb 9 (get_or s 0 0) (omega (arith, h l))
      | no l ↦ sym (no_bytes s (omega (arith, six)))
    ]

pub same-in-either : SameInEither
same-in-either s pieces bytes ok =
    let a = accepted s pieces ok in
    both Records (λ t. refl) (ascii "scanner") s a.whole (no_text s a.whole (λ h. kind-small (record_at s 0) (a.each 0 h))) (omega (arith, a.whole, a.few)) (accepted-round-trip s pieces bytes ok)

pub claims-same-in-either : ClaimsSameInEither
claims-same-in-either s pieces bytes ok =
    let a = accepted-claims pieces s ok in
    both Claims (λ t. refl) (ascii "sheets") s a.whole (no_text s a.whole (λ h. fact_small (record_at s 0) (a.kinds 0 h))) (omega (arith, a.whole, a.few)) (accepted-claims-round-trip s pieces bytes ok)
