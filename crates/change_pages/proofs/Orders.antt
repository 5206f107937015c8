-- What the words order, by their cases and those of the source; and the changes that are made by it. Assumes nothing.
use Prim.Native.Nat.{ℕ, ◌≤◌, min}
use mathlib.Core.Path.{◌≡◌, ◌∙◌, ap, sym, subst}
use mathlib.Core.Bool.{true, false}
use mathlib.Core.List.{List, [], ◌++◌}
use native.Mathlib.Omega.{arith}
use native.Mathlib.Decide.{dec_lt}
use lib.ListN.{length, take}
use lib.Seq.{take_all, length-take-le}
use Rattle.records.specs.declared.Record.{Record}
use Rattle.outcomes.specs.Fresh.{fresh_call}
use Rattle.text.specs.declared.Form.{Form}
use Rattle.text.specs.declared.Form.TheVariants.{Records, Log}
use Rattle.text.specs.Entry.{six_bytes}
use Rattle.text.specs.Either.{is_text}
use Rattle.sentences.specs.Unread.{whom_number, cause_number, unread_line}
use Rattle.sentences.specs.Arguments.{words_of}
use Rattle.std.specs.Prelude.{Result, Ok, Err}
use Rattle.sentences.specs.declared.Cause.{Cause}
use Rattle.sentences.specs.declared.Cause.TheVariants.{NotRecords}
use Rattle.sentences.specs.declared.Whom.TheVariants.{Book, Words}
use Rattle.change_pages.specs.declared.Order.{Order}
use Rattle.change_pages.specs.declared.NoOrder.{NoOrder}
use Rattle.change_pages.specs.Change.{Kept}
use Rattle.change_pages.specs.Changes.{judged, of_records, adding, without, withdrawn, withdrawing}
use Rattle.change_pages.specs.Order.{Ordered}

-- so many bytes of records are taken
taken : (source : List ℕ) (n : ℕ) → n ≡ min (length source) 49158 → take n source ≡ take 49158 source
taken source n i =
    elim (dec_lt (length source) 49158) [
      | yes l ↦ take_all n source (omega (arith, i)) ∙ sym (take_all 49158 source (omega arith))
      | no l ↦ (let j : n ≡ 49158 = omega (arith, i) in ap (λ (k : ℕ). take k source) j)
    ]

module _ (form : Form) (source words : List ℕ) where
  module _ (w : Result Record Cause) (is : w ≡ words_of form words) where
    pub order-wrong : (cause : Cause) → w ≡ Err cause → Ordered form source words (Err (record { whom = Words; cause = cause }))
    order-wrong cause so make = rw (sym is ∙ so)

    module _ (r : Record) (so : w ≡ Ok r) where
      pub order-text : is_text source ≡ true → Ordered form source words (Err (record { whom = Book; cause = NotRecords }))
      unfolding of_records
      order-text t make = rw (sym is ∙ so, t)

      pub order-edit : is_text source ≡ false → (n : ℕ) → n ≡ min (length source) 49158 → Ordered form source words (Ok (record { entry = r; length = n }))
      unfolding of_records
      order-edit t n i = (omega (arith, i), omega (arith, i), λ make. rw (taken source n i, sym is ∙ so, t))

  pub edit-short : (o : Order) → Ordered form source words (Ok o) → length (take o.length source) ≤ 49158
  edit-short o h = omega (arith, length-take-le o.length source h.0, h.1)

  module _ (r : Result Order NoOrder) (does : Ordered form source words r) where
    pub ordered-edit : (o : Order) → r ≡ Ok o → Ordered form source words (Ok o)
    ordered-edit o so = subst (Ordered form source words) so does

    pub ordered-unread : (w : NoOrder) → r ≡ Err w → Ordered form source words (Err w)
    ordered-unread w so = subst (Ordered form source words) so does

module _ (source words : List ℕ) where
  module _ (w : NoOrder) where
    pub add-unread : Ordered Records source words (Err w) → Kept (unread_line (whom_number w.whom) 0 (cause_number w.cause)) ≡ adding source words
    unfolding adding
    add-unread h = h (λ r book. judged source (book ++ six_bytes r) (fresh_call (book ++ six_bytes r) []))

    pub withdraw-unread : Ordered Log source words (Err w) → Kept (unread_line (whom_number w.whom) 0 (cause_number w.cause)) ≡ withdrawing source words
    unfolding withdrawing
    withdraw-unread h = h (λ r book. judged source (without book r.a) (withdrawn book r.a))

  module _ (o : Order) where
    pub added : Ordered Records source words (Ok o) → (six : List ℕ) → six ≡ six_bytes o.entry
        → judged source (take o.length source ++ six) (fresh_call (take o.length source ++ six) []) ≡ adding source words
    unfolding adding
    added h six e = ap (λ s. judged source (take o.length source ++ s) (fresh_call (take o.length source ++ s) [])) e ∙ h.2 (λ r book. judged source (book ++ six_bytes r) (fresh_call (book ++ six_bytes r) []))

    pub withdrawn-is : Ordered Log source words (Ok o) → judged source (without (take o.length source) o.entry.a) (withdrawn (take o.length source) o.entry.a) ≡ withdrawing source words
    unfolding withdrawing
    withdrawn-is h = h.2 (λ r book. judged source (without book r.a) (withdrawn book r.a))
