-- The line of a record is read back. Assumes nothing.
use Prim.Native.Nat.{ℕ, zero, suc, ◌≤◌}
use mathlib.Core.Path.{◌≡◌, refl, sym, ap, ap₂, ◌∙◌}
use mathlib.Core.Bool.{Bool, true, ◌&&◌, false≢true}
use mathlib.Core.List.{List, [], ◌∷◌, ◌++◌}
use native.Mathlib.Omega.{arith}
use lib.Dec.{leb, eqb}
use lib.ListN.{length}
use borrow.Author.Tests.{eqb-true, eqb-false, leb-true}
use Rattle.lists.proofs.Bools.{Known, is_true, is_false, known, and_both}
use Rattle.records.specs.declared.Record.{Record}
use Rattle.records.specs.Pieces.{stated}
use Rattle.pages.specs.Text.{ascii}
use Rattle.pages.specs.Decimal.{decimal}
use Rattle.text.specs.Tests.{if_true}
use Rattle.text.specs.declared.Form.{Form}
use Rattle.text.specs.declared.Form.TheVariants.{Records, Claims}
use Rattle.text.specs.declared.Reason.TheVariants.{NotKind}
use Rattle.std.specs.Prelude.{Some, None, Ok}
use Rattle.text.specs.Runs.{blank, of_sort}
use Rattle.text.specs.Names.{lower, same, place, kind_of, choice_of}
use Rattle.text.specs.Line.{Said, entry, if_there, with_number, lastly, secondly, kinded, said, some_entry, line_of}
use Rattle.text.specs.Lines.{lines}
use Rattle.text.specs.Word.{word, rest}
use Rattle.text.specs.Shown.{kind_word, number_fields, choice_fields, show_record}
use Rattle.text.specs.RoundTrip.{book_text, claim_text}
use Rattle.text.proofs.Said.{if_some, kinded-is, second-void, second-else}
use Rattle.text.proofs.Decimals.{decimal-spelled, number-decimal}
use Rattle.text.proofs.Fields.{letters, Field, Fields, none, with, spaced, digits-letters, first_word, first_rest, next_word, next-rest, last_word, line_first}

-- ## the fields of a record

decimal-field : (n : ℕ) → Field (decimal n)
decimal-field n = let s = decimal-spelled n in record { some = s.some; plain = digits-letters (decimal n) s.all }

-- a kind that has a word, which is read as that kind
pub record Kind (form : Form) (k : ℕ) : Type 0 where
  pub field : Field (kind_word k)
  pub back : kind_of form (kind_word k) ≡ Some k

abbrev Back : ℕ → Type 0
Back k = Field (kind_word k) × (kind_of Records (kind_word k) ≡ Some k) × (kind_of Claims (kind_word k) ≡ Some k)

four : (k : ℕ) → (leb 1 k && leb k 4) ≡ true → Back k
unfolding kind_word kind_of place same lower letters of_sort blank
four zero h = absurd (false≢true h)
four (suc zero) h = (record { some = omega arith; plain = refl }, refl, refl)
four (suc (suc zero)) h = (record { some = omega arith; plain = refl }, refl, refl)
four (suc (suc (suc zero))) h = (record { some = omega arith; plain = refl }, refl, refl)
four (suc (suc (suc (suc zero)))) h = (record { some = omega arith; plain = refl }, refl, refl)
four (suc (suc (suc (suc (suc k))))) h =
    absurd (omega (arith, leb-true (suc (suc (suc (suc (suc k))))) 4 (and_both (leb 1 (suc (suc (suc (suc (suc k)))))) (leb (suc (suc (suc (suc (suc k))))) 4) h).1))

void : Kind Records 6
unfolding kind_word kind_of place same lower letters of_sort blank
void = record { field = record { some = omega arith; plain = refl }; back = refl }

-- a record that has a text
pub record Textual (form : Form) (r : Record) : Type 0 where
  pub kind : Kind form r.kind
  pub origin : r.origin ≤ 1
  pub void : eqb r.kind 6 ≡ true → r.b ≡ 0

pub book-textual : (r : Record) → book_text r ≡ true → Textual Records r
unfolding book_text stated
book-textual r t = pick (known (eqb r.kind 6)) (and_both (if_true (eqb r.kind 6) (eqb r.b 0) (leb 1 r.kind && leb r.kind 4)) (leb r.origin 1) t)
  where
    pick : Known (eqb r.kind 6) → (if_true (eqb r.kind 6) (eqb r.b 0) (leb 1 r.kind && leb r.kind 4) ≡ true) × (leb r.origin 1 ≡ true) → Textual Records r
    pick (is_true e) h =
        record {
          kind = let k : r.kind ≡ 6 = eqb-true r.kind 6 e in rw k void;
          origin = leb-true r.origin 1 h.1;
          void = λ _. eqb-true r.b 0 (rw e at h.0);
        }
    pick (is_false e) h =
        record {
          kind = (let g = four r.kind (rw e at h.0) in record { field = g.0; back = g.1 });
          origin = leb-true r.origin 1 h.1;
          void = λ q. absurd (false≢true (sym e ∙ q));
        }

small-kind : (k : ℕ) → (leb 1 k && leb k 4) ≡ true → eqb k 6 ≡ true → ⊥
small-kind k h e = omega (arith, eqb-true k 6 e, leb-true k 4 (and_both (leb 1 k) (leb k 4) h).1)

pub claim-textual : (r : Record) → claim_text r ≡ true → Textual Claims r
unfolding claim_text stated
claim-textual r t =
    let h = and_both (leb 1 r.kind && leb r.kind 4) (leb r.origin 1) t in
    record {
      kind = (let g = four r.kind h.0 in record { field = g.0; back = g.2 });
      origin = leb-true r.origin 1 h.1;
      void = λ q. absurd (small-kind r.kind h.0 q);
    }

-- a form whose entries are shown, and its word for byte 1 that is 1
pub record Choice (form : Form) (choice : List ℕ) : Type 0 where
  pub field : Field choice
  pub back : choice_of form choice ≡ Some 1
  pub says : (l : List ℕ) → said form l ≡ if_there (kind_of form (word l)) NotKind (λ kind. kinded form kind (rest l))

pub scanner : Choice Records (ascii "scanner")
unfolding choice_of place same lower letters of_sort blank
scanner = record { field = record { some = omega arith; plain = refl }; back = refl; says = λ l. refl }

pub sheets : Choice Claims (ascii "sheets")
unfolding choice_of place same lower letters of_sort blank
sheets = record { field = record { some = omega arith; plain = refl }; back = refl; says = λ l. refl }

module _ (form : Form) (choice : List ℕ) (c : Choice form choice) where
  choice-fields : (x : ℕ) → x ≤ 1 → Fields (choice_fields choice x)
  choice-fields zero h = none
  choice-fields (suc zero) h = with c.field none
  choice-fields (suc (suc x)) h = absurd (omega arith)

  -- ## reading them

  with-decimal : (n : ℕ) (fs : List (List ℕ)) (more : ℕ → List ℕ → Said) → n ≤ 65535 → with_number (spaced (decimal n ∷ fs)) more ≡ more n (spaced fs)
  unfolding with_number
  with-decimal n fs more h = rw (next_word (decimal n) fs (decimal-field n), next-rest (decimal n) fs (decimal-field n), number-decimal n h)

  last-shown : (kind a b x : ℕ) → x ≤ 1 → lastly form kind a b (spaced (choice_fields choice x)) ≡ Ok (entry kind x a b)
  unfolding lastly
  last-shown kind a b zero h = rw last_word
  last-shown kind a b (suc zero) h =
      rw (next_word choice [] c.field, next-rest choice [] c.field, last_word, c.back)
      (if_some choice _ _ (λ z. omega (arith, c.field.some)))
  last-shown kind a b (suc (suc x)) h = absurd (omega arith)

  module _ (r : Record) (t : Textual form r) (ha : r.a ≤ 65535) (hb : r.b ≤ 65535) where
    -- the fields behind a
    abbrev others : List (List ℕ)
    others = if_true (eqb r.kind 6) (choice_fields choice r.origin) (decimal r.b ∷ choice_fields choice r.origin)

    -- the line, without its end
    abbrev pub body_of : List ℕ
    body_of = kind_word r.kind ++ spaced (decimal r.a ∷ others)

    fields-are : number_fields r ++ choice_fields choice r.origin ≡ decimal r.a ∷ others
    fields-are = pick (known (eqb r.kind 6))
      where
        pick : Known (eqb r.kind 6) → number_fields r ++ choice_fields choice r.origin ≡ decimal r.a ∷ others
        pick (is_true e) = rw e
        pick (is_false e) = rw e

    other-fields : Fields others
    other-fields = pick (known (eqb r.kind 6))
      where
        pick : Known (eqb r.kind 6) → Fields others
        pick (is_true e) = rw e (choice-fields r.origin t.origin)
        pick (is_false e) = rw e (with (decimal-field r.b) (choice-fields r.origin t.origin))

    second-shown : secondly form r.kind r.a (spaced others) ≡ Ok r
    second-shown = pick (known (eqb r.kind 6))
      where
        pick : Known (eqb r.kind 6) → secondly form r.kind r.a (spaced others) ≡ Ok r
        pick (is_true e) =
            ap (λ (b : Bool). secondly form r.kind r.a (spaced (if_true b (choice_fields choice r.origin) (decimal r.b ∷ choice_fields choice r.origin)))) e
            ∙ sym (second-void form r.kind r.a (spaced (choice_fields choice r.origin)) (eqb-true r.kind 6 e))
            ∙ last-shown r.kind r.a 0 r.origin t.origin
            ∙ ap (λ (x : ℕ). Ok (entry r.kind r.origin r.a x)) (sym (t.void e))
        pick (is_false e) =
            ap (λ (b : Bool). secondly form r.kind r.a (spaced (if_true b (choice_fields choice r.origin) (decimal r.b ∷ choice_fields choice r.origin)))) e
            ∙ sym (second-else form r.kind r.a (spaced (decimal r.b ∷ choice_fields choice r.origin)) (eqb-false r.kind 6 e))
            ∙ with-decimal r.b (choice_fields choice r.origin) (λ b m. lastly form r.kind r.a b m) hb
            ∙ last-shown r.kind r.a r.b r.origin t.origin

    pub line-shown : line_of form body_of ≡ Ok (Some r)
    unfolding line_of
    line-shown =
        let f = t.kind.field in
        let w : word body_of ≡ kind_word r.kind = first_word (kind_word r.kind) (decimal r.a ∷ others) f in
        let others-read : kinded form r.kind (spaced (decimal r.a ∷ others)) ≡ Ok r =
        sym (kinded-is form r.kind (spaced (decimal r.a ∷ others))) ∙ with-decimal r.a others (λ a m. secondly form r.kind a m) ha ∙ second-shown in
        if_some (word body_of) (Ok None) (some_entry (said form body_of)) (λ z. omega (arith, ap length w, f.some))
        ∙ ap some_entry (c.says body_of)
        ∙ ap₂ (λ x y. some_entry (if_there x NotKind (λ kind. kinded form kind y))) (ap (kind_of form) w ∙ t.kind.back) (first_rest (kind_word r.kind) (decimal r.a ∷ others) f)
        ∙ ap some_entry others-read

    pub lines-shown : (more : List ℕ) → lines (show_record choice r ++ more) ≡ body_of ∷ lines more
    unfolding show_record
    lines-shown more =
        rw fields-are
        (line_first (kind_word r.kind) (decimal r.a ∷ others) more t.kind.field (with (decimal-field r.a) other-fields))
