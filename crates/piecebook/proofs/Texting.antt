-- What C gets of a text that is read and of one that is shown, from what the calls promise. Assumes nothing.
use Prim.Native.Nat.{ℕ, zero, suc, ◌≤◌}
use mathlib.Core.Path.{◌≡◌, refl, sym, ap, subst, ◌∙◌}
use mathlib.Core.List.{List, ◌++◌}
use native.Mathlib.Omega.{arith}
use lib.ListN as on
use lib.ListN.{drop, take-append-drop}
use borrow.Author.Tests.{lt-ltb, le-ltb}
use Rattle.lists.specs.Front.{front}
use Rattle.pages.specs.Written.{Page}
use Rattle.std.specs.Prelude.{Option, Some, None, Result}
use Rattle.text.specs.declared.Form.{Form}
use Rattle.text.specs.declared.Form.TheVariants.{Records, Claims, Log}
use Rattle.text.specs.declared.reading.Unread.{Unread}
use Rattle.text.specs.Text.{read_text}
use Rattle.text.specs.Lent.{into, leaves}
use Rattle.piecebook.specs.Texts.{Told, ReadAs, Reads, Handed, Shows}
use Rattle.piecebook.specs.declared.texts.PiecebookReading.{PiecebookReading}
use Rattle.piecebook.specs.declared.texts.PiecebookShown.{PiecebookShown}

pub read-so :
    (form : Form) (text out : List ℕ) (o : Result ℕ Unread) (out' : List ℕ) (r : PiecebookReading)
    → (o ≡ into form (on.length out) (read_text form text)) × (out' ≡ leaves form (read_text form text) out) → Told o r → ReadAs form text out r out'
read-so form text out o out' r p t = record { told = subst (λ (x : Result ℕ Unread). Told x r) p.0 t; left_is = p.1 }

-- ## the forms by their numbers

module _ (n : ℕ) {text out : List ℕ} {r : PiecebookReading} {out' : List ℕ} where
  pub reads-records : n ≡ 0 → ReadAs Records text out r out' → Reads n text out r out'
  reads-records e a = rw e a

  pub reads-claims : n ≡ 1 → ReadAs Claims text out r out' → Reads n text out r out'
  reads-claims e a = rw e a

  pub reads-log : n ≡ 2 → ReadAs Log text out r out' → Reads n text out r out'
  reads-log e a = rw e a

pub reads_none :
    (n : ℕ) (text out : List ℕ) → (n ≡ 0 → ⊥) → (n ≡ 1 → ⊥) → (n ≡ 2 → ⊥) → Reads n text out (record { number = 7; line = 0; length = 0 }) out
reads_none zero text out a b c = absurd (a refl)
reads_none (suc zero) text out a b c = absurd (b refl)
reads_none (suc (suc zero)) text out a b c = absurd (c refl)
reads_none (suc (suc (suc n))) text out a b c = record { number_is = refl; line-is = refl; length-is = refl; left_is = refl }

-- ## a shown page

pub shows-so :
    (text page page' : List ℕ) (w : Option ℕ) (r : PiecebookShown) → on.length page' ≡ on.length page → Page page text page' w → Handed w r → Shows text page r page'
unfolding front
shows-so text page page' (Some e) r k p l =
    let m : on.length text ≡ e = ap on.length (sym p.first) ∙ sym p.counts.1 in
    let h : on.length text ≤ on.length page = omega (arith, m, k, p.counts.0) in
    record {
      number_is = rw (le-ltb (on.length page) (on.length text) h) l.number_is;
      length-is = rw (le-ltb (on.length page) (on.length text) h) (l.length-is ∙ sym m);
      left_is =
          λ z. sym (take-append-drop e page') ∙ ap (λ (x : List ℕ). x ++ drop e page') p.first ∙ ap (λ (x : List ℕ). text ++ x) p.rest
          ∙ ap (λ (i : ℕ). text ++ drop i page) (sym m);
    }
shows-so text page page' None r k p l =
    record {
      number_is = rw (lt-ltb (on.length page) (on.length text) p) l.number_is;
      length-is = rw (lt-ltb (on.length page) (on.length text) p) l.length-is;
      left_is = λ z. absurd (omega (arith, z, l.number_is));
    }
