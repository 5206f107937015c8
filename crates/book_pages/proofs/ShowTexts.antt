-- The text of a book that is shown, by what the checks come to, and how long it is; and of words that can be read. Assumes nothing.
use Rattle.std.specs.Prelude.{Ok}
use Rattle.records.specs.Refused.{BookCheck, refused_at}
use Prim.Native.Nat.{ℕ, ◌≤◌, ◌<◌}
use mathlib.Core.Path.{◌≡◌, sym}
use mathlib.Core.List.{List, []}
use native.Mathlib.Omega.{arith}
use lib.ListN.{length, get_or}
use borrow.Author.Tests.{eq-eqb, ne_eqb}
use Rattle.records.specs.Check.{book_check}
use Rattle.records.specs.declared.Refusal.{Refusal}
use Rattle.text.specs.Shown.{show_book}
use Rattle.text.proofs.Pages.{shown-length}
use Rattle.pages.specs.Text.{ascii}
use Rattle.pages.specs.Put.{Put}
use Rattle.pages.proofs.Puts.{nothing}
use Rattle.sentences.specs.Refusals as line
use Rattle.book_pages.specs.ShowText.{text_of, shown_text}

module _ (book source : List ℕ) (c : BookCheck) (is : c ≡ book_check book) where
  module _ (r : Refusal) (i : ℕ) (so : c ≡ refused_at r i) where
    pub refused : line.refused r i source [] ≡ shown_text book source
    unfolding shown_text text_of
    refused = rw (sym is, so)

  module _ (n : ℕ) (so : c ≡ Ok n) where
    pub empty : length book ≡ 0 → ascii "# no records\n" ≡ shown_text book source
    unfolding shown_text text_of
    empty h = rw (sym is, so, eq-eqb (length book) 0 h)

    pub shown : (length book ≡ 0 → ⊥) → show_book book ≡ shown_text book source
    unfolding shown_text text_of
    shown h = rw (sym is, so, ne_eqb (length book) 0 h)

-- 28 bytes a record
pub shown-short : (book : List ℕ) → ((k : ℕ) → get_or book k 0 < 256) → length book ≤ 49158 → length (show_book book) ≤ 229404
shown-short book bytes h = omega (arith, (shown-length book bytes).0)

-- no text is put from the start on
pub put-none : {p : List ℕ} → Put p 0 [] p 0 × (length {A = ℕ} [] ≤ 95)
put-none = (nothing, omega arith)
