-- The page of words, by the kind of a list's claims. Assumes nothing.
use Prim.Native.Nat.{ℕ, ◌≤◌}
use mathlib.Core.Path.{◌≡◌}
use mathlib.Core.List.{List}
use lib.ListN.{length}
use Rattle.pages.specs.Written.{Page}
use Rattle.std.specs.Prelude.{Option, Some, None}
use Rattle.book_pages.specs.ListText.{list_text}
use Rattle.chain_pages.specs.Why.{Why}
use Rattle.commands.specs.declared.WordsPage.{WordsPage}
use Rattle.commands.specs.declared.WordsPage.TheVariants as words
use Rattle.pbook.specs.Paged.{list_kind, WordsPaged}

module _ (source said page page' : List ℕ) (r : Option ℕ) where
  pub why-page : (which : WordsPage) → None ≡ list_kind which → Why source said page page' r → WordsPaged which source said page page' r
  why-page words.Why e w = w
  why-page words.Inside e w = cc
  why-page words.Touching e w = cc
  why-page words.Apart e w = cc

  pub list-page : (k : ℕ) (which : WordsPage) → Some k ≡ list_kind which → Page page (list_text source k said) page' r × (length (list_text source k said) ≤ 12300)
      → WordsPaged which source said page page' r
  list-page k words.Why e l = cc
  list-page k words.Inside e l = let n : k ≡ 1 = cc in record { page-is = rw n at l.0; short = rw n at l.1 }
  list-page k words.Touching e l = let n : k ≡ 3 = cc in record { page-is = rw n at l.0; short = rw n at l.1 }
  list-page k words.Apart e l = let n : k ≡ 2 = cc in record { page-is = rw n at l.0; short = rw n at l.1 }
