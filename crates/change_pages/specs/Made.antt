-- What such a command leaves: its page, and the new book at the front of the lent bytes. Assumes nothing.
use Rattle.std.specs.Prelude.{ℕ, ◌≤◌, ◌≡◌, false, Option, Some, None, List, length, take}
use Rattle.pages.specs.Written.{Page}
use Rattle.change_pages.specs.declared.Changed.{Changed}
use Rattle.change_pages.specs.Change.{Change, New, change_text, changes}

-- the first n bytes are the new book; or there is none
abbrev pub Book : Change → (out' : List ℕ) → Option ℕ → Type 0
Book x out' (Some n) = (n ≤ length out') × (x ≡ New (take n out'))
Book x out' None = changes x ≡ false

pub record Made (x : Change) (out' page page' : List ℕ) (r : Changed) : Type 0 where
  pub page-is : Page page (change_text x) page' r.written
  -- 142 bytes always serve
  pub short : length (change_text x) ≤ 142
  pub book-is : Book x out' r.book
