-- What the catalog of a page comes to, and the list that it leaves. Assumes nothing.
use Rattle.catalog.specs.Listing.{Listing}
use Rattle.std.specs.Prelude.{ℕ, ◌≡◌, List}
use Rattle.catalog.specs.Call.{outcome, left}
use Rattle.book_pages.specs.ListText.{zeros}

pub record Listed (book : List ℕ) (k g : ℕ) (list' : List ℕ) (r : Listing) : Type 0 where
  pub comes : r ≡ outcome book k g zeros
  pub leaves : list' ≡ (left book k g zeros r).list
