-- What a list of pieces is, by derivations and by models. Assumes nothing.
use Rattle.std.specs.Prelude.{◌≡◌, ◌↔◌, Bool, ℕ, ◌<◌, length, get_or}
use mathlib.Core.List.{List, Memᴰ}
use Rattle.rules.specs.Fact.{Fact, fact_of}
use Rattle.rules.specs.Derives.{Derives}
use Rattle.rules.specs.Model.{Model, keeps, keeps_all}
use Rattle.records.specs.Facts.{facts}
use Rattle.records.specs.Marked.{marked}
use Rattle.records.specs.Pieces.{piece_count}
use Rattle.catalog.specs.Lent.{Lent}
use Rattle.catalog.specs.Outcome.{number}
use Rattle.catalog.specs.Call.{list_of, outcome}

-- exactly the pieces x of which the claim of kind k about x and g has a derivation, which are those of which it is true in every model; in rising
-- number, each once
pub record Certain (void : ℕ → Bool) (n : ℕ) (fs : List Fact) (k g : ℕ) (xs : List ℕ) : Type 0 where
  pub rising : (i j : ℕ) → i < j → j < length xs → get_or xs i 0 < get_or xs j 0
  pub below : (x : ℕ) → Memᴰ x xs → x < n
  pub derived : (x : ℕ) → x < n → Memᴰ x xs ↔ Derives void n fs (fact_of k x g)
  pub entailed : (x : ℕ) → x < n → Memᴰ x xs ↔ ((M : Model void n) → keeps_all M fs → keeps M (fact_of k x g))

-- the list of every accepted catalog
abbrev pub AllCertain : Type 0
AllCertain =
    (s : List ℕ) (k g : ℕ) (l : Lent) → number (outcome s k g l) ≡ 0 → Certain (marked s) (piece_count s) (facts s) k g (list_of s (piece_count s) k g)
