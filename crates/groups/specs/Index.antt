-- The index of a book: the tree is that of its groups, and each piece has the place of its group. Assumes nothing.
use Rattle.std.specs.Prelude.{◌≡◌, Bool, List, ℕ, length}
use Rattle.lists.specs.Tab.{tab}
use Rattle.parentheses.specs.Padded.{padded}
use Rattle.index.specs.Pairs.{joined}
use Rattle.index.specs.Tree.{Visit}
use Rattle.index.specs.Parts as on
use Rattle.index.specs.Index.{parentheses_of, visits_of}
use Rattle.groups.specs.Groups.{number, groups, pair}

module _ (n : ℕ) (fact : ℕ → ℕ → Bool) where
  -- the pairs of groups, with the joins
  unfoldable pub edges : ℕ → ℕ → Bool
  edges = joined (groups n fact) (pair n fact)

  unfoldable pub book_parens : List Bool
  book_parens = parentheses_of (groups n fact) edges

  unfoldable pub book_visits : List Visit
  book_visits = visits_of (groups n fact) edges

  unfoldable pub book_places : List ℕ
  book_places = tab (λ g. on.place book_visits (number n fact g)) 0 n

  -- one equation for each part of the index and each count
  pub record BookIndex (parens marks shadows places : List ℕ) (nodes shadowed : ℕ) : Type 0 where
    pub parens-are : parens ≡ on.packed (length parens) book_parens
    pub marks-are : marks ≡ on.packed (length marks) (on.marks book_visits)
    pub shadows-are : shadows ≡ padded 0 (length shadows) (on.shadow_list book_visits)
    pub places-are : places ≡ padded 0 (length places) book_places
    pub nodes-are : nodes ≡ length book_visits
    pub shadowed-are : shadowed ≡ length (on.shadows book_visits)
