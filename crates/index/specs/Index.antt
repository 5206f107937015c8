-- The index of a book in lent parts: one equation for each part and each count. Assumes nothing.
use Rattle.std.specs.Prelude.{◌≡◌, Bool, List, ℕ, ◌*◌, ◌≤◌, length}
use Rattle.parentheses.specs.Padded.{padded}
use Rattle.index.specs.Tree.{Visit, whole, visits}
use Rattle.index.specs.Parts as on

module _ (n : ℕ) (edge : ℕ → ℕ → Bool) where
  unfoldable pub parentheses_of : List Bool
  parentheses_of = on.parens (whole n edge)

  -- the visits of the tree: a node's or shadow's place is its place in this list
  unfoldable pub visits_of : List Visit
  visits_of = visits (whole n edge)

  -- the lent parts are long enough
  pub record Room (bytes mark_bytes shadow_count place_count : ℕ) : Type 0 where
    pub parens : length parentheses_of ≤ 8 * bytes
    pub marks : length visits_of ≤ 8 * mark_bytes
    pub shadows : length (on.shadows visits_of) ≤ shadow_count
    pub places : n ≤ place_count

  pub record Indexed (parens marks shadows places : List ℕ) (nodes shadowed : ℕ) : Type 0 where
    pub parens-are : parens ≡ on.packed (length parens) parentheses_of
    pub marks-are : marks ≡ on.packed (length marks) (on.marks visits_of)
    pub shadows-are : shadows ≡ padded 0 (length shadows) (on.shadow_list visits_of)
    pub places-are : places ≡ padded 0 (length places) (on.place_list n visits_of)
    pub nodes-are : nodes ≡ length visits_of
    pub shadowed-are : shadowed ≡ length (on.shadows visits_of)
