-- The rules that a step may cite, by number: what each asks and what it shows, about any pieces g, h, k. Assumes nothing.
use Rattle.std.specs.Prelude.{ℕ, List, [], ◌∷◌, get_or}
use Rattle.rules.specs.Fact.{Fact, PART, APART, MEETS, NOTPART}

pub data Form : Type 0 where
  -- there is no such rule
  unknown : Form
  -- a record of the book, which shows what it says
  stored : Form
  -- nothing is asked
  freely : Fact → Form
  -- that the piece is not marked
  unmarked : ℕ → Fact → Form
  -- a record that marks the piece
  marked : ℕ → Fact → Form
  -- two premises, in the order in which the rule names them, and what they show
  from : Fact → Fact → Fact → Form

-- 0 is stored; 1 to 9 are document 01's (a), (b), (c), (f), (a'), (b'), (c'), (d'), (e'); 10 and 11 are (d) and (e) of marked pieces
unfoldable pub table : List (ℕ → ℕ → ℕ → Form)
table =
    (λ g h k. stored)
    ∷ (λ g h k. from (PART g h) (PART h k) (PART g k))
    ∷ (λ g h k. from (PART g h) (APART h k) (APART g k))
    ∷ (λ g h k. freely (PART g g))
    ∷ (λ g h k. freely (PART g 0))
    ∷ (λ g h k. from (PART g h) (NOTPART g k) (NOTPART h k))
    ∷ (λ g h k. from (NOTPART g k) (PART h k) (NOTPART g h))
    ∷ (λ g h k. from (PART h k) (MEETS g h) (MEETS g k))
    ∷ (λ g h k. from (MEETS g h) (APART k h) (NOTPART g k))
    ∷ (λ g h k. unmarked g (MEETS g g))
    ∷ (λ g h k. marked g (APART g k))
    ∷ (λ g h k. marked g (PART g k))
    ∷ []

unfoldable pub rule : ℕ → ℕ → ℕ → ℕ → Form
rule r = get_or table r (λ g h k. unknown)
