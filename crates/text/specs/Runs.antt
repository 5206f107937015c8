-- Sorts of bytes, and the longest front of a list that passes a test. Assumes nothing.
use Rattle.std.specs.Prelude.{ℕ, Bool, true, false, not, ◌||◌, List, [], ◌∷◌, eqb}
use Rattle.text.specs.declared.words.Sort.{Sort}
use Rattle.text.specs.declared.words.Sort.TheVariants.{Blank, Letter, Inner, Digit, Gap}
use Rattle.text.specs.Number.{is_digit}

-- between words: space, tab, carriage return; and byte 10, which no line of a text has, but words that are joined may
unfoldable pub blank : ℕ → Bool
blank x = eqb x 32 || (eqb x 9 || (eqb x 13 || eqb x 10))

-- a word ends before a blank, and before # (35), which begins a comment
unfoldable pub of_sort : Sort → ℕ → Bool
of_sort Blank x = blank x
of_sort Letter x = not (blank x || eqb x 35)
of_sort Inner x = not (eqb x 10)
of_sort Digit x = is_digit x
of_sort Gap x = not (is_digit x)

unfoldable pub run : (ℕ → Bool) → List ℕ → List ℕ
run f [] = []
run f (x ∷ xs) = elim (f x) [ true ↦ x ∷ run f xs | false ↦ [] ]

-- what stands behind it
unfoldable pub behind : (ℕ → Bool) → List ℕ → List ℕ
behind f [] = []
behind f (x ∷ xs) = elim (f x) [ true ↦ behind f xs | false ↦ x ∷ xs ]
