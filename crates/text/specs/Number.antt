-- The number that a word is: one or more digits, of a value up to 65,535. Assumes nothing.
use Rattle.std.specs.Prelude.{ℕ, ◌+◌, ◌*◌, ◌-◌, Bool, true, ◌&&◌, Option, Some, None, List, [], ◌∷◌, leb}
use Rattle.text.specs.Tests.{if_true}

unfoldable pub is_digit : ℕ → Bool
is_digit x = leb 48 x && leb x 57

unfoldable pub digits : List ℕ → Bool
digits [] = true
digits (x ∷ xs) = is_digit x && digits xs

-- the value of digits behind those of n
unfoldable pub value : ℕ → List ℕ → ℕ
value n [] = n
value n (x ∷ xs) = value (10 * n + (x - 48)) xs

unfoldable pub number_from : ℕ → List ℕ → Option ℕ
number_from n l = if_true (digits l && leb (value n l) 65535) (Some (value n l)) None

unfoldable pub number : List ℕ → Option ℕ
number [] = None
number (x ∷ xs) = number_from 0 (x ∷ xs)
