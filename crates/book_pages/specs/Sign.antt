-- The sign of two pieces on the page of a grid, by which claims about them follow. Assumes nothing.
use Rattle.std.specs.Prelude.{ℕ, Bool, true, false, ◌&&◌, ◌||◌}
use Rattle.rules.specs.Fact.{Fact, PART, APART, MEETS, NOTPART}

abbrev pub pick : {A : Type 0} → Bool → A → A → A
pick true x y = x
pick false x y = y

-- `=` both PART of each other, `<` a PART of b, `>` b PART of a, `|` APART, `x` MEETS and NOTPART both ways, `o` MEETS, `.` none of these: the
-- first that holds
unfoldable pub sign_of : (part part_of apart meets not not_of : Bool) → ℕ
sign_of part part_of apart meets not not_of =
    pick (part && part_of) 61 (pick part 60 (pick part_of 62 (pick apart 124 (pick (meets && (not && not_of)) 120 (pick meets 111 46)))))

unfoldable pub between : (Fact → Bool) → ℕ → ℕ → ℕ
between D a b = sign_of (D (PART a b)) (D (PART b a)) (D (APART a b)) (D (MEETS a b)) (D (NOTPART a b)) (D (NOTPART b a))

-- `v` where a or b is void, which is APART from itself
unfoldable pub sign : (Fact → Bool) → ℕ → ℕ → ℕ
sign D a b = pick (D (APART a a) || D (APART b b)) 118 (between D a b)
