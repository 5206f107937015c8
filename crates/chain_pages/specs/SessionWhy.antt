-- Document 01's session book and `why`: two claims and steps behind them, from the words to the lines, and that the pages verify. Assumes nothing.
use Rattle.std.specs.Prelude.{ℕ, ◌≡◌, List, [], ◌∷◌, ◌++◌}
use Rattle.pages.specs.Text.{ascii}
use Rattle.answers.specs.Examples.{session_book}
use Rattle.chain_pages.specs.Verified.{Verified}
use Rattle.chain_pages.specs.WhyText.{why_page}

-- a step by rule r of kind k on pieces below 256
abbrev pub step : (r k a b first second : ℕ) → List ℕ
step r k a b first second = r ∷ k ∷ a ∷ 0 ∷ b ∷ 0 ∷ first ∷ 0 ∷ second ∷ 0 ∷ []

-- 5 PART 4 and 4 PART 2 are records 5 and 4; 2 NOTPART 1 is record 8
abbrev pub part_steps : List ℕ
part_steps = step 0 1 5 4 5 0 ++ (step 0 1 4 2 4 0 ++ step 1 1 5 2 0 1)

abbrev pub notpart_steps : List ℕ
notpart_steps = step 0 4 2 1 8 0

abbrev pub part_page : List ℕ
part_page = ascii "PART 5 2 FOLLOWS\n0 PART 5 4 RECORD 5\n1 PART 4 2 RECORD 4\n2 PART 5 2 RULE a FROM 0 1\n"

abbrev pub notpart_page : List ℕ
notpart_page = ascii "PART 2 1 DENIED\n0 NOTPART 2 1 RECORD 8\n"

abbrev pub SessionWhy : Type 0
SessionWhy =
    (why_page session_book (ascii "part 5 2") part_steps ≡ part_page)
    × (why_page session_book (ascii "PART 2 1 all") notpart_steps ≡ notpart_page)

abbrev pub SessionVerified : Type 0
SessionVerified = Verified session_book part_page × Verified session_book notpart_page
