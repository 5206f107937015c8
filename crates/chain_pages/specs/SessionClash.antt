-- Document 01's session book as text, with a line more that contradicts it: the page of `why` without a claim. Assumes nothing.
use Rattle.std.specs.Prelude.{ℕ, ◌≡◌, true, List, [], ◌∷◌, ◌++◌}
use Rattle.pages.specs.Text.{ascii}
use Rattle.answers.specs.Examples.{session_book}
use Rattle.clash.specs.Clash.{passes}
use Rattle.chain_pages.specs.Clash.{clash_page}
use Rattle.chain_pages.specs.SessionWhy.{step}

abbrev pub clash_source : List ℕ
clash_source = ascii "# bench one\npart 1 0\npart 2 0\npart 3 1\npart 4 1\npart 4 2\npart 5 4\napart 3 4\nmeets 3 2\nnotpart 2 1\nmeets 5 3 # seen again\n"

-- MEETS 5 3 is record 9, on line 11
abbrev pub clash_book : List ℕ
clash_book = session_book ++ (3 ∷ 0 ∷ 5 ∷ 0 ∷ 3 ∷ 0 ∷ [])

-- 5 PART 4 and 4 APART 3 are records 5 and 6
abbrev pub clash_steps : List ℕ
clash_steps = step 0 1 5 4 5 0 ++ (step 0 2 4 3 6 0 ++ step 2 2 5 3 0 1)

abbrev pub SessionClash : Type 0
SessionClash =
    (clash_page clash_source clash_steps
    ≡ ascii "REFUSED 14 9 line 11 the records up to this one contradict each other\n"
    ++ ascii "0 PART 5 4 RECORD 5\n"
    ++ ascii "1 APART 4 3 RECORD 6\n"
    ++ ascii "2 APART 5 3 RULE b FROM 0 1\n")
    × (passes clash_book clash_steps ≡ true)
