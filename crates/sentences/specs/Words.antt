-- The words of the pages, each a line of a table: of kinds, of answers, and of how two answers agree. Assumes nothing.
use Rattle.std.specs.Prelude.{ℕ, List}
use Rattle.pages.specs.Text.{ascii}
use Rattle.pages.specs.Entry.{entry}

-- kinds 1 to 4 and 6
abbrev pub kinds : List ℕ
kinds = ascii "\nPART\nAPART\nMEETS\nNOTPART\n\nVOID\n"

abbrev pub answers : List ℕ
answers = ascii "\nFOLLOWS\nDENIED\nOPEN\n"

abbrev pub agreements : List ℕ
agreements = ascii "\nSAME\nONE OPEN\nOPPOSED\n"

-- no other number has a name
unfoldable pub kind_name : ℕ → List ℕ
kind_name k = entry k kinds

unfoldable pub answer_name : ℕ → List ℕ
answer_name v = entry v answers

unfoldable pub agreement_name : ℕ → List ℕ
agreement_name s = entry s agreements
