-- `compare` of document 01's session book with itself and with another book, as records and as text. Assumes nothing.
use Rattle.std.specs.Prelude.{◌≡◌, [], ◌++◌}
use Rattle.answers.specs.Examples.{session_book}
use Rattle.pages.specs.Text.{ascii}
use Rattle.beside_pages.specs.ComparisonText.{comparison_text}

pub record SessionCompared : Type 0 where
  pub itself :
      comparison_text session_book session_book (ascii "part 2 1\n")
      ≡ ascii "TOGETHER YES\n"
      ++ ascii "0 PART 2 1 DENIED DENIED SAME\n"
  pub other :
      comparison_text session_book (ascii "part 2 1\n") (ascii "part 2 1\npart 5 2\npart 5 0\n")
      ≡ ascii "TOGETHER NO\n"
      ++ ascii "0 PART 2 1 DENIED FOLLOWS OPPOSED\n"
      ++ ascii "1 PART 5 2 FOLLOWS OPEN ONE OPEN\n"
      ++ ascii "2 PART 5 0 FOLLOWS FOLLOWS SAME\n"
  pub second-refused :
      comparison_text session_book (ascii "part 1 0\npart 1 0\n") [] ≡ ascii "SECOND REFUSED 9 1 line 2 this record repeats an earlier one\n"
