-- The pages of document 01's session book, as records and as text. Assumes nothing.
use Rattle.std.specs.Prelude.{◌≡◌, [], ◌++◌}
use Rattle.answers.specs.Examples.{session_book}
use Rattle.pages.specs.Text.{ascii}
use Rattle.text.specs.declared.Form.TheVariants.{Claims, Log}
use Rattle.book_pages.specs.AskText.{ask_words_text}
use Rattle.book_pages.specs.ListText.{list_text}
use Rattle.book_pages.specs.GridText.{grid_text}
use Rattle.book_pages.specs.ShowText.{show_text}
use Rattle.book_pages.specs.WordsText.{words_text}

pub record SessionPages : Type 0 where
  pub grid :
      grid_text session_book
      ≡ ascii "PIECES 6\n"
      ++ ascii "   012345\n"
      ++ ascii " 0 =>>>>>\n"
      ++ ascii " 1 <=o>>>\n"
      ++ ascii " 2 <o=o>>\n"
      ++ ascii " 3 <<o=||\n"
      ++ ascii " 4 <<<|=>\n"
      ++ ascii " 5 <<<|<=\n"
  pub shown :
      show_text session_book
      ≡ ascii "PART 1 0\n"
      ++ ascii "PART 2 0\n"
      ++ ascii "PART 3 1\n"
      ++ ascii "PART 4 1\n"
      ++ ascii "PART 4 2\n"
      ++ ascii "PART 5 4\n"
      ++ ascii "APART 3 4\n"
      ++ ascii "MEETS 3 2\n"
      ++ ascii "NOTPART 2 1\n"
  pub none : show_text [] ≡ ascii "# no records\n"
  pub repeated : show_text (ascii "# twice\npart 1 0\npart 1 0\n") ≡ ascii "REFUSED 9 1 line 3 this record repeats an earlier one\n"
  pub unread : show_text (ascii "part 1 0\npart 1\n") ≡ ascii "UNREAD line 2 a number from 0 to 65535 is missing\n"
  pub no-claim : words_text Claims (ascii "void 3") ≡ ascii "WORDS UNREAD not a kind\n"
  pub no_number : words_text Log [] ≡ ascii "WORDS UNREAD a number from 0 to 65535 is missing\n"

-- what `ask` says of a claim in words, and the lists
pub record SessionAnswers : Type 0 where
  pub asked :
      ask_words_text session_book (ascii "part 5 2")
      ≡ ascii "PIECES 6 NODES 7 SHADOWS 1\n"
      ++ ascii "0 PART 5 2 FOLLOWS\n"
  pub inside :
      list_text session_book 1 (ascii "1")
      ≡ ascii "PIECES 4\n"
      ++ ascii "1\n"
      ++ ascii "3\n"
      ++ ascii "4\n"
      ++ ascii "5\n"
  pub apart :
      list_text session_book 2 (ascii "4")
      ≡ ascii "PIECES 1\n"
      ++ ascii "3\n"
  pub touching :
      list_text session_book 3 (ascii "2")
      ≡ ascii "PIECES 6\n"
      ++ ascii "0\n"
      ++ ascii "1\n"
      ++ ascii "2\n"
      ++ ascii "3\n"
      ++ ascii "4\n"
      ++ ascii "5\n"
  pub no-piece : list_text session_book 1 (ascii "6") ≡ ascii "REFUSED 13 0 the book has no piece of that number\n"
